use Rattle.std.proofs.Common.{sym, map}
use Rattle.std.specs.String.{string_bytes}
use Rattle.gb_run.specs.Request.{request_of}
use Rattle.gb_run.proofs.ReportLemmas.{words_some}
use Rattle.gb_run.proofs.run.prepare.Goals as goal

pub report-requires-clause-some : goal.report-requires-clause-some
report-requires-clause-some g c κs within = words_some (map string_bytes c.args.words.now) (request_of c.in-Ok-Some.request) (sym (rw c.in-Ok-Some.field-0-is at c.in-Ok-Some.ensures.ok))
