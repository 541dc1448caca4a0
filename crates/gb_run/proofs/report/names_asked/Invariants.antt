use Rattle.std.proofs.Common.{◌≡◌, take}
use Rattle.gb_text.specs.Asked.{names_in}
use Rattle.gb_frame.specs.Agg.{aggs_of, names_of}
use Rattle.gb_run.specs.Request.{asked_names}
use Rattle.gb_run.proofs.report.names_asked.Given as goal

abbrev pub invariant-loop-agg : goal.invariant-loop-agg
invariant-loop-agg l = names_in l.names.items ≡ asked_names (names_of l.fn.by) (aggs_of (take l.agg-index l.aggs))
