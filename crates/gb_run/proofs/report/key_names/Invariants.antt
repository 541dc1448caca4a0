use Rattle.std.proofs.Common.{◌≡◌, take}
use Rattle.gb_text.specs.Asked.{names_in}
use Rattle.gb_frame.specs.Agg.{names_of}
use Rattle.gb_run.proofs.report.key_names.Given as goal

abbrev pub invariant-loop-name : goal.invariant-loop-name
invariant-loop-name l = names_in l.names.items ≡ names_of (take l.name-index l.by)
