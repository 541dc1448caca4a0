use Rattle.std.proofs.Common.{◌≡◌, take}
use Rattle.gb_agg.specs.Method.{method_of}
use Rattle.gb_frame.specs.Agg.{aggs_of, names_of}
use Rattle.gb_frame.specs.Refusals.{each_by}
use Rattle.gb_frame.proofs.selection.named_aggs.Given as goal

abbrev pub invariant-loop-name : goal.invariant-loop-name
invariant-loop-name l = aggs_of l.aggs.items ≡ each_by (method_of l.method) (names_of (take l.name-index l.names))
