use Rattle.std.proofs.Common.{◌≡◌, take, true}
use Rattle.std.specs.List.{All}
use Rattle.gb_cols.proofs.codes.all_marked.Given as goal

abbrev pub invariant-loop-mark : goal.invariant-loop-mark
invariant-loop-mark l = All (λ mark. mark ≡ true) (take l.mark-index l.marks)
