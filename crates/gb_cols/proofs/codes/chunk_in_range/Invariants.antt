use Rattle.std.proofs.Common.{take}
use Rattle.std.specs.List.{All}
use Rattle.gb_cols.specs.Codes.{IsCodeBelow}
use Rattle.gb_cols.proofs.codes.chunk_in_range.Given as goal

abbrev pub invariant-loop-i : goal.invariant-loop-i
invariant-loop-i g l = All (IsCodeBelow l.n) (take l.i l.codes)
