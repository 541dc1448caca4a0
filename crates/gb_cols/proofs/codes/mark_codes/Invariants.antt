use Rattle.std.proofs.Common.{take}
use Rattle.gb_cols.specs.Codes.{HasMarked}
use Rattle.gb_cols.proofs.codes.mark_codes.Given as goal

abbrev pub invariant-loop-i : goal.invariant-loop-i
invariant-loop-i g l = HasMarked l.first (take l.i l.codes) l.fn.marks l.marks
