use Rattle.std.proofs.Common.{take}
use Rattle.gb_logical.specs.CategoricalBuilder.{AreCoded}
use Rattle.gb_logical.proofs.categorical.codes.code_texts.Given as goal

abbrev pub invariant-loop-i : goal.invariant-loop-i
invariant-loop-i l = AreCoded l.fn.known l.fn.codes (take l.i l.texts) l.known l.codes
