use Rattle.std.proofs.Common.{take}
use Rattle.gb_frame.specs.Key.{AreOrOne, columns_of}
use Rattle.gb_frame.proofs.key.check_lengths.Given as goal

abbrev pub invariant-loop-key : goal.invariant-loop-key
invariant-loop-key l = AreOrOne l.height (columns_of (take l.key-index l.keys))
