use Rattle.std.proofs.Common.{◌≡◌, drop, max}
use Rattle.gb_defs.specs.Classes.{longest}
use Rattle.gb_paths.specs.Tuples.{slots_of}
use Rattle.gb_frame.specs.Key.{columns_of}
use Rattle.gb_frame.proofs.key.longest_key.Given as goal

abbrev pub invariant-loop-key : goal.invariant-loop-key
invariant-loop-key l = max l.most (longest (slots_of (columns_of (drop l.key-index l.keys)))) ≡ longest (slots_of (columns_of l.keys))
