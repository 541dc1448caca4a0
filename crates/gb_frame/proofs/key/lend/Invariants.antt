use Rattle.std.proofs.Common.{◌≡◌, take}
use Rattle.gb_rows.specs.Lent.{keys_in}
use Rattle.gb_frame.specs.Key.{columns_of}
use Rattle.gb_frame.proofs.key.lend.Given as goal

abbrev pub invariant-loop-key : goal.invariant-loop-key
invariant-loop-key l = keys_in l.columns.items ≡ columns_of (take l.key-index l.keys)
