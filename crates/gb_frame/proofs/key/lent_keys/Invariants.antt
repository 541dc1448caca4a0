use Rattle.std.proofs.Common.{◌≡◌, take}
use Rattle.gb_rows.specs.Lent.{keys_in}
use Rattle.gb_frame.specs.Key.{columns_of}
use Rattle.gb_frame.proofs.key.lent_keys.Given as goal

abbrev pub invariant-loop-column : goal.invariant-loop-column
invariant-loop-column l = columns_of l.keys.items ≡ keys_in (take l.column-index l.columns)
