use Rattle.std.proofs.Common.{◌≡◌, false, take}
use Rattle.std.specs.List.{list_any}
use Rattle.std.specs.Str.{bytes_eq}
use Rattle.gb_defs.specs.Column.{names_of}
use Rattle.gb_rows.specs.Lent.{keys_in}
use Rattle.gb_frame.proofs.selection.is_key.Given as goal

abbrev pub invariant-loop-key : goal.invariant-loop-key
invariant-loop-key l = list_any (bytes_eq l.name) (names_of (keys_in (take l.key-index l.keys))) ≡ false
