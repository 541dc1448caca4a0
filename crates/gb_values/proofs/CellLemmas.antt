-- The text of a cell.
use Rattle.std.proofs.Common.{◌≡◌, ℕ, List, false, refl}
use Rattle.gb_defs.specs.CellText.{cell_text}
use Rattle.gb_defs.specs.ColumnType.{ColumnType}
use Rattle.gb_defs.specs.Slot.{Slot, Nil, Num, Bytes, Items, is_nil}

-- the word for null is not in the text of a value
pub text_alike : (word other : List ℕ) (t : ColumnType) (slot : Slot) → is_nil slot ≡ false → cell_text word t slot ≡ cell_text other t slot
text_alike word other t Nil e = cc
text_alike word other t (Num n) e = refl
text_alike word other t (Bytes bytes) e = refl
text_alike word other t (Items parts) e = refl
