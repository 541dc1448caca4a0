-- Texts that have their codes so far.
use Rattle.std.specs.Prelude.{◌≡◌, ℕ, List, [], ◌++◌, map, Some}
use Rattle.std.specs.List.{All}
use Rattle.gb_defs.specs.CellText.{code_text}
use Rattle.gb_defs.specs.ColumnType.{Fits, text}
use Rattle.gb_defs.specs.Slot.{Slot, Num, Bytes}
use Rattle.gb_defs.specs.Table.{coded_slot, texts_after}

-- the text that a slot's code stands for
abbrev pub decoded_slot : List (List ℕ) → Slot → Slot
decoded_slot texts (Num code) = Bytes (code_text (Some texts) code)
decoded_slot texts slot = slot

-- slots so far with their texts behind some, and their codes behind some
pub record AreCoded (known : List (List ℕ)) (before slots : List Slot) (texts : List (List ℕ)) (codes : List Slot) : Type 0 where
  pub texts_are : texts ≡ texts_after known slots
  pub codes_are : codes ≡ before ++ map (coded_slot texts) slots

-- the codes are those of the texts that they stand for, and no other text is there
pub record AreSoFar (texts : List (List ℕ)) (codes : List Slot) : Type 0 where
  pub coded : AreCoded [] [] (map (decoded_slot texts) codes) texts codes
  pub fitting : All (Fits text) (map (decoded_slot texts) codes)
