-- How lists are printed.
use Rattle.std.specs.Prelude.{ℕ, ◌==◌, List, [], ◌∷◌, if◌then◌else◌}
use Rattle.gb_defs.specs.Slot.{Slot, Items, items_of}
use Rattle.gb_defs.specs.ColumnType.{ColumnType, ListOf}
use Rattle.gb_defs.specs.CellText.{part_text}

-- a byte between quotes: behind a backslash where it is a quote or a backslash
abbrev pub escaped : ℕ → List ℕ
escaped byte = if byte == 34 then 92 ∷ 34 ∷ [] else if byte == 92 then 92 ∷ 92 ∷ [] else byte ∷ []

-- the text of a list of slots of a type
abbrev pub list_text : ColumnType → List Slot → List ℕ
list_text t slots = part_text (ListOf t) (Items (items_of slots))

-- the comma behind so many parts
abbrev pub comma_behind : ℕ → List ℕ
comma_behind before = if before == 0 then [] else 44 ∷ []
