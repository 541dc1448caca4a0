-- A frame, written as a table's text: `csv`'s row of the header fields, and one of each row's cells. It
-- is empty for a frame without columns.
use Rattle.std.specs.Prelude.{ℕ, List, [], ◌∷◌, ◌++◌, map, length}
use Rattle.std.specs.List.{flat_map}
use Rattle.csv.specs.Writing.{row_text, default_writer}
use Rattle.gb_defs.specs.Slot.{slot_at}
use Rattle.gb_defs.specs.Column.{Content}
use Rattle.gb_defs.specs.Classes.{rows_below}
use Rattle.gb_defs.specs.TypeWord.{type_word}
use Rattle.gb_defs.specs.CellText.{cell_text}

-- the name, a colon and the type's word
abbrev pub header_field : Content → List ℕ
header_field c = c.name ++ 58 ∷ type_word c.dtype

abbrev pub header_line : List Content → List ℕ
header_line columns = row_text default_writer (map header_field columns)

abbrev pub row_cells : List ℕ → List Content → ℕ → List (List ℕ)
row_cells null_word columns row = map (λ c. cell_text null_word c.dtype (slot_at c.slots row)) columns

abbrev pub row_line : List ℕ → List Content → ℕ → List ℕ
row_line null_word columns row = row_text default_writer (row_cells null_word columns row)

unfoldable pub frame_text : List Content → List ℕ → List ℕ
frame_text [] null_word = []
frame_text (c ∷ cs) null_word = header_line (c ∷ cs) ++ flat_map (row_line null_word (c ∷ cs)) (rows_below (length c.slots))
