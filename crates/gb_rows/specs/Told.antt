-- What the bytes of rows tell of the rows.
use Rattle.std.specs.Prelude.{◌≡◌, ℕ, ◌<◌, List, [], ◌++◌, All, map}
use Rattle.std.specs.Str.{bytes_eq}
use Rattle.gb_defs.specs.Classes.{agree_by}
use Rattle.gb_defs.specs.Column.{ColumnValue, Frame, frame_height}
use Rattle.gb_defs.specs.ColumnType.{Fits}
use Rattle.gb_defs.specs.RowBytes.{row_bytes}

-- rows have the same bytes exactly where all their slots are the same, and none is the beginning of another
pub record AreToldByRows (keys : Frame) : Type 0 where
  pub same : (i j : ℕ) → i < frame_height keys → j < frame_height keys → bytes_eq (row_bytes keys i) (row_bytes keys j) ≡ agree_by (map (λ key. key.slots) keys) i j
  pub apart : (i j : ℕ) → i < frame_height keys → j < frame_height keys → (more : List ℕ) → row_bytes keys i ++ more ≡ row_bytes keys j → more ≡ []

-- the slots of a key fit its type
abbrev pub FitsType : ColumnValue → Type 0
FitsType key = All (Fits key.dtype) key.slots

abbrev pub FitTypes : Frame → Type 0
FitTypes keys = All FitsType keys
