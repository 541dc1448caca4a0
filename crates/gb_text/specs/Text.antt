-- What a writer of records over bytes has taken of a text.
use Rattle.std.specs.Prelude.{◌≡◌, ◌==◌, ◌&&◌, ◌||◌, ◌+◌, ◌^◌, ◌<◌, not, ℕ, List, [], ◌∷◌, ◌++◌, map, length, Some, Vec}
use Rattle.std.specs.Global.{Global}
use Rattle.std.specs.List.{flat_map, range_with_len}
use Rattle.csv.specs.Writing.{default_writer, fields_written, has_written, is_blank, row_body, row_text, text_written, writer_setup}
use Rattle.csv.specs.declared.writer.Writer.{Writer}
use Rattle.gb_defs.specs.Column.{Content, content}
use Rattle.gb_defs.specs.Text.{row_line}
use Rattle.gb_series.specs.declared.series.Series.{Series}
use Rattle.gb_series.specs.Series.{value_of}

-- these fields of a record, behind these bytes
pub record HasBegun (writer : Writer (Vec ℕ Global)) (before : List ℕ) (fields : List (List ℕ)) : Type 0 where
  pub setup : writer_setup writer ≡ default_writer
  pub text : text_written (λ v. Some v.items) writer ≡ Some (before ++ row_body default_writer fields)
  pub count : fields_written writer ≡ length fields
  pub blank : is_blank default_writer fields ≡ (not (has_written writer) && ((length fields == 0) || (length fields == 1)))

-- a field was put behind those of the record
abbrev pub TakesField : Writer (Vec ℕ Global) → Writer (Vec ℕ Global) → List ℕ → Type 0
TakesField old new field = (before : List ℕ) (fields : List (List ℕ)) → length fields + 1 < 2 ^ 64 → HasBegun old before fields → HasBegun new before (fields ++ field ∷ [])

-- the record that was begun has ended
abbrev pub EndsRow : Writer (Vec ℕ Global) → Writer (Vec ℕ Global) → Type 0
EndsRow old new = (before : List ℕ) (fields : List (List ℕ)) → HasBegun old before fields → HasBegun new (before ++ row_text default_writer fields) []

-- rows were put behind those before, and no record is begun
abbrev pub TakesRows : Writer (Vec ℕ Global) → Writer (Vec ℕ Global) → List ℕ → Type 0
TakesRows old new text = (before : List ℕ) → HasBegun old before [] → HasBegun new (before ++ text) []

-- the columns, as a text shows them
abbrev pub contents_of : List Series → List Content
contents_of columns = map (λ column. content (value_of column)) columns

-- the rows of a range, its first row and how many they are, as text
abbrev pub rows_text : List ℕ → List Content → ℕ × ℕ → List ℕ
rows_text null_word contents range = flat_map (row_line null_word contents) (range_with_len range.0 range.1)
