-- A table's text read record by record by `csv`, and the columns of what was read.
use Rattle.std.specs.Prelude.{◌≡◌, ℕ, ◌+◌, ◌≤◌, List, [], ◌∷◌, length, map, Some, Ok}
use denote.Ref.{Bor}
use Rattle.csv.specs.declared.parser.State.{State}
use Rattle.csv.specs.declared.parser.State.TheVariants as st
use Rattle.csv.specs.declared.reader.Reader.{Reader}
use Rattle.csv.specs.Machine.{next_record}
use Rattle.csv.specs.Reading.{Reached, default_config, source_of, strip_bom}
use Rattle.gb_defs.specs.Slot.{Slot}
use Rattle.gb_defs.specs.Table.{Head, heads_of, rows_from}
use Rattle.gb_text.specs.Asked.{is_asked}
use Rattle.gb_text.specs.Building.{Building, in_one_chunk}
use Rattle.gb_text.specs.Table.{GivesRecords, built_from, left_of}

-- the columns, whatever their chunks, are those of these records, which are the text so far; the next record has
-- this row, and is that of what is left in a state
pub record IsReading (names : List (List ℕ)) (null_word bytes : List ℕ) (row : ℕ) (columns : List Building) (s : State) (left : List ℕ) : Type 0 where
  pub header : List (List ℕ)
  pub rows : List (List (List ℕ))
  pub heads : List Head
  pub slots : List (List Slot)
  pub state : State
  pub behind : List ℕ
  pub reached : Reached default_config st.StartRecord (strip_bom bytes) (header ∷ rows) state behind
  pub goes_on : next_record default_config state [] [] behind ≡ next_record default_config s [] [] left
  pub counted : row ≡ length rows + 1
  pub heads_are : heads_of header ≡ Ok heads
  pub slots_are : rows_from null_word 1 heads rows ≡ Ok slots
  pub columns_are : map in_one_chunk columns ≡ built_from (is_asked names) 0 heads slots

-- the columns are those of the records that were read, and the reader gives the others
pub record IsTaking (names : List (List ℕ)) (null_word bytes : List ℕ) (row : ℕ) (columns : List Building) (reader : Reader (Bor (List ℕ))) : Type 0 where
  pub gives : GivesRecords reader
  pub left : List ℕ
  pub source : source_of left_of reader ≡ Some left
  pub reading : IsReading names null_word bytes row columns reader.state left

-- the same of some text within the longest input
pub record IsFewTaking (null_word : List ℕ) (row : ℕ) (columns : List Building) (reader : Reader (Bor (List ℕ))) : Type 0 where
  pub names : List (List ℕ)
  pub bytes : List ℕ
  pub few : length bytes ≤ 4294967295
  pub taking : IsTaking names null_word bytes row columns reader
