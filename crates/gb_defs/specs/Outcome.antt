-- What a request makes of the bytes of a table: the text that is to be written, or why there is none.
use Rattle.std.specs.Prelude.{ℕ, List, [], ◌∷◌, Option, Some, None, Result, Ok, Err}
use Rattle.gb_defs.specs.Column.{ColumnValue, Content, Frame, find_column}
use Rattle.gb_defs.specs.Classes.{firsts}
use Rattle.gb_defs.specs.Fold.{Method}
use Rattle.gb_defs.specs.Answer.{answer, agree_of, kept_rows}
use Rattle.gb_defs.specs.Fault.{Fault, ColumnNotFound, fault}
use Rattle.gb_defs.specs.Table.{TableFault, table}
use Rattle.gb_defs.specs.Text.{frame_text}
use Rattle.gb_defs.specs.Request.{Request, Group}

pub data Outcome : Type 0 where
  -- the first fault of the table
  BadTable : TableFault → Outcome
  -- the fault of the grouping; a missing key comes first
  BadGroup : Fault → Outcome
  -- the text of the answer
  Report : List ℕ → Outcome

abbrev pub column_onto : List ℕ → Option ColumnValue → Result (List ColumnValue) Fault → Result (List ColumnValue) Fault
column_onto name None rest = Err (ColumnNotFound name)
column_onto name (Some c) (Err missing) = Err missing
column_onto name (Some c) (Ok cs) = Ok (c ∷ cs)

-- the columns of these names, or the first name that is missing
abbrev pub find_columns : Frame → List (List ℕ) → Result (List ColumnValue) Fault
find_columns frame [] = Ok []
find_columns frame (name ∷ names) = column_onto name (find_column frame name) (find_columns frame names)

abbrev pub unless : Option Fault → List Content → Result (List Content) Fault
unless None columns = Ok columns
unless (Some f) columns = Err f

-- the columns of the answer, in the order of first rows, or why there are none
unfoldable pub grouped_by : Frame → List ColumnValue → List (List ℕ × Method) → Result (List Content) Fault
grouped_by frame keys aggs = unless (fault frame keys aggs) (answer frame keys aggs (firsts (agree_of frame keys) (kept_rows frame keys)))

abbrev pub grouped_if : Frame → Result (List ColumnValue) Fault → List (List ℕ × Method) → Result (List Content) Fault
grouped_if frame (Err missing) aggs = Err missing
grouped_if frame (Ok keys) aggs = grouped_by frame keys aggs

-- the same by the names of the keys, of which the first that is missing is the fault
abbrev pub grouped : Frame → List (List ℕ) → List (List ℕ × Method) → Result (List Content) Fault
grouped frame by aggs = grouped_if frame (find_columns frame by) aggs

-- the columns as a text, or the fault
abbrev pub written : List ℕ → Result (List Content) Fault → Outcome
written null_word (Ok columns) = Report (frame_text columns null_word)
written null_word (Err f) = BadGroup f

abbrev pub outcome_of_table : List (List ℕ) → List (List ℕ × Method) → List ℕ → Result Frame TableFault → Outcome
outcome_of_table by aggs null_word (Err where') = BadTable where'
outcome_of_table by aggs null_word (Ok frame) = written null_word (grouped frame by aggs)

unfoldable pub outcome : Request → List ℕ → Outcome
outcome (Group by aggs options) bytes = outcome_of_table by aggs options.null_word (table bytes options.null_word)
