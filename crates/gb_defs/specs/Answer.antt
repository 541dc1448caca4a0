-- The frame with one row for each of some rows: the keys' slots there, and each aggregate's fold over
-- the rows that agree.
use Rattle.std.specs.Prelude.{ℕ, ◌==◌, Bool, false, List, [], ◌∷◌, ◌++◌, map, length, Option, Some, None, codes, if◌then◌else◌}
use Rattle.gb_defs.specs.Slot.{Slot, slot_at}
use Rattle.gb_defs.specs.ColumnType.{ColumnType, Flat, Null}
use Rattle.gb_defs.specs.Column.{ColumnValue, Frame, Content, NotSorted, find_column}
use Rattle.gb_defs.specs.Classes.{agree_by, class, longest, rows_below, stretched}
use Rattle.gb_defs.specs.Fold.{Method, Min, Max, First, Last, Sum, Groups, NUnique, Count, Implode, fold_of, fold_type}

-- the frame's height where it has columns, else the length of the longest key
abbrev pub height_of : Frame → List ColumnValue → ℕ
height_of [] keys = longest (map (λ key. key.slots) keys)
height_of (c ∷ cs) keys = length c.slots

-- the name of an aggregate's column in the answer
abbrev pub answer_name : List ℕ → Method → List ℕ
answer_name name Min = name ++ codes "_min"
answer_name name Max = name ++ codes "_max"
answer_name name First = name ++ codes "_first"
answer_name name Last = name ++ codes "_last"
answer_name name Sum = name ++ codes "_sum"
answer_name name Groups = codes "groups"
answer_name name NUnique = name ++ codes "_n_unique"
answer_name name (Count all) = name ++ codes "_count"
answer_name name Implode = name ++ codes "_agg_list"

abbrev pub answer_names : List ColumnValue → List (List ℕ × Method) → List (List ℕ)
answer_names keys aggs = map (λ key. key.name) keys ++ map (λ agg. answer_name agg.0 agg.1) aggs

-- a key of the height as it is; another stands for its first slot, so often, in one chunk with no flag
abbrev pub stretched_key : ℕ → ColumnValue → ColumnValue
stretched_key height key =
    let long = length key.slots == height in record {
      name = key.name;
      dtype = key.dtype;
      slots = stretched height key.slots;
      chunks = if long then key.chunks else height ∷ [];
      sorted = if long then key.sorted else NotSorted;
      all_used = if long then key.all_used else false;
    }

-- which rows agree, by keys that are stretched to the height
abbrev pub agree_of : Frame → List ColumnValue → ℕ → ℕ → Bool
agree_of frame keys = agree_by (map (λ key. (stretched_key (height_of frame keys) key).slots) keys)

-- the rows that are grouped: all of them, ascending
abbrev pub kept_rows : Frame → List ColumnValue → List ℕ
kept_rows frame keys = rows_below (height_of frame keys)

-- a key at some rows
abbrev pub key_at : ℕ → List ℕ → ColumnValue → Content
key_at height rows key = record { name = key.name; dtype = key.dtype; slots = map (slot_at (stretched_key height key).slots) rows }

abbrev pub type_in : Option ColumnValue → ColumnType
type_in None = Flat Null
type_in (Some c) = c.dtype

abbrev pub slots_in : Option ColumnValue → List Slot
slots_in None = []
slots_in (Some c) = c.slots

-- an aggregate over the rows of each group
abbrev pub aggregated : List ℕ × Method → Option ColumnValue → List (List ℕ) → Content
aggregated agg column lists = record {
  name = answer_name agg.0 agg.1;
  dtype = fold_type agg.1 (type_in column);
  slots = map (fold_of agg.1 (type_in column) (slots_in column)) lists;
}

-- the answer with its rows for these rows, whose classes are these
abbrev pub answer_by : Frame → List ColumnValue → List (List ℕ × Method) → List ℕ → List (List ℕ) → List Content
answer_by frame keys aggs rows lists = map (key_at (height_of frame keys) rows) keys ++ map (λ agg. aggregated agg (find_column frame agg.0) lists) aggs

unfoldable pub answer : Frame → List ColumnValue → List (List ℕ × Method) → List ℕ → List Content
answer frame keys aggs rows = answer_by frame keys aggs rows (map (class (agree_of frame keys) (kept_rows frame keys)) rows)
