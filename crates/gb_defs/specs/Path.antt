-- Which way a key's rows are grouped. The groups are the same on every path; their order and their form
-- are not. The rules are those of the original: a null key is one run, a sorted key is cut into runs, a
-- category is grouped by its codes, and everything else by hashes.
use Rattle.std.specs.Prelude.{ℕ, pos, ◌==◌, Bool, true, false, not, ◌&&◌, ◌||◌, nat_lt, nat_le, List, [], ◌∷◌, ◌++◌, length, map, filter, flat_map, Option, Some, None, if◌then◌else◌}
use Rattle.std.specs.List.{list_any, range_with_len}
use Rattle.gb_defs.specs.Slot.{Slot, Num, is_nil, slot_eq}
use Rattle.gb_defs.specs.ColumnType.{ColumnType, FlatType, Flat, Null, String, Binary, BinaryOffset, Categorical, Enum}
use Rattle.gb_defs.specs.Column.{ColumnValue, SortedFlag, Ascending, Descending, NotSorted, categories_of}
use Rattle.gb_defs.specs.Classes.{class, firsts, groups, rows_below}
use Rattle.gb_defs.specs.Groups.{Grouping, Slice, first_of, idx_groups}
use Rattle.gb_defs.specs.Rows.{Rows, hashed_groups, same_slot_at, table_groups}

pub data Path : Type 0 where
  -- all rows are one run
  Nulls : Path
  -- by runs of one key
  Sorted : Path
  -- by codes
  Perfect : Path
  -- by one table
  Table : Path
  -- by a table for each partition
  Threaded : Path

-- what the values of a type are to a key
pub data KeyKind : Type 0 where
  NoValues : KeyKind
  Numbers : KeyKind
  Codes : KeyKind
  ByteLists : KeyKind
  Parts : KeyKind

abbrev pub flat_kind : FlatType → KeyKind
flat_kind Null = NoValues
flat_kind String = ByteLists
flat_kind Binary = ByteLists
flat_kind BinaryOffset = ByteLists
flat_kind (Categorical texts ordering) = Codes
flat_kind (Enum texts ordering) = Codes
flat_kind _ = Numbers

abbrev pub kind_of : ColumnType → KeyKind
kind_of (Flat t) = flat_kind t
kind_of _ = Parts

abbrev pub is_flagged : SortedFlag → Bool
is_flagged Ascending = true
is_flagged Descending = true
is_flagged NotSorted = false

-- by partitions where that is asked for and more than one worker is there, a key of numbers only from
-- more rows than the threshold on
abbrev pub hashed_path : Bool → ℕ → Bool → ℕ → ℕ → Path
hashed_path by_bytes rows multithreaded workers threshold =
    if multithreaded && nat_lt 1 workers && (by_bytes || nat_lt threshold rows) then Threaded else Table

-- by runs where a flag says that equal numbers stand together
abbrev pub number_path : ColumnValue → Bool → ℕ → ℕ → Path
number_path key multithreaded workers threshold =
    if is_flagged key.sorted then Sorted else hashed_path false (length key.slots) multithreaded workers threshold

abbrev pub path_by_kind : KeyKind → ColumnValue → Bool → ℕ → ℕ → Path
path_by_kind NoValues key multithreaded workers threshold = Nulls
path_by_kind Numbers key multithreaded workers threshold = number_path key multithreaded workers threshold
path_by_kind Codes key multithreaded workers threshold =
    if (length key.slots == 0) || key.all_used then Perfect else number_path key multithreaded workers threshold
path_by_kind ByteLists key multithreaded workers threshold =
    if is_flagged key.sorted && not (list_any is_nil key.slots) && (length key.chunks == 1) then Sorted
    else hashed_path true (length key.slots) multithreaded workers threshold
path_by_kind Parts key multithreaded workers threshold = hashed_path true (length key.slots) multithreaded workers threshold

-- the path of a key, for so many workers and from so many rows on
abbrev pub path_of : ColumnValue → Bool → ℕ → ℕ → Path
path_of key multithreaded workers threshold = path_by_kind (kind_of key.dtype) key multithreaded workers threshold

-- the key with no flag
abbrev pub unflagged : ColumnValue → ColumnValue
unflagged key = record key { sorted = NotSorted; all_used = false }

-- ---- the order and the form of each path

abbrev pub text_count : Option (List (List ℕ)) → ℕ
text_count None = 0
text_count (Some texts) = length texts

-- how many codes a key's type has
abbrev pub code_count : ColumnType → ℕ
code_count t = text_count (categories_of t)

-- rows by the code that they hold, those that hold none last
abbrev pub by_code : (ℕ → Slot) → ℕ → List ℕ → List ℕ
by_code slot codes rows =
    flat_map (λ code. filter (λ i. slot_eq (slot i) (Num (pos code))) rows) (range_with_len 0 codes) ++ filter (λ i. is_nil (slot i)) rows

abbrev pub code_groups : Rows → ℕ → List (ℕ × List ℕ)
code_groups rows codes =
    let agree = same_slot_at rows.slot in let all = rows_below rows.count in
    map (λ i. (i, class agree all i)) (by_code rows.slot codes (firsts agree all))

abbrev pub perfect_pairs : Rows → ℕ → Bool → List (ℕ × List ℕ)
perfect_pairs rows codes sorted = if sorted then groups (same_slot_at rows.slot) (rows_below rows.count) else code_groups rows codes

-- whether numbers never descend
abbrev pub ascends : List ℕ → Bool
ascends [] = true
ascends (n ∷ []) = true
ascends (n ∷ m ∷ ns) = nat_le n m && ascends (m ∷ ns)

-- runs in the order of their first rows, that do not roll; they count as flagged
abbrev pub run_groups : Rows → Grouping
run_groups rows = record { pairs = groups (same_slot_at rows.slot) (rows_below rows.count); form = Slice false; flagged = true }

-- the groups of rows by a path, of a key with so many codes, among n partitions
abbrev pub path_groups : Path → Rows → ℕ → ℕ → Bool → Grouping
path_groups Nulls rows codes n sorted = run_groups rows
path_groups Sorted rows codes n sorted = run_groups rows
path_groups Perfect rows codes n sorted = idx_groups (perfect_pairs rows codes sorted) (ascends (map first_of (perfect_pairs rows codes sorted)))
path_groups Table rows codes n sorted = table_groups rows sorted
path_groups Threaded rows codes n sorted = hashed_groups rows n sorted
