-- The groups of the rows of a column, and of several columns.
use Rattle.std.specs.Prelude.{◌≡◌, ℕ, ◌≤◌, ◌==◌, ◌||◌, Bool, true, false, List, [], ◌∷◌, length, map, if◌then◌else◌}
use Rattle.std.specs.Int.{w64}
use Rattle.gb_defs.specs.Classes.{class, rows_below}
use Rattle.gb_defs.specs.Column.{ColumnValue, Frame, SortedFlag, frame_height}
use Rattle.gb_defs.specs.Groups.{Grouping, first_of}
use Rattle.gb_defs.specs.Hash.{hash_of, seed_mix}
use Rattle.gb_defs.specs.RowBytes.{row_bytes}
use Rattle.gb_defs.specs.Rows.{Rows, rows_of_slots}
use Rattle.gb_defs.specs.Slot.{Slot, Bytes, Items, items_of, slot_at}
use Rattle.gb_defs.specs.Path as path
use Rattle.gb_defs.specs.Notes as notes
use Rattle.gb_defs.specs.Notes.{AreDetected, detected, is_valued, keys_path, path_by_keys, valued_keys}
use Rattle.gb_base.specs.Sorted.{flag_of}
use Rattle.gb_cols.specs.Null.{AreNulls}
use Rattle.gb_base.specs.Pool.{partitions_of, seed_of, threshold_of, workers_of}
use Rattle.gb_base.specs.declared.pool.Pool.{Pool}
use Rattle.gb_rows.specs.Rows.{row_slots}
use Rattle.gb_paths.specs.Keys.{key_rows}
use Rattle.gb_paths.specs.declared.path.KeyOrder.{KeyOrder}
use Rattle.gb_paths.specs.declared.path.KeyPath.{KeyPath}
use Rattle.gb_paths.specs.declared.path.KeyPath.TheVariants as keyed
use Rattle.gb_paths.specs.declared.path.Path.{Path}
use Rattle.gb_paths.specs.declared.trace.Trace.{Trace}
use Rattle.gb_paths.specs.declared.path.Path.TheVariants as way

-- what a path stands for in the definitions
abbrev pub path_value : Path → path.Path
path_value way.Nulls = path.Nulls
path_value way.Sorted = path.Sorted
path_value way.Perfect = path.Perfect
path_value way.Table = path.Table
path_value way.Threaded = path.Threaded

abbrev pub key_path_value : KeyPath → path.Path
key_path_value keyed.Table = path.Table
key_path_value keyed.Threaded = path.Threaded

-- what a trace stands for in the definitions
abbrev pub trace_value : Trace → notes.Trace
trace_value trace = record { path = path_value trace.path; groups = trace.groups; keys_read = trace.keys_read }

-- a column as what is known of its slots has it: in an order, and in one chunk where it is seen so
abbrev pub ordered : KeyOrder → ColumnValue → ColumnValue
ordered order column = record column { sorted = flag_of order.sorted; chunks = if order.whole then length column.slots ∷ [] else column.chunks }

-- the path of the rows of a kind of keys
abbrev pub path_by : path.KeyKind → ColumnValue → Bool → Pool → path.Path
path_by kind column multithreaded pool = path.path_by_kind kind column multithreaded (workers_of pool) (threshold_of pool)

-- the path of a column's rows
abbrev pub column_path : ColumnValue → Bool → Pool → path.Path
column_path column multithreaded pool = path.path_of column multithreaded (workers_of pool) (threshold_of pool)

-- the rows that hold one slot, in the order and the form of a path
abbrev pub tuples_on : path.Path → ColumnValue → Bool → Pool → Grouping
tuples_on on column sorted pool =
    path.path_groups on (key_rows (seed_of pool) column) (path.code_count column.dtype) (partitions_of pool) sorted

-- those of the column's path
abbrev pub tuples_of : ColumnValue → Bool → Bool → Pool → Grouping
tuples_of column multithreaded sorted pool = tuples_on (column_path column multithreaded pool) column sorted pool

-- a column of categories that has no rows, or of which each code is held
pub record IsPerfect (column : ColumnValue) : Type 0 where
  pub kind : path.kind_of column.dtype ≡ path.Codes
  pub used : ((length column.slots == 0) || column.all_used) ≡ true

-- ---- several keys

-- a key that does not tell rows apart has nulls alone
abbrev pub IsNullUnlessValued : ColumnValue → Type 0
IsNullUnlessValued key = is_valued key ≡ false → AreNulls key.slots

abbrev pub slots_of : Frame → List (List Slot)
slots_of keys = map (λ key. key.slots) keys

-- the slots of the keys at a row, as one
abbrev pub slots_at : Frame → ℕ → Slot
slots_at keys row = Items (items_of (map (λ key. slot_at key.slots row) keys))

-- the rows of several keys, hashed by their bytes, to which a key of the null type adds nothing
abbrev pub rows_of_all : ℕ → Frame → Rows
rows_of_all seed keys = record {
  count = frame_height keys;
  slot = slots_at keys;
  hash = λ row. hash_of w64 seed seed_mix (Bytes (row_bytes (valued_keys keys) row));
}

abbrev pub all_path : Frame → Bool → Pool → path.Path
all_path keys multithreaded pool = path_by_keys (valued_keys keys) (frame_height keys) multithreaded (workers_of pool) (threshold_of pool)

-- the rows that hold one slot in each key, in the order and the form of the path. One key has its own path
abbrev pub tuples_by : Frame → Bool → Bool → Pool → Grouping
tuples_by (key ∷ []) multithreaded sorted pool = tuples_of key multithreaded sorted pool
tuples_by keys multithreaded sorted pool =
    path.path_groups (all_path keys multithreaded pool) (rows_of_all (seed_of pool) keys) 0 (partitions_of pool) sorted

-- the groups of the rows of keys by their bytes, as those of a column of bytes
abbrev pub tuples_of_bytes : Frame → Bool → Bool → Pool → Grouping
tuples_of_bytes keys multithreaded sorted pool =
    path.path_groups (path.hashed_path true (frame_height keys) multithreaded (workers_of pool) (threshold_of pool)) (rows_of_slots w64 (seed_of pool) seed_mix (row_slots keys)) 0 (partitions_of pool) sorted

-- each group is a row with the rows below n that agree with it, and there are no more groups than rows
pub record AreClasses (agree : ℕ → ℕ → Bool) (n : ℕ) (pairs : List (ℕ × List ℕ)) : Type 0 where
  pub classes : pairs ≡ map (λ i. (i, class agree (rows_below n) i)) (map first_of pairs)
  pub few : length pairs ≤ n

-- ---- keys in the order that is found

-- the groups of the rows of keys in the order that these are found to be in, and the path to them
pub record AreFound (keys : Frame) (multithreaded sorted : Bool) (pool : Pool) (groups : Grouping) (on : path.Path) : Type 0 where
  pub flag : SortedFlag
  pub ordered : AreDetected flag keys
  pub groups_are : groups ≡ tuples_by (detected flag keys) multithreaded sorted pool
  pub path_is : on ≡ keys_path (detected flag keys) multithreaded (workers_of pool) (threshold_of pool)
