-- What a run says of how it groups the rows, where that is asked.
use Rattle.std.specs.Prelude.{◌≡◌, ℕ, Bool, true, false, List, [], ◌∷◌, ◌++◌, codes, filter, length, max, min, Ok}
use Rattle.std.specs.Fmt.{decimal}
use Rattle.gb_defs.specs.Answer.{agree_of, kept_rows}
use Rattle.gb_defs.specs.Classes.{firsts}
use Rattle.gb_defs.specs.Column.{ColumnValue, Frame, IsDetected, SortedFlag, frame_height}
use Rattle.gb_defs.specs.Outcome.{find_columns}
use Rattle.gb_defs.specs.Path.{Path, Nulls, Sorted, Perfect, Table, Threaded, KeyKind, NoValues, hashed_path, kind_of, path_of}
use Rattle.gb_defs.specs.Request.{Request, Group, ToolOptions}
use Rattle.gb_defs.specs.Table.{table}

-- ---- the path of several keys

abbrev pub has_values : KeyKind → Bool
has_values NoValues = false
has_values _ = true

-- whether a key tells rows apart: one of the null type does not
abbrev pub is_valued : ColumnValue → Bool
is_valued key = has_values (kind_of key.dtype)

abbrev pub valued_keys : Frame → Frame
valued_keys keys = filter is_valued keys

-- by hashes as bytes are grouped; where no key has values all rows are one run
abbrev pub path_by_keys : Frame → ℕ → Bool → ℕ → ℕ → Path
path_by_keys [] rows multithreaded workers threshold = Nulls
path_by_keys (key ∷ keys) rows multithreaded workers threshold = hashed_path true rows multithreaded workers threshold

-- one key has its own path
abbrev pub keys_path : Frame → Bool → ℕ → ℕ → Path
keys_path (key ∷ []) multithreaded workers threshold = path_of key multithreaded workers threshold
keys_path keys multithreaded workers threshold = path_by_keys (valued_keys keys) (frame_height keys) multithreaded workers threshold

-- ---- keys in the order that is found

-- a column in an order, in one chunk
abbrev pub in_order : SortedFlag → ColumnValue → ColumnValue
in_order flag column = record column { sorted = flag; chunks = length column.slots ∷ [] }

-- of one key alone an order is found
abbrev pub AreDetected : SortedFlag → Frame → Type 0
AreDetected flag (key ∷ []) = IsDetected flag key
AreDetected flag _ = Unit {0}

-- one key in its order, several as they are
abbrev pub detected : SortedFlag → Frame → Frame
detected flag (key ∷ []) = in_order flag key ∷ []
detected flag keys = keys

-- ---- what is told

-- how many keys go into a hash table
abbrev pub keys_read : Path → ℕ → ℕ
keys_read Table rows = rows
keys_read Threaded rows = rows
keys_read _ rows = 0

-- which way rows are grouped, how many groups there are, and how many keys go into a hash table
pub record Trace : Type 0 where
  pub path : Path
  pub groups : ℕ
  pub keys_read : ℕ

-- that of so many rows in so many groups
abbrev pub trace_of : Path → ℕ → ℕ → Trace
trace_of path rows groups = record { path = path; groups = groups; keys_read = keys_read path rows }

abbrev pub path_name : Path → List ℕ
path_name Nulls = codes "nulls"
path_name Sorted = codes "sorted"
path_name Perfect = codes "perfect"
path_name Table = codes "table"
path_name Threaded = codes "threaded"

abbrev pub trace_text : Trace → List ℕ
trace_text t = codes "path " ++ path_name t.path ++ codes ", groups " ++ decimal t.groups ++ codes ", keys read " ++ decimal t.keys_read

-- how the rows of a frame are grouped by the columns of these names, by so many workers and from so many rows on
pub record IsTraced (frame : Frame) (by : List (List ℕ)) (workers threshold : ℕ) (trace : Trace) : Type 0 where
  pub keys : List ColumnValue
  pub found : find_columns frame by ≡ Ok keys
  pub flag : SortedFlag
  pub ordered : AreDetected flag keys
  pub is : trace ≡ trace_of (keys_path (detected flag keys) true workers threshold) (frame_height keys) (length (firsts (agree_of frame keys) (kept_rows frame keys)))

-- the options within their bounds, as words give them
abbrev pub bounded_workers : ToolOptions → ℕ
bounded_workers options = min 64 (max 1 options.workers)

abbrev pub bounded_threshold : ToolOptions → ℕ
bounded_threshold options = max 1 options.threshold

-- the same of the table that has these bytes
abbrev pub IsTracedIn : List ℕ → Request → Trace → Type 0
IsTracedIn bytes (Group by aggs options) trace = (frame : Frame) × (table bytes options.null_word ≡ Ok frame) × IsTraced frame by (bounded_workers options) (bounded_threshold options) trace

abbrev pub asks_trace : Request → Bool
asks_trace (Group by aggs options) = options.explain

-- the line of a trace of which this holds, where it is asked for, and else nothing
abbrev pub IsTraceLine : Bool → (Trace → Type 0) → List ℕ → Type 0
IsTraceLine true P line = (trace : Trace) × P trace × (line ≡ trace_text trace ++ 10 ∷ [])
IsTraceLine false P line = line ≡ []
