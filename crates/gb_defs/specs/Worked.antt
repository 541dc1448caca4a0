-- Requests, columns and slots of the worked rows.
use Rattle.std.specs.Prelude.{ℕ, Bool, false, true, List, [], ◌∷◌, Option, Some, None, codes, negsuc, pos, ◌^◌, ◌-◌, replicate}
use Rattle.std.specs.Int.{w8, w64}
use Rattle.gb_defs.specs.Slot.{And, Bytes, End, Items, Nil, Num, Slot, slot_at}
use Rattle.gb_defs.specs.ColumnType.{CategoricalOrdering, ColumnType, Categorical, Decimal, Enum, Flat, Lexical, Unsigned, int64, text}
use Rattle.gb_defs.specs.Column.{ColumnValue, Frame, SortedFlag, fresh_column}
use Rattle.gb_defs.specs.Cell.{cell_slot}
use Rattle.gb_defs.specs.CellText.{cell_text}
use Rattle.gb_defs.specs.Classes.{rows_below, same_slot}
use Rattle.gb_defs.specs.Hash.{hash_of, row_hash}
use Rattle.gb_defs.specs.Partitions.{threaded_groups}
use Rattle.gb_defs.specs.Path.{Path, path_of}
use Rattle.gb_defs.specs.Fold.{Min, Max, First, Last, Method, Sum, Groups, NUnique, Count, Implode, fold_of}
use Rattle.gb_defs.specs.Request.{Request, Group, request, default_options}

-- ---- requests

-- what the words behind `group` ask for
abbrev pub asked : List (List ℕ) → Option Request
asked words = request (codes "group" ∷ words)

abbrev pub sums_by_date : Request
sums_by_date = Group (codes "date" ∷ []) ((codes "temp", Sum) ∷ (codes "temp", Count true) ∷ []) default_options

abbrev pub sums_by_key : Request
sums_by_key = Group (codes "k" ∷ []) ((codes "v", Sum) ∷ []) default_options

-- the least and the greatest, the first and the last, and how many are valid
abbrev pub ends_by_key : Request
ends_by_key =
    Group (codes "k" ∷ []) ((codes "v", Min) ∷ (codes "v", Max) ∷ (codes "v", First) ∷ (codes "v", Last) ∷ (codes "v", Count false) ∷ []) default_options

-- the row numbers, the slots and how many differ
abbrev pub lists_by_date : Request
lists_by_date = Group (codes "date" ∷ []) (([], Groups) ∷ (codes "temp", Implode) ∷ (codes "temp", NUnique) ∷ []) default_options

abbrev pub sums_of_colon : Request
sums_of_colon = Group (codes "k" ∷ []) ((codes "a:b", Sum) ∷ []) default_options

abbrev pub keys_alone : Request
keys_alone = Group (codes "k" ∷ []) [] default_options

abbrev pub by_day : Request
by_day = Group (codes "day" ∷ []) [] default_options

abbrev pub keys_and_sum : List ℕ → List ℕ → Request
keys_and_sum key other = Group (key ∷ other ∷ []) ((codes "v", Sum) ∷ []) default_options

abbrev pub two_workers : Request
two_workers = Group (codes "k" ∷ []) ((codes "v", Sum) ∷ []) (record default_options { workers = 2; partitions = 2; explain = true })

abbrev pub null_by : Request
null_by = Group (codes "k" ∷ []) [] (record default_options { null_word = codes "--by" })

-- ---- hashes and partitions

-- the least number, 0 and the least number again
abbrev pub least_and_zero : List Slot
least_and_zero = Num (negsuc (2 ^ 63 - 1)) ∷ Num (pos 0) ∷ Num (negsuc (2 ^ 63 - 1)) ∷ []

-- the hash of each of some slots under the seed 0 and no mixing
abbrev pub unmixed : List Slot → ℕ → ℕ
unmixed slots i = hash_of w64 0 (λ x. x) (slot_at slots i)

abbrev pub unmixed_text : List ℕ → ℕ
unmixed_text bytes = hash_of w64 0 (λ x. x) (Bytes bytes)

abbrev pub in_two_partitions : Bool → List (ℕ × List ℕ)
in_two_partitions sorted = threaded_groups (same_slot least_and_zero) (unmixed least_and_zero) 2 sorted (rows_below 3)

-- ---- columns and paths

-- the texts b and a, in this order, as categories and as an enum of this ordering
abbrev pub category_of : CategoricalOrdering → ColumnType
category_of ordering = Flat (Categorical (Some (codes "b" ∷ codes "a" ∷ [])) ordering)

abbrev pub enum_of : CategoricalOrdering → ColumnType
enum_of ordering = Flat (Enum (Some (codes "b" ∷ codes "a" ∷ [])) ordering)

abbrev pub b_and_a : ColumnType
b_and_a = category_of Lexical

-- so many rows of null, as a column of a type
abbrev pub nulls_of : ColumnType → ℕ → ColumnValue
nulls_of t count = fresh_column [] t (replicate count Nil)

abbrev pub flagged_as : SortedFlag → ColumnValue → ColumnValue
flagged_as flag c = record c { sorted = flag }

-- the path that a key is given, by so many workers, from more than two rows on
abbrev pub path_by : ℕ → ColumnValue → Path
path_by workers key = path_of key true workers 2

-- ---- cells

abbrev pub decimal_of : ℕ → ColumnType
decimal_of scale = Flat (Decimal None (Some scale))

-- what a field reads as, and how a slot is printed, where NA is null
abbrev pub reads : ColumnType → List ℕ → Option Slot
reads t field = cell_slot (codes "NA") t field

abbrev pub prints : ColumnType → Slot → List ℕ
prints t slot = cell_text (codes "NA") t slot

-- ---- folds and faults

-- 3, null, -1 and 3 again
abbrev pub four_slots : List Slot
four_slots = Num (pos 3) ∷ Nil ∷ Num (negsuc 0) ∷ Num (pos 3) ∷ []

-- a fold of these slots over some rows
abbrev pub folds : Method → List ℕ → Slot
folds method rows = fold_of method int64 four_slots rows

-- numbers k and texts v of one row
abbrev pub one_row : Frame
one_row = fresh_column (codes "k") int64 (Num (pos 1) ∷ []) ∷ fresh_column (codes "v") text (Bytes (codes "x") ∷ []) ∷ []

-- a key of so many rows of null
abbrev pub key_of : ℕ → ColumnValue
key_of count = fresh_column (codes "k") int64 (replicate count Nil)

-- ---- bytes and hashes of rows

-- the flags true and null in a list
abbrev pub pair_of : Slot
pair_of = Items (And (Num (pos 1)) (And Nil End))

-- the number 4 beside the text a, and two nulls
abbrev pub four_beside_text : Frame
four_beside_text = fresh_column (codes "n") (Flat (Unsigned w8)) (Num (pos 4) ∷ Nil ∷ []) ∷ fresh_column (codes "t") text (Bytes (codes "a") ∷ Nil ∷ []) ∷ []

-- ab beside c, and a beside bc
abbrev pub texts_beside : Frame
texts_beside = fresh_column (codes "a") text (Bytes (codes "ab") ∷ Bytes (codes "a") ∷ []) ∷ fresh_column (codes "b") text (Bytes (codes "c") ∷ Bytes (codes "bc") ∷ []) ∷ []

-- the hash of a row under the seed 0 and no mixing
abbrev pub hashed_unmixed : Frame → ℕ → ℕ
hashed_unmixed keys row = row_hash 0 (λ x. x) keys row
