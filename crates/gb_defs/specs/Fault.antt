-- Why a grouping is refused, its causes in their order.
use Rattle.std.specs.Prelude.{ℕ, ◌==◌, nat_lt, Bool, true, false, not, ◌||◌, ◌&&◌, List, [], ◌∷◌, length, Option, Some, None, is_none, if◌then◌else◌}
use Rattle.std.specs.List.{list_any}
use Rattle.std.specs.Option.{option_or}
use Rattle.gb_defs.specs.ColumnType.{ColumnType, FlatType, Flat, ListOf, ArrayOf, StructOf, Null, Boolean, Unsigned, Signed, Decimal, Duration}
use Rattle.gb_defs.specs.Column.{ColumnValue, Frame, find_column, first_repeated}
use Rattle.gb_defs.specs.Fold.{Method, Min, Max, Sum, Groups}
use Rattle.gb_defs.specs.Answer.{height_of, answer_names}

pub data Operation : Type 0 where
  OfSum : Operation
  OfProduct : Operation
  OfMin : Operation
  OfMax : Operation
  OfHash : Operation
  OfRowEncoding : Operation

pub data Fault : Type 0 where
  ComputeError : Fault
  ShapeMismatch : Fault
  TooManyRows : ℕ → Fault
  ColumnNotFound : List ℕ → Fault
  InvalidOperation : Operation → List ℕ → Fault
  Duplicate : List ℕ → Fault
  SchemaMismatch : List ℕ → Fault

abbrev pub keyless_fault : List ColumnValue → Option Fault
keyless_fault [] = Some ComputeError
keyless_fault (key ∷ keys) = None

-- a key has another length than the height, and not 1
abbrev pub shape_fault : ℕ → List ColumnValue → Option Fault
shape_fault height keys = if list_any (λ key. not ((length key.slots == height) || (length key.slots == 1))) keys then Some ShapeMismatch else None

abbrev pub rows_fault : ℕ → Option Fault
rows_fault height = if nat_lt 4294967295 height then Some (TooManyRows height) else None

abbrev pub is_groups : Method → Bool
is_groups Groups = true
is_groups _ = false

-- the first aggregate, other than that of the row lists, whose column the frame lacks
abbrev pub missing_fault : Frame → List (List ℕ × Method) → Option Fault
missing_fault frame [] = None
missing_fault frame (agg ∷ aggs) =
    if not (is_groups agg.1) && is_none (find_column frame agg.0) then Some (ColumnNotFound agg.0) else missing_fault frame aggs

abbrev pub sums_flat : FlatType → Bool
sums_flat Boolean = true
sums_flat (Unsigned w) = true
sums_flat (Signed w) = true
sums_flat (Decimal precision scale) = true
sums_flat (Duration unit) = true
sums_flat _ = false

-- whether a column of the type has a sum
abbrev pub has_sum : ColumnType → Bool
has_sum (Flat t) = sums_flat t
has_sum (ListOf t) = false
has_sum (ArrayOf t width) = false
has_sum (StructOf fs) = false

abbrev pub orders_flat : FlatType → Bool
orders_flat Null = false
orders_flat _ = true

-- whether a column of the type has a least slot
abbrev pub has_least : ColumnType → Bool
has_least (Flat t) = orders_flat t
has_least (ListOf t) = false
has_least (ArrayOf t width) = false
has_least (StructOf fs) = false

-- what an aggregate asks that the type of its column does not have
abbrev pub unfit_operation : Method → ColumnType → Option Operation
unfit_operation Sum t = if has_sum t then None else Some OfSum
unfit_operation Min t = if has_least t then None else Some OfMin
unfit_operation Max t = if has_least t then None else Some OfMax
unfit_operation _ t = None

abbrev pub unfit_at : Method → Option ColumnValue → Option Operation
unfit_at method None = None
unfit_at method (Some column) = unfit_operation method column.dtype

abbrev pub unfit_or : List ℕ → Option Operation → Option Fault → Option Fault
unfit_or name None rest = rest
unfit_or name (Some operation) rest = Some (InvalidOperation operation name)

-- the first aggregate whose column is of an unfitting type
abbrev pub unfit_fault : Frame → List (List ℕ × Method) → Option Fault
unfit_fault frame [] = None
unfit_fault frame (agg ∷ aggs) = unfit_or agg.0 (unfit_at agg.1 (find_column frame agg.0)) (unfit_fault frame aggs)

abbrev pub duplicate_of : Option (List ℕ) → Option Fault
duplicate_of None = None
duplicate_of (Some name) = Some (Duplicate name)

-- the first of the causes that holds
unfoldable pub fault : Frame → List ColumnValue → List (List ℕ × Method) → Option Fault
fault frame keys aggs =
    option_or (keyless_fault keys) (option_or (shape_fault (height_of frame keys) keys) (option_or (rows_fault (height_of frame keys))
    (option_or (missing_fault frame aggs) (option_or (unfit_fault frame aggs) (duplicate_of (first_repeated (answer_names keys aggs)))))))

-- ---- hashes

-- the slots of a type that holds others have no hash
abbrev pub hash_fault : ColumnType → List ℕ → Option Fault
hash_fault (Flat t) name = None
hash_fault t name = Some (InvalidOperation OfHash name)

abbrev pub key_fault : ColumnValue → Option Fault
key_fault column = hash_fault column.dtype column.name

-- ---- frames

abbrev pub misaligned_fault : Frame → Bool → Option Fault
misaligned_fault frame true = None
misaligned_fault frame false = Some ShapeMismatch
