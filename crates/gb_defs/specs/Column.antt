-- What contracts see of a column and of a frame, and the facts that a column's flags state.
use Rattle.std.specs.Prelude.{◌≡◌, ℕ, zero, suc, ◌≤◌, ◌<◌, ℤ, List, [], ◌∷◌, map, replicate, Bool, true, false, not, length, refl, cond, Option, None, Some, ◌==◌, IsTrue}
use Rattle.std.proofs.Common.{ap}
use Rattle.std.specs.Str.{bytes_eq}
use Rattle.std.specs.List.{list_any}
use Rattle.std.specs.Coded.{Coded, code_by, coded×, coded_ℕ, coded_bool, coded_list}
use Rattle.gb_defs.specs.Slot.{Slot, Num, is_nil, slot_at, slot_code, slot_eq}
use Rattle.std.specs.Prelude.{pos}
use Rattle.gb_defs.specs.ColumnType.{ColumnType, Flat, ListOf, ArrayOf, StructOf, Null, Categorical, Enum, type_code}
use Rattle.gb_defs.specs.Order.{ByCode, below}
use Rattle.gb_defs.specs.Slices.{shown, shown_chunks}

pub data SortedFlag : Type 0 where
  Ascending : SortedFlag
  Descending : SortedFlag
  NotSorted : SortedFlag

pub record ColumnValue : Type 0 where
  pub name : List ℕ
  pub dtype : ColumnType
  pub slots : List Slot
  -- the lengths of the chunks, in order
  pub chunks : List ℕ
  pub sorted : SortedFlag
  -- that every code of a category column's texts occurs
  pub all_used : Bool

-- what remains of a column where chunks and flags are left out
pub record Content : Type 0 where
  pub name : List ℕ
  pub dtype : ColumnType
  pub slots : List Slot

abbrev pub content : ColumnValue → Content
content c = record { name = c.name; dtype = c.dtype; slots = c.slots }

abbrev pub Frame : Type 0
Frame = List ColumnValue

-- a column in one chunk, with no flag
abbrev pub fresh_column : List ℕ → ColumnType → List Slot → ColumnValue
fresh_column name dtype slots = record { name = name; dtype = dtype; slots = slots; chunks = length slots ∷ []; sorted = NotSorted; all_used = false }

-- the slots of these rows, in one chunk with no flag
abbrev pub taken : List ℕ → ColumnValue → ColumnValue
taken rows c = fresh_column c.name c.dtype (map (slot_at c.slots) rows)

-- the column with the slots that a slice shows, and of its chunks what it shows. What is in order stays so
abbrev pub sliced : ℤ → ℕ → ColumnValue → ColumnValue
sliced offset len c = record c { slots = shown c.slots offset len; chunks = shown_chunks c.chunks offset len; all_used = false }

-- the column in one chunk
abbrev pub rechunked : ColumnValue → ColumnValue
rechunked c = record c { chunks = length c.slots ∷ [] }

-- the slot of a row so many times, in one chunk with no flag
abbrev pub repeated : ℕ → ℕ → ColumnValue → ColumnValue
repeated row len c = fresh_column c.name c.dtype (replicate len (slot_at c.slots row))

-- ---- valid slots

abbrev pub is_valid : Slot → Bool
is_valid slot = not (is_nil slot)

-- a place holds a slot, and every later place a null
pub record IsLastValid (slots : List Slot) (place : ℕ) : Type 0 where
  pub inside : place < length slots
  pub valid : is_nil (slot_at slots place) ≡ false
  pub later : (k : ℕ) → place < k → k < length slots → is_nil (slot_at slots k) ≡ true

-- ---- flags

-- a null is among the nulls of one end
pub record HasNullsAtOneEnd (slots : List Slot) : Type 0 where
  pub together : (i j k : ℕ) → i ≤ j → j ≤ k → k < length slots → is_nil (slot_at slots i) ≡ is_nil (slot_at slots k) → is_nil (slot_at slots j) ≡ is_nil (slot_at slots i)

-- of two valid slots the later is never below the earlier
pub record IsAscending (t : ColumnType) (slots : List Slot) : Type 0 where
  pub ordered : (i j : ℕ) → i ≤ j → j < length slots → is_nil (slot_at slots i) ≡ false → is_nil (slot_at slots j) ≡ false → below ByCode t (slot_at slots j) (slot_at slots i) ≡ false
  pub nulls : HasNullsAtOneEnd slots

pub record IsDescending (t : ColumnType) (slots : List Slot) : Type 0 where
  pub ordered : (i j : ℕ) → i ≤ j → j < length slots → is_nil (slot_at slots i) ≡ false → is_nil (slot_at slots j) ≡ false → below ByCode t (slot_at slots i) (slot_at slots j) ≡ false
  pub nulls : HasNullsAtOneEnd slots

-- whether a column of the type may be flagged as sorted
abbrev pub may_be_sorted : ColumnType → Bool
may_be_sorted (Flat Null) = false
may_be_sorted (Flat _) = true
may_be_sorted (ListOf t) = false
may_be_sorted (ArrayOf t width) = false
may_be_sorted (StructOf fs) = false

abbrev pub IsFlagTrue : SortedFlag → ColumnType → List Slot → Type 0
IsFlagTrue Ascending t slots = IsTrue (may_be_sorted t) × IsAscending t slots
IsFlagTrue Descending t slots = IsTrue (may_be_sorted t) × IsDescending t slots
IsFlagTrue NotSorted t slots = Unit {0}

-- the flag that is found for a column: ascending where that is true, else descending where that is
abbrev pub IsDetected : SortedFlag → ColumnValue → Type 0
IsDetected Ascending c = IsFlagTrue Ascending c.dtype c.slots
IsDetected Descending c = IsFlagTrue Descending c.dtype c.slots × ¬ IsFlagTrue Ascending c.dtype c.slots
IsDetected NotSorted c = ¬ IsFlagTrue Ascending c.dtype c.slots × ¬ IsFlagTrue Descending c.dtype c.slots

-- the column with this flag
abbrev pub flagged : SortedFlag → ColumnValue → ColumnValue
flagged flag c = record c { sorted = flag }

abbrev pub categories_of : ColumnType → Option (List (List ℕ))
categories_of (Flat (Categorical texts ordering)) = texts
categories_of (Flat (Enum texts ordering)) = texts
categories_of _ = None

-- every code occurs
abbrev pub UsesCodes : Option (List (List ℕ)) → List Slot → Type 0
UsesCodes None slots = ⊥
UsesCodes (Some texts) slots = (c : ℕ) → c < length texts → list_any (slot_eq (Num (pos c))) slots ≡ true

abbrev pub UsesAll : ColumnType → List Slot → Type 0
UsesAll t slots = UsesCodes (categories_of t) slots

-- ---- frames

abbrev pub names_of : Frame → List (List ℕ)
names_of frame = map (λ c. c.name) frame

-- the length of the columns, 0 without columns
abbrev pub frame_height : Frame → ℕ
frame_height [] = 0
frame_height (c ∷ cs) = length c.slots

abbrev pub find_column : Frame → List ℕ → Option ColumnValue
find_column [] name = None
find_column (c ∷ cs) name = cond (bytes_eq c.name name) (Some c) (find_column cs name)

-- the first name that stood before, the names before these being `seen`
abbrev pub repeated_after : List (List ℕ) → List (List ℕ) → Option (List ℕ)
repeated_after seen [] = None
repeated_after seen (name ∷ names) = cond (list_any (bytes_eq name) seen) (Some name) (repeated_after (name ∷ seen) names)

abbrev pub first_repeated : List (List ℕ) → Option (List ℕ)
first_repeated names = repeated_after [] names

-- whether all columns have this length
abbrev pub all_have_length : ℕ → Frame → Bool
all_have_length n [] = true
all_have_length n (c ∷ cs) = cond (length c.slots == n) (all_have_length n cs) false

-- the names differ and the lengths are one
pub record IsFrame (frame : Frame) : Type 0 where
  pub distinct : first_repeated (names_of frame) ≡ None
  pub aligned : all_have_length (frame_height frame) frame ≡ true

-- ---- a code of columns

abbrev flag_number : SortedFlag → ℕ
flag_number Ascending = 0
flag_number Descending = 1
flag_number NotSorted = 2

abbrev flag_from : ℕ → SortedFlag
flag_from zero = Ascending
flag_from (suc zero) = Descending
flag_from (suc (suc n)) = NotSorted

flag_back : (f : SortedFlag) → flag_from (flag_number f) ≡ f
flag_back Ascending = refl
flag_back Descending = refl
flag_back NotSorted = refl

abbrev Parts : Type 0
Parts = List ℕ × (ColumnType × (List Slot × (List ℕ × (ℕ × Bool))))

abbrev parts : ColumnValue → Parts
parts c = (c.name, (c.dtype, (c.slots, (c.chunks, (flag_number c.sorted, c.all_used)))))

abbrev joined : Parts → ColumnValue
joined p = record { name = p.0; dtype = p.1.0; slots = p.1.1.0; chunks = p.1.1.1.0; sorted = flag_from p.1.1.1.1.0; all_used = p.1.1.1.1.1 }

pub parts_back : (c : ColumnValue) → joined (parts c) ≡ c
parts_back c = ap (λ f. record c { sorted = f }) (flag_back c.sorted)

abbrev pub column_code : Coded ColumnValue
column_code =
    code_by Parts (coded× (coded_list coded_ℕ) (coded× type_code (coded× (coded_list slot_code) (coded× (coded_list coded_ℕ) (coded× coded_ℕ coded_bool))))) parts joined parts_back

abbrev pub frame_code : Coded Frame
frame_code = coded_list column_code
