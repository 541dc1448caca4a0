-- The column of structs: its rows, and what each call comes to. No column but plain values stands in it.
use Rattle.std.proofs.Common.{◌≡◌, ℕ, zero, suc, ◌+◌, ◌-◌, ◌<◌, ◌≤◌, ℤ, pos, negsuc, ◌+ℤ◌, min, max, Bool, true, false, List, [], ◌∷◌, ◌++◌, length, map, take, drop, get_or, refl, sym, ◌∙◌, ap, arith, subst, None}
use Rattle.std.specs.List.{All, AllByRecursion, sum}
use Rattle.std.proofs.lemmas.List.{get_or-drop, get_or-take, length-drop, length-map, length-take}
use Rattle.std.proofs.lemmas.List.Elements.{All-from_recursion, recursion_from_All}
use Rattle.gb_base.specs.DataType.{fields_of}
use Rattle.gb_defs.specs.Slot.{Slot, Nil, Items, is_nil, items_of, slot_at}
use Rattle.gb_defs.specs.Slices.{between, moved_into, shown, slice_end, slice_from, slice_start}
use Rattle.gb_defs.specs.ColumnType.{ColumnType, Fields, Fits, FitsParts, StructOf, field_count, field_type}
use Rattle.gb_defs.specs.Column.{ColumnValue, Frame, all_have_length, first_repeated, names_of, rechunked, sliced, taken}
use Rattle.gb_cols.specs.Column.{first_chunks}
use Rattle.gb_series.specs.Rows.{row_slot, rows_of}
use Rattle.gb_series.specs.Structs.{AreFieldsOf, FitsOwn, HasRows, IsStruct, across, field_part, rows_across, struct_column, struct_type}
use Rattle.gb_series.proofs.FrameLemmas.{long_test}
use Rattle.gb_series.proofs.RowLemmas.{row_at, rows_between, rows_length, rows_take, rows_taken}

-- ---- rows of slots across fields

pub across_count : (fs : Frame) (a n : ℕ) → length (rows_across fs a n) ≡ n
across_count fs a zero = refl
across_count fs a (suc n) = ap suc (across_count fs (suc a) n)

-- rows that are equal one by one
pub same_rows : (fs gs : Frame) (a b n : ℕ) → ((i : ℕ) → i < n → across fs (a + i) ≡ across gs (b + i)) → rows_across fs a n ≡ rows_across gs b n
same_rows fs gs a b zero h = refl
same_rows fs gs a b (suc n) h =
    let first : a ≡ a + 0 = omega arith in
    let second : b + 0 ≡ b = omega arith in
    let here : across fs a ≡ across gs b = ap (across fs) first ∙ h 0 (omega arith) ∙ ap (across gs) second in
    let later = λ (i : ℕ) (lt : i < n).
    let left : suc a + i ≡ a + suc i = omega arith in
    let right : b + suc i ≡ suc b + i = omega arith in
    ap (across fs) left ∙ h (suc i) (omega (arith, lt)) ∙ ap (across gs) right in
    ap (λ x. x ∷ rows_across fs (suc a) n) here ∙ ap (λ xs. across gs b ∷ xs) (same_rows fs gs (suc a) (suc b) n later)

pub rows_split : (fs : Frame) (a m n : ℕ) → rows_across fs a (m + n) ≡ rows_across fs a m ++ rows_across fs (a + m) n
rows_split fs a zero n =
    let none : 0 + n ≡ n = omega arith in
    let same : a ≡ a + 0 = omega arith in
    ap (rows_across fs a) none ∙ ap (λ b. rows_across fs b n) same
rows_split fs a (suc m) n =
    let more : suc m + n ≡ suc (m + n) = omega arith in
    let at : suc a + m ≡ a + suc m = omega arith in
    ap (rows_across fs a) more ∙ ap (λ xs. across fs a ∷ xs) (rows_split fs (suc a) m n ∙ ap (λ b. rows_across fs (suc a) m ++ rows_across fs b n) at)

-- the slots of one of the rows
pub row_of : (fs : Frame) (a n i : ℕ) → i < n → get_or (rows_across fs a n) i [] ≡ across fs (a + i)
row_of fs a zero i lt = absurd (omega (arith, lt))
row_of fs a (suc n) zero lt = let same : a ≡ a + 0 = omega arith in ap (across fs) same
row_of fs a (suc n) (suc i) lt =
    let at : suc a + i ≡ a + suc i = omega arith in row_of fs (suc a) n i (omega (arith, lt)) ∙ ap (across fs) at

rows_dropped : (fs : Frame) (a n k : ℕ) → k ≤ n → drop k (rows_across fs a n) ≡ rows_across fs (a + k) (n - k)
rows_dropped fs a n zero le =
    let at : a ≡ a + 0 = omega arith in let all : n ≡ n - 0 = omega arith in ap (λ b. rows_across fs b n) at ∙ ap (rows_across fs (a + 0)) all
rows_dropped fs a zero (suc k) le = absurd (omega (arith, le))
rows_dropped fs a (suc n) (suc k) le =
    let at : suc a + k ≡ a + suc k = omega arith in
    let left : n - k ≡ suc n - suc k = omega arith in
    rows_dropped fs (suc a) n k (omega (arith, le)) ∙ ap (λ b. rows_across fs b (n - k)) at ∙ ap (rows_across fs (a + suc k)) left

rows_first : (fs : Frame) (a n k : ℕ) → k ≤ n → take k (rows_across fs a n) ≡ rows_across fs a k
rows_first fs a n zero le = refl
rows_first fs a zero (suc k) le = absurd (omega (arith, le))
rows_first fs a (suc n) (suc k) le = ap (λ xs. across fs a ∷ xs) (rows_first fs (suc a) n k (omega (arith, le)))

-- some of the rows, one after the other
pub rows_part : (fs : Frame) (n from to : ℕ) → from ≤ to → to ≤ n → between from to (rows_across fs 0 n) ≡ rows_across fs from (to - from)
rows_part fs n from to le high =
    let at : 0 + from ≡ from = omega arith in
    ap (take (to - from)) (rows_dropped fs 0 n from (omega (arith, le, high)) ∙ ap (λ b. rows_across fs b (n - from)) at)
    ∙ rows_first fs from (n - from) (to - from) (omega (arith, le, high))

-- the rows at places
rows_at : (gs fs : Frame) (a : ℕ) (picks : List ℕ) → ((i : ℕ) → i < length picks → across gs (a + i) ≡ across fs (get_or picks i 0)) → rows_across gs a (length picks) ≡ map (across fs) picks
rows_at gs fs a [] h = refl
rows_at gs fs a (pick ∷ picks) h =
    let same : a ≡ a + 0 = omega arith in
    let later = λ (i : ℕ) (lt : i < length picks).
    let at : suc a + i ≡ a + suc i = omega arith in ap (across gs) at ∙ h (suc i) (omega (arith, lt)) in
    ap (λ x. x ∷ rows_across gs (suc a) (length picks)) (ap (across gs) same ∙ h 0 (omega arith))
    ∙ ap (λ xs. across fs pick ∷ xs) (rows_at gs fs (suc a) picks later)

picked : (fs : Frame) (n : ℕ) (picks : List ℕ) → AllByRecursion (λ row. row < n) picks → map (across fs) picks ≡ map (λ row. get_or (rows_across fs 0 n) row []) picks
picked fs n [] all = refl
picked fs n (row ∷ rows) all =
    let at : row ≡ 0 + row = omega arith in
    ap (λ x. x ∷ map (across fs) rows) (ap (across fs) at ∙ sym (row_of fs 0 n row all.0))
    ∙ ap (λ xs. get_or (rows_across fs 0 n) row [] ∷ xs) (picked fs n rows all.1)

-- ---- fields that were mapped

-- each field's slot at a place is that of the field before at another
across_mapped : (h : ColumnValue → ColumnValue) (fs : Frame) (i j : ℕ) → AllByRecursion (λ f. slot_at (h f).slots i ≡ slot_at f.slots j) fs → across (map h fs) i ≡ across fs j
across_mapped h [] i j all = refl
across_mapped h (f ∷ fs) i j all =
    ap (λ s. s ∷ across (map h fs) i) all.0 ∙ ap (λ ss. slot_at f.slots j ∷ ss) (across_mapped h fs i j all.1)

-- a change that keeps names and types keeps the type of structs and the names of fields
pub parts_mapped : (h : ColumnValue → ColumnValue) → ((f : ColumnValue) → field_part (h f) ≡ field_part f) → (fs : Frame) → map field_part (map h fs) ≡ map field_part fs
parts_mapped h same [] = refl
parts_mapped h same (f ∷ fs) = ap (λ p. p ∷ map field_part (map h fs)) (same f) ∙ ap (λ ps. field_part f ∷ ps) (parts_mapped h same fs)

names_of_parts : (fs : Frame) → names_of fs ≡ map (λ p. p.0) (map field_part fs)
names_of_parts [] = refl
names_of_parts (f ∷ fs) = ap (λ ns. f.name ∷ ns) (names_of_parts fs)

-- fields of the same names and types
pub names_alike : (fs gs : Frame) → map field_part gs ≡ map field_part fs → names_of gs ≡ names_of fs
names_alike fs gs same = names_of_parts gs ∙ ap (map (λ p. p.0)) same ∙ sym (names_of_parts fs)

pub distinct_alike : (fs gs : Frame) → map field_part gs ≡ map field_part fs → first_repeated (names_of fs) ≡ None → first_repeated (names_of gs) ≡ None
distinct_alike fs gs same distinct = ap first_repeated (names_alike fs gs same) ∙ distinct

-- columns of structs that are equal in each part
pub struct_alike : (rows rows' : ColumnValue) (present present' : List Bool) (fs fs' : Frame) → rows ≡ rows' → present ≡ present' → fs ≡ fs' →
    struct_column rows present fs ≡ struct_column rows' present' fs'
struct_alike rows rows' present present' fs fs' a b c =
    ap (λ r. struct_column r present fs) a ∙ ap (λ p. struct_column rows' p fs) b ∙ ap (λ f. struct_column rows' present' f) c

pub is_alike : (rows rows' : ColumnValue) (present present' : List Bool) (fs fs' : Frame) → rows ≡ rows' → present ≡ present' → fs ≡ fs' → IsStruct rows' present' fs' → IsStruct rows present fs
is_alike rows rows' present present' fs fs' a b c is =
    subst (λ (r : ColumnValue). IsStruct r present fs) (sym a)
    (subst (λ (p : List Bool). IsStruct rows' p fs) (sym b) (subst (λ (f : Frame). IsStruct rows' present' f) (sym c) is))

moved_few : (count : ℕ) (place : ℤ) → moved_into count place ≤ count
moved_few count (pos n) = omega arith
moved_few count (negsuc n) = omega arith

module _ (rows : ColumnValue) (present : List Bool) (fields : Frame) (is : IsStruct rows present fields) where
  abbrev column : ColumnValue
  column = struct_column rows present fields

  abbrev pieces : List (List Slot)
  pieces = rows_across fields 0 (length present)

  pub struct_length : length column.slots ≡ length rows.slots
  struct_length = rows_length present pieces ∙ is.flags

  pub flag_inside : (row : ℕ) → row < length column.slots → row < length present
  flag_inside row lt = omega (arith, lt, rows_length present pieces)

  pub absent_slot : (row : ℕ) → get_or present row false ≡ false → slot_at column.slots row ≡ Nil
  absent_slot row e = row_at present pieces row ∙ ap (λ b. row_slot b (get_or pieces row [])) e

  pub present_slot : (row : ℕ) → row < length column.slots → get_or present row false ≡ true → slot_at column.slots row ≡ Items (items_of (across fields row))
  present_slot row lt e =
      let at : 0 + row ≡ row = omega arith in
      row_at present pieces row ∙ ap (λ b. row_slot b (get_or pieces row [])) e
      ∙ ap (λ piece. Items (items_of piece)) (row_of fields 0 (length present) row (flag_inside row lt) ∙ ap (across fields) at)

  flag_of_valid : (row : ℕ) → is_nil (slot_at column.slots row) ≡ false → get_or present row false ≡ true
  flag_of_valid row valid = by (get_or present row false) refl where
    by : (b : Bool) → get_or present row false ≡ b → get_or present row false ≡ true
    by true e = e
    by false e = let never : true ≡ false = sym (ap is_nil (absent_slot row e)) ∙ valid in cc

  pub are_fields : AreFieldsOf column fields
  are_fields = record {
    typed = refl;
    long = subst (λ (n : ℕ). All (λ f. n ≤ length f.slots) fields) (sym (rows_length present pieces)) is.long;
    held = λ row lt valid. present_slot row lt (flag_of_valid row valid);
  }

-- ---- what fits

fits_at : (t : ColumnType) (slots : List Slot) (row : ℕ) → AllByRecursion (Fits t) slots → Fits t (slot_at slots row)
fits_at t [] row all = tt
fits_at t (s ∷ ss) zero all = all.0
fits_at t (s ∷ ss) (suc row) all = fits_at t ss row all.1

parts_fit : (all : Fields) (k : ℕ) (fs : Frame) (row : ℕ) → ((j : ℕ) → field_type all (k + j) ≡ field_type (fields_of (map field_part fs)) j) → field_count all ≡ k + length fs →
    AllByRecursion FitsOwn fs → FitsParts (StructOf all) k (items_of (across fs row))
parts_fit all k [] row types count fit = let e : k ≡ field_count all = omega (arith, count) in e
parts_fit all k (f ∷ fs) row types count fit =
    let same : k + 0 ≡ k = omega arith in
    let here : field_type all k ≡ f.dtype = sym (ap (field_type all) same) ∙ types 0 in
    let later = λ (j : ℕ). let at : suc k + j ≡ k + suc j = omega arith in ap (field_type all) at ∙ types (suc j) in
    let more : field_count all ≡ suc k + length fs = omega (arith, count) in
    (subst (λ (t : ColumnType). Fits t (slot_at f.slots row)) (sym here) (fits_at f.dtype f.slots row (recursion_from_All (Fits f.dtype) f.slots fit.0)), parts_fit all (suc k) fs row later more fit.1)

fields_count : (fs : Frame) → field_count (fields_of (map field_part fs)) ≡ length fs
fields_count [] = refl
fields_count (f ∷ fs) = ap suc (fields_count fs)

row_fits : (fs : Frame) (row : ℕ) → AllByRecursion FitsOwn fs → FitsParts (struct_type fs) 0 (items_of (across fs row))
row_fits fs row fit =
    let types = λ (j : ℕ). let at : 0 + j ≡ j = omega arith in ap (field_type (fields_of (map field_part fs))) at in
    let none : length fs ≡ 0 + length fs = omega arith in
    parts_fit (fields_of (map field_part fs)) 0 fs row types (fields_count fs ∙ none) fit

slot_fits : (fs : Frame) (p : Bool) (row : ℕ) → AllByRecursion FitsOwn fs → Fits (struct_type fs) (row_slot p (across fs row))
slot_fits fs true row fit = row_fits fs row fit
slot_fits fs false row fit = tt

each_fits : (fs : Frame) (present : List Bool) (start : ℕ) → AllByRecursion FitsOwn fs → AllByRecursion (Fits (struct_type fs)) (rows_of present (rows_across fs start (length present)))
each_fits fs [] start fit = tt
each_fits fs (p ∷ ps) start fit = (slot_fits fs p start fit, each_fits fs ps (suc start) fit)

pub structs_fit : (rows : ColumnValue) (present : List Bool) (fields : Frame) → All FitsOwn fields → All (Fits (struct_column rows present fields).dtype) (struct_column rows present fields).slots
structs_fit rows present fields fit =
    All-from_recursion (Fits (struct_type fields)) (rows_of present (rows_across fields 0 (length present)))
    (each_fits fields present 0 (recursion_from_All FitsOwn fields fit))

-- ---- what fields make

each_long : (n : ℕ) (fs : Frame) → all_have_length n fs ≡ true → AllByRecursion (λ f. n ≤ length f.slots) fs
each_long n [] e = tt
each_long n (f ∷ fs) e = let parts = long_test n f fs e in (omega (arith, parts.0), each_long n fs parts.1)

-- fields of one length, of which no two have one name
pub fields_make : (rows : ColumnValue) (present : List Bool) (fields : Frame) → length present ≡ length rows.slots → all_have_length (length present) fields ≡ true →
    first_repeated (names_of fields) ≡ None → IsStruct rows present fields
fields_make rows present fields flags long distinct = record {
  flags = flags;
  long = All-from_recursion (λ f. length present ≤ length f.slots) fields (each_long (length present) fields long);
  distinct = distinct;
}

-- ---- types

-- the type of a part is that of the field at its place
pub field_type_at : (fs : Frame) (i : ℕ) (d : ColumnValue) → i < length fs → field_type (fields_of (map field_part fs)) i ≡ (get_or fs i d).dtype
field_type_at [] i d lt = absurd (omega (arith, lt))
field_type_at (f ∷ fs) zero d lt = refl
field_type_at (f ∷ fs) (suc i) d lt = field_type_at fs i d (omega (arith, lt))

fields_alike : (ps qs : List (List ℕ × ColumnType)) → fields_of ps ≡ fields_of qs → ps ≡ qs
fields_alike [] [] e = refl
fields_alike [] (q ∷ qs) e = cc
fields_alike (p ∷ ps) [] e = cc
fields_alike (p ∷ ps) (q ∷ qs) e =
    let name : p.0 ≡ q.0 = cc in
    let dtype : p.1 ≡ q.1 = cc in
    let rest : fields_of ps ≡ fields_of qs = cc in
    let part : p ≡ q = ap (λ n. (n, p.1)) name ∙ ap (λ t. (q.0, t)) dtype in
    let whole : p ∷ ps ≡ q ∷ ps = ap (λ x. x ∷ ps) part in
    whole ∙ ap (λ xs. q ∷ xs) (fields_alike ps qs rest)

struct_parts : (a b : Fields) → StructOf a ≡ StructOf b → a ≡ b
struct_parts a b e = cc

-- structs of one type have fields of the same names and types
pub struct_fields : (fs gs : Frame) → struct_type fs ≡ struct_type gs → map field_part fs ≡ map field_part gs
struct_fields fs gs e = fields_alike (map field_part fs) (map field_part gs) (struct_parts _ _ e)

-- ---- some rows

module _ (rows : ColumnValue) (present : List Bool) (fields : Frame) (is : IsStruct rows present fields) where
  abbrev whole : ColumnValue
  whole = struct_column rows present fields

  taken_at : (fs : Frame) (picks : List ℕ) (i : ℕ) → i < length picks → AllByRecursion (λ f. slot_at (taken picks f).slots i ≡ slot_at f.slots (get_or picks i 0)) fs
  taken_at [] picks i lt = tt
  taken_at (f ∷ fs) picks i lt = (read_mapped f.slots picks i lt, taken_at fs picks i lt)
    where
      read_mapped : (slots : List Slot) (ns : List ℕ) (k : ℕ) → k < length ns → slot_at (map (slot_at slots) ns) k ≡ slot_at slots (get_or ns k 0)
      read_mapped slots [] k less = absurd (omega (arith, less))
      read_mapped slots (n ∷ ns) zero less = refl
      read_mapped slots (n ∷ ns) (suc k) less = read_mapped slots ns k (omega (arith, less))

  module _ (picks : List ℕ) (inside : All (λ row. row < length whole.slots) picks) where
    abbrev flags_taken : List Bool
    flags_taken = map (λ row. get_or present row false) picks

    pub rows_have_flags : All (λ row. row < length present) picks
    rows_have_flags = subst (λ (n : ℕ). All (λ row. row < n) picks) (rows_length present (rows_across fields 0 (length present))) inside

    pub rows_are_rows : All (λ row. row < length rows.slots) picks
    rows_are_rows = subst (λ (n : ℕ). All (λ row. row < n) picks) (struct_length rows present fields is) inside

    pub rows_in_fields : All (HasRows picks) fields
    rows_in_fields = All-from_recursion (HasRows picks) fields (each fields (recursion_from_All (λ f. length present ≤ length f.slots) fields is.long))
      where
        lower : (m n : ℕ) (ns : List ℕ) → m ≤ n → AllByRecursion (λ row. row < m) ns → AllByRecursion (λ row. row < n) ns
        lower m n [] le all = tt
        lower m n (x ∷ xs) le all = (omega (arith, le, all.0), lower m n xs le all.1)

        each : (fs : Frame) → AllByRecursion (λ f. length present ≤ length f.slots) fs → AllByRecursion (HasRows picks) fs
        each [] all = tt
        each (f ∷ fs) all =
            (All-from_recursion (λ row. row < length f.slots) picks (lower (length present) (length f.slots) picks all.0 (recursion_from_All (λ row. row < length present) picks rows_have_flags)), each fs all.1)

    abbrev fields_taken : Frame
    fields_taken = map (taken picks) fields

    rows_are : rows_across fields_taken 0 (length flags_taken) ≡ map (λ row. get_or (rows_across fields 0 (length present)) row []) picks
    rows_are =
        let at = λ (i : ℕ) (lt : i < length picks).
        let same : 0 + i ≡ i = omega arith in
        ap (across fields_taken) same ∙ across_mapped (taken picks) fields i (get_or picks i 0) (taken_at fields picks i lt) in
        ap (rows_across fields_taken 0) (length-map picks (λ row. get_or present row false)) ∙ rows_at fields_taken fields 0 picks at
        ∙ picked fields (length present) picks (recursion_from_All (λ row. row < length present) picks rows_have_flags)

    pub struct_taken : struct_column (taken picks rows) flags_taken fields_taken ≡ taken picks whole
    struct_taken =
        ap (λ n. record (struct_column (taken picks rows) flags_taken fields_taken) { chunks = n ∷ [] }) (length-map picks (slot_at rows.slots) ∙ sym (length-map picks (slot_at whole.slots)))
        ∙ ap (λ ps. record (taken picks whole) { dtype = StructOf (fields_of ps); slots = rows_of flags_taken (rows_across fields_taken 0 (length flags_taken)) }) (parts_mapped (taken picks) (λ f. refl) fields)
        ∙ ap (λ ss. record (taken picks whole) { slots = ss })
        (ap (rows_of flags_taken) rows_are ∙ sym (rows_taken present (rows_across fields 0 (length present)) picks))

    pub is_taken : IsStruct (taken picks rows) flags_taken fields_taken
    is_taken = record {
      flags = length-map picks (λ row. get_or present row false) ∙ sym (length-map picks (slot_at rows.slots));
      long = All-from_recursion (λ f. length flags_taken ≤ length f.slots) fields_taken (each fields);
      distinct = distinct_alike fields fields_taken (parts_mapped (taken picks) (λ f. refl) fields) is.distinct;
    }
      where
        each : (fs : Frame) → AllByRecursion (λ f. length flags_taken ≤ length f.slots) (map (taken picks) fs)
        each [] = tt
        each (f ∷ fs) = (omega (arith, length-map picks (λ row. get_or present row false), length-map picks (slot_at f.slots)), each fs)

  -- ---- the same rows in one chunk

  same_each : (h : ColumnValue → ColumnValue) → ((f : ColumnValue) → (h f).slots ≡ f.slots) → (fs : Frame) (i : ℕ) → AllByRecursion (λ f. slot_at (h f).slots i ≡ slot_at f.slots i) fs
  same_each h same [] i = tt
  same_each h same (f ∷ fs) i = (ap (λ ss. slot_at ss i) (same f), same_each h same fs i)

  same_across : (i : ℕ) → across (map rechunked fields) i ≡ across fields i
  same_across i = across_mapped rechunked fields i i (same_each rechunked (λ f. refl) fields i)

  pub struct_rechunked : struct_column (rechunked rows) present (map rechunked fields) ≡ rechunked whole
  struct_rechunked =
      ap (λ n. record (struct_column (rechunked rows) present (map rechunked fields)) { chunks = n ∷ [] }) (sym (struct_length rows present fields is))
      ∙ ap (λ ps. record (rechunked whole) { dtype = StructOf (fields_of ps); slots = rows_of present (rows_across (map rechunked fields) 0 (length present)) }) (parts_mapped rechunked (λ f. refl) fields)
      ∙ ap (λ xs. record (rechunked whole) { slots = rows_of present xs }) (same_rows (map rechunked fields) fields 0 0 (length present) (λ i lt. same_across (0 + i)))

  pub is_rechunked : IsStruct (rechunked rows) present (map rechunked fields)
  is_rechunked = record {
    flags = is.flags;
    long = All-from_recursion (λ f. length present ≤ length f.slots) (map rechunked fields) (each fields (recursion_from_All (λ f. length present ≤ length f.slots) fields is.long));
    distinct = distinct_alike fields (map rechunked fields) (parts_mapped rechunked (λ f. refl) fields) is.distinct;
  }
    where
      each : (fs : Frame) → AllByRecursion (λ f. length present ≤ length f.slots) fs → AllByRecursion (λ f. length present ≤ length f.slots) (map rechunked fs)
      each [] all = tt
      each (f ∷ fs) all = (all.0, each fs all.1)

-- ---- a slice

-- what a slice shows of slots that are there
pub shown_part : (slots : List Slot) (from to : ℕ) → from ≤ to → to ≤ length slots → shown slots (pos from) (to - from) ≡ between from to slots
shown_part slots from to le high =
    let low : min from (length slots) ≡ from = omega (arith, le, high) in
    let last : min (from + (to - from)) (length slots) ≡ to = omega (arith, le, high) in
    ap (λ s. between s (min (from + (to - from)) (length slots)) slots) low ∙ ap (λ e. between from e slots) last

between_count : {A : Type 0} (xs : List A) (from to : ℕ) → from ≤ to → to ≤ length xs → length (between from to xs) ≡ to - from
between_count xs from to le high = omega (arith, le, high, length-take (to - from) (drop from xs), length-drop from xs)

between_at : (slots : List Slot) (from to i : ℕ) → i < to - from → slot_at (between from to slots) i ≡ slot_at slots (from + i)
between_at slots from to i lt = get_or-take (to - from) (drop from slots) i Nil lt ∙ get_or-drop from slots i Nil

module _ (rows : ColumnValue) (present : List Bool) (fields : Frame) (is : IsStruct rows present fields) (offset : ℤ) (len : ℕ) where
  abbrev uncut : ColumnValue
  uncut = struct_column rows present fields

  abbrev from : ℕ
  from = slice_start (length rows.slots) offset

  abbrev to : ℕ
  to = max (slice_end (length rows.slots) offset len) from

  from_few : from ≤ length rows.slots
  from_few = moved_few (length rows.slots) (slice_from (length rows.slots) offset)

  to_few : to ≤ length rows.slots
  to_few = omega (arith, moved_few (length rows.slots) (slice_from (length rows.slots) offset +ℤ pos len), from_few)

  from_to : from ≤ to
  from_to = omega arith

  to_inside : to ≤ length present
  to_inside = omega (arith, to_few, is.flags)

  abbrev cut : ColumnValue → ColumnValue
  cut f = sliced (pos from) (to - from) f

  cut_each : (fs : Frame) (i : ℕ) → i < to - from → AllByRecursion (λ f. length present ≤ length f.slots) fs → AllByRecursion (λ f. slot_at (cut f).slots i ≡ slot_at f.slots (from + i)) fs
  cut_each [] i lt all = tt
  cut_each (f ∷ fs) i lt all =
      let high : to ≤ length f.slots = omega (arith, to_inside, all.0) in
      (ap (λ ss. slot_at ss i) (shown_part f.slots from to from_to high) ∙ between_at f.slots from to i lt, cut_each fs i lt all.1)

  rows_cut : rows_across (map cut fields) 0 (to - from) ≡ between from to (rows_across fields 0 (length present))
  rows_cut =
      let at = λ (i : ℕ) (lt : i < to - from).
      let same : 0 + i ≡ i = omega arith in
      ap (across (map cut fields)) same ∙ across_mapped cut fields i (from + i) (cut_each fields i lt (recursion_from_All (λ f. length present ≤ length f.slots) fields is.long)) in
      same_rows (map cut fields) fields 0 from (to - from) at ∙ sym (rows_part fields (length present) from to from_to to_inside)

  rows_shown : between from to uncut.slots ≡ shown uncut.slots offset len
  rows_shown =
      let size : to - from ≡ slice_end (length rows.slots) offset len - from = omega arith in
      ap (λ n. take n (drop from uncut.slots)) size
      ∙ ap (λ n. between (slice_start n offset) (slice_end n offset len) uncut.slots) (sym (struct_length rows present fields is))

  slots_sliced : rows_of (between from to present) (rows_across (map cut fields) 0 (length (between from to present))) ≡ shown uncut.slots offset len
  slots_sliced =
      ap (λ n. rows_of (between from to present) (rows_across (map cut fields) 0 n)) (between_count present from to from_to to_inside)
      ∙ ap (rows_of (between from to present)) rows_cut ∙ sym (rows_between from to present (rows_across fields 0 (length present))) ∙ rows_shown

  struct_sliced : struct_column (sliced offset len rows) (between from to present) (map cut fields) ≡ sliced offset len uncut
  struct_sliced =
      ap (λ ps. record (sliced offset len uncut) { dtype = StructOf (fields_of ps); slots = rows_of (between from to present) (rows_across (map cut fields) 0 (length (between from to present))) }) (parts_mapped cut (λ f. refl) fields)
      ∙ ap (λ ss. record (sliced offset len uncut) { slots = ss }) slots_sliced

  shown_count : length (shown rows.slots offset len) ≡ to - from
  shown_count =
      let end = slice_end (length rows.slots) offset len in
      let few : end ≤ length rows.slots = moved_few (length rows.slots) (slice_from (length rows.slots) offset +ℤ pos len) in
      omega (arith, few, from_few, length-take (end - from) (drop from rows.slots), length-drop from rows.slots)

  cut_long : (fs : Frame) → AllByRecursion (λ f. length present ≤ length f.slots) fs → AllByRecursion (λ f. length (between from to present) ≤ length f.slots) (map cut fs)
  cut_long [] all = tt
  cut_long (f ∷ fs) all =
      let high : to ≤ length f.slots = omega (arith, to_inside, all.0) in
      let same = ap (λ (ss : List Slot). length ss) (shown_part f.slots from to from_to high) ∙ between_count f.slots from to from_to high in
      (omega (arith, same, between_count present from to from_to to_inside), cut_long fs all.1)

  is_sliced : IsStruct (sliced offset len rows) (between from to present) (map cut fields)
  is_sliced = record {
    flags = between_count present from to from_to to_inside ∙ sym shown_count;
    long =
        All-from_recursion (λ f. length (between from to present) ≤ length f.slots) (map cut fields)
        (cut_long fields (recursion_from_All (λ f. length present ≤ length f.slots) fields is.long));
    distinct = distinct_alike fields (map cut fields) (parts_mapped cut (λ f. refl) fields) is.distinct;
  }

  module _ (at till : ℕ) (is_from : at ≡ from) (is_to : till ≡ to) where
    pub slice_low : at ≤ till
    slice_low = omega (arith, is_from, is_to, from_to)

    pub slice_high : till ≤ length present
    slice_high = omega (arith, is_to, to_inside)

    cut_alike : map (sliced (pos at) (till - at)) fields ≡ map cut fields
    cut_alike = ap (λ n. map (sliced (pos n) (till - n)) fields) is_from ∙ ap (λ n. map (sliced (pos from) (n - from)) fields) is_to

    flags_alike : between at till present ≡ between from to present
    flags_alike = ap (λ n. between n till present) is_from ∙ ap (λ n. between from n present) is_to

    module _ (made : ColumnValue) (made_flags : List Bool) (made_fields : Frame) (is_made : made ≡ sliced offset len rows) (is_flags : made_flags ≡ between at till present) (is_fields : made_fields ≡ map (sliced (pos at) (till - at)) fields) where
      pub sliced_view : struct_column made made_flags made_fields ≡ sliced offset len uncut
      sliced_view =
          struct_alike made (sliced offset len rows) made_flags (between from to present) made_fields (map cut fields) is_made (is_flags ∙ flags_alike) (is_fields ∙ cut_alike)
          ∙ struct_sliced

      pub sliced_struct : IsStruct made made_flags made_fields
      sliced_struct =
          is_alike made (sliced offset len rows) made_flags (between from to present) made_fields (map cut fields) is_made (is_flags ∙ flags_alike) (is_fields ∙ cut_alike) is_sliced

-- ---- the first chunks

module _ (rows : ColumnValue) (present : List Bool) (fields : Frame) (is : IsStruct rows present fields) (count : ℕ) (made : ColumnValue) (flags : List Bool) (kept : ℕ)
    (is_made : made ≡ first_chunks count rows) (all : sum made.chunks ≡ length made.slots) (long : kept ≡ length made.slots) (is_flags : flags ≡ take kept present) where
  kept_is : kept ≡ sum (take count rows.chunks)
  kept_is = long ∙ sym all ∙ ap (λ (v : ColumnValue). sum v.chunks) is_made

  kept_few : kept ≤ length present
  kept_few =
      omega (arith, long, ap (λ (v : ColumnValue). length v.slots) is_made, length-take (sum (take count rows.chunks)) rows.slots, is.flags)

  flags_long : length (take kept present) ≡ kept
  flags_long = omega (arith, length-take kept present, kept_few)

  first_slots : rows_of (take kept present) (rows_across fields 0 (length (take kept present))) ≡ take kept (struct_column rows present fields).slots
  first_slots =
      ap (λ n. rows_of (take kept present) (rows_across fields 0 n)) flags_long
      ∙ ap (rows_of (take kept present)) (sym (rows_first fields 0 (length present) kept kept_few))
      ∙ sym (rows_take kept present (rows_across fields 0 (length present)))

  pub undone_view : struct_column made flags fields ≡ first_chunks count (struct_column rows present fields)
  undone_view =
      struct_alike made (first_chunks count rows) flags (take kept present) fields fields is_made is_flags refl
      ∙ ap (λ ss. record (first_chunks count (struct_column rows present fields)) { slots = ss }) (first_slots ∙ ap (λ n. take n (struct_column rows present fields).slots) kept_is)

  pub undone_struct : IsStruct made flags fields
  undone_struct =
      is_alike made made flags (take kept present) fields fields refl is_flags refl
      (record {
        flags = flags_long ∙ long;
        long = All-from_recursion (λ f. length (take kept present) ≤ length f.slots) fields (each fields (recursion_from_All (λ f. length present ≤ length f.slots) fields is.long));
        distinct = is.distinct;
      })
    where
      each : (fs : Frame) → AllByRecursion (λ f. length present ≤ length f.slots) fs → AllByRecursion (λ f. length (take kept present) ≤ length f.slots) fs
      each [] every = tt
      each (f ∷ fs) every = (omega (arith, flags_long, kept_few, every.0), each fs every.1)
