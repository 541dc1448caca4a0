-- The columns of the records so far, and of one record more.
use Rattle.std.proofs.Common.{◌≡◌, ◌==◌, ℕ, ◌+◌, ◌^◌, ◌<◌, ◌≤◌, ◌⊎◌, zero, suc, Bool, true, false, cond, not, inl, inr, subst, List, [], ◌∷◌, ◌++◌, length, map, refl, sym, ◌∙◌, ap, zero-add, arith, Option, Some, None, Result, Ok, Err, append_assoc}
use Rattle.std.specs.Prelude.{if◌then◌else◌}
use Rattle.std.specs.List.{list_any, cons_option, filter_map, AllByRecursion}
use Rattle.std.specs.Str.{bytes_eq, is_utf8}
use Rattle.std.proofs.lemmas.Bool.{cases_Bool, eqb-true, eq-eqb}
use Rattle.std.proofs.lemmas.List.{map-append, length-append, length-map}
use Rattle.gb_defs.specs.Slot.{Slot, slot_at}
use Rattle.gb_defs.specs.ColumnType.{CategoricalOrdering, ColumnType, Flat, ListOf, ArrayOf, StructOf, Null, Boolean, Unsigned, Signed, Decimal, Date, Time, Datetime, Duration, String, Binary, BinaryOffset, Categorical, Enum}
use Rattle.gb_defs.specs.Column.{ColumnValue, fresh_column, names_of, frame_height, all_have_length, repeated_after, rechunked}
use Rattle.gb_defs.specs.Cell.{cell_slot}
use Rattle.gb_defs.specs.Table.{TableFault, Head, onto, cell_onto, cells_from, coded_slot, record_slots, row_onto, rows_from, slots_of_column, read_column, columns_from, head_of, heads_from, texts_in}
use Rattle.gb_cols.specs.Column.{ReadsCells}
use Rattle.gb_text.specs.Asked.{is_asked, kept}
use Rattle.gb_text.specs.Building.{IsRoomy, IsWhole, kept_slot, read_if_kept, taken}
use Rattle.gb_text.specs.Part.{HasFew}
use Rattle.gb_text.specs.Table.{built_from, built_of, head_in, taken_each}
use Rattle.gb_logical.proofs.BuilderLemmas.{pushed_fresh}
use Rattle.gb_text.proofs.BuilderLemmas.{categories_rechunked}

-- ---- columns whose cells were read

-- a column of cells is in one chunk as it is read, but for categories, which get codes
read_cases : (name : List ℕ) (t : ColumnType) (slots : List Slot)
    → (read_column name t slots ≡ fresh_column name t slots) ⊎ ((texts : Option (List (List ℕ))) × (ordering : CategoricalOrdering) × (t ≡ Flat (Categorical texts ordering)))
read_cases name (Flat Null) slots = inl refl
read_cases name (Flat Boolean) slots = inl refl
read_cases name (Flat (Unsigned w)) slots = inl refl
read_cases name (Flat (Signed w)) slots = inl refl
read_cases name (Flat (Decimal precision scale)) slots = inl refl
read_cases name (Flat Date) slots = inl refl
read_cases name (Flat Time) slots = inl refl
read_cases name (Flat (Datetime unit)) slots = inl refl
read_cases name (Flat (Duration unit)) slots = inl refl
read_cases name (Flat String) slots = inl refl
read_cases name (Flat Binary) slots = inl refl
read_cases name (Flat BinaryOffset) slots = inl refl
read_cases name (Flat (Categorical texts ordering)) slots = inr (texts, ordering, refl)
read_cases name (Flat (Enum texts ordering)) slots = inl refl
read_cases name (ListOf t) slots = inl refl
read_cases name (ArrayOf t width) slots = inl refl
read_cases name (StructOf fs) slots = inl refl

pub read_rechunked : (name : List ℕ) (t : ColumnType) (slots : List Slot) → rechunked (read_column name t slots) ≡ read_column name t slots
read_rechunked name t slots = elim (read_cases name t slots) [
  | inl same ↦ rw same refl
  | inr codes ↦ rw codes.2 (categories_rechunked name codes.1 slots)
]

-- where cells read as slots, they are those of the column
pub read_is_fresh : (name : List ℕ) (t : ColumnType) (slots : List Slot) → ReadsCells t → read_column name t slots ≡ fresh_column name t slots
read_is_fresh name t slots reads = elim (read_cases name t slots) [
  | inl same ↦ same
  | inr codes ↦ let none : ⊥ = subst ReadsCells codes.2 reads in absurd none
]

read_name : (name : List ℕ) (t : ColumnType) (slots : List Slot) → (read_column name t slots).name ≡ name
read_name name t slots = elim (read_cases name t slots) [
  | inl same ↦ ap (λ (c : ColumnValue). c.name) same
  | inr codes ↦ rw codes.2 refl
]

read_length : (name : List ℕ) (t : ColumnType) (slots : List Slot) → length (read_column name t slots).slots ≡ length slots
read_length name t slots = elim (read_cases name t slots) [
  | inl same ↦ ap (λ (c : ColumnValue). length c.slots) same
  | inr codes ↦ rw codes.2 (length-map slots (coded_slot (texts_in slots)))
]

-- slots that are all kept
kept_all : (slots : List Slot) → map (kept_slot true) slots ≡ slots
kept_all [] = refl
kept_all (slot ∷ slots) = ap (λ ss. slot ∷ ss) (kept_all slots)

pub heads_in_built : (asked : List ℕ → Bool) (k : ℕ) (heads : List Head) (rows : List (List Slot)) → map head_in (built_from asked k heads rows) ≡ heads
heads_in_built asked k [] rows = refl
heads_in_built asked k (head ∷ heads) rows = ap (λ hs. head ∷ hs) (heads_in_built asked (suc k) heads rows)

module _ (names : List (List ℕ)) where
  kept_first : (keeps : Bool) (head : Head) (slots : List Slot) (rest : List ColumnValue)
      → cons_option (read_if_kept (built_of keeps head slots)) rest ≡ cond keeps (read_column head.name head.dtype slots ∷ rest) rest
  kept_first true head slots rest = ap (λ ss. read_column head.name head.dtype ss ∷ rest) (kept_all slots)
  kept_first false head slots rest = refl

  -- the columns whose slots are kept, once all cells are read
  pub columns_kept : (k : ℕ) (heads : List Head) (rows : List (List Slot)) → filter_map read_if_kept (built_from (is_asked names) k heads rows) ≡ kept names (columns_from k heads rows)
  columns_kept k [] rows = refl
  columns_kept k (head ∷ heads) rows =
      let slots = slots_of_column k rows in
      let column = read_column head.name head.dtype slots in
      let rest = kept names (columns_from (suc k) heads rows) in
      ap (cons_option (read_if_kept (built_of (is_asked names head.name) head slots))) (columns_kept (suc k) heads rows)
      ∙ kept_first (is_asked names head.name) head slots rest
      ∙ ap (λ name. cond (is_asked names name) (column ∷ rest) rest) (sym (read_name head.name head.dtype slots))

-- ---- a record has a slot for each head

onto_parts : {A : Type 0} (x : A) (r : Result (List A) TableFault) (all : List A) → onto x r ≡ Ok all → (xs : List A) × (r ≡ Ok xs) × (all ≡ x ∷ xs)
onto_parts x (Err fault) all e = cc
onto_parts x (Ok xs) all e = (xs, refl, cc)

cell_parts : (row k : ℕ) (o : Option Slot) (r : Result (List Slot) TableFault) (all : List Slot) → cell_onto row k o r ≡ Ok all → (slot : Slot) × (slots : List Slot) × (r ≡ Ok slots) × (all ≡ slot ∷ slots)
cell_parts row k None r all e = cc
cell_parts row k (Some slot) r all e = let p = onto_parts slot r all e in (slot, p.0, p.1, p.2)

cells_length : (null_word : List ℕ) (row k : ℕ) (heads : List Head) (fields : List (List ℕ)) (slots : List Slot) → length fields ≡ length heads
    → cells_from null_word row k heads fields ≡ Ok slots → length slots ≡ length heads
cells_length null_word row k [] fields slots e h = let none : slots ≡ [] = cc in ap length none
cells_length null_word row k (head ∷ heads) [] slots e h = absurd (omega (arith, e))
cells_length null_word row k (head ∷ heads) (field ∷ fields) slots e h =
    let p = cell_parts row k (cell_slot null_word head.dtype field) (cells_from null_word row (suc k) heads fields) slots h in
    ap length p.3 ∙ ap suc (cells_length null_word row (suc k) heads fields p.1 (omega (arith, e)) p.2)

pub record_length : (null_word : List ℕ) (row : ℕ) (heads : List Head) (fields : List (List ℕ)) (slots : List Slot) → record_slots null_word row heads fields ≡ Ok slots → length slots ≡ length heads
record_length null_word row heads fields slots e = elim (cases_Bool (length fields == length heads)) [
  | inl h ↦ cells_length null_word row 1 heads fields slots (eqb-true (length fields) (length heads) h) (rw h at e)
  | inr h ↦ let bad = rw h at e in cc
]

-- the slots of a record are the same in every row
cells_any : (null_word : List ℕ) (row other k : ℕ) (heads : List Head) (fields : List (List ℕ)) (slots : List Slot) → cells_from null_word row k heads fields ≡ Ok slots → cells_from null_word other k heads fields ≡ Ok slots
cells_any null_word row other k [] fields slots e = e
cells_any null_word row other k (head ∷ heads) [] slots e = e
cells_any null_word row other k (head ∷ heads) (field ∷ fields) slots e =
    cell_any (cell_slot null_word head.dtype field) (cells_from null_word row (suc k) heads fields) (cells_from null_word other (suc k) heads fields) (cells_any null_word row other (suc k) heads fields) e
  where
    cell_any : (o : Option Slot) (r s : Result (List Slot) TableFault) → ((all : List Slot) → r ≡ Ok all → s ≡ Ok all) → cell_onto row k o r ≡ Ok slots → cell_onto other k o s ≡ Ok slots
    cell_any None r s same h = cc
    cell_any (Some slot) r s same h = let p = onto_parts slot r slots h in ap (onto slot) (same p.0 p.1) ∙ ap (λ xs. Ok xs) (sym p.2)

pub slots_any : (null_word : List ℕ) (row other : ℕ) (heads : List Head) (fields : List (List ℕ)) (slots : List Slot) → record_slots null_word row heads fields ≡ Ok slots → record_slots null_word other heads fields ≡ Ok slots
slots_any null_word row other heads fields slots e = elim (cases_Bool (length fields == length heads)) [
  | inl h ↦ rw h (cells_any null_word row other 1 heads fields slots (rw h at e))
  | inr h ↦ let bad = rw h at e in cc
]

-- ---- the slots of several records

pub row_parts : (r : Result (List Slot) TableFault) (rest : Result (List (List Slot)) TableFault) (all : List (List Slot)) → row_onto r rest ≡ Ok all
    → (slots : List Slot) × (rows : List (List Slot)) × (r ≡ Ok slots) × (rest ≡ Ok rows) × (all ≡ slots ∷ rows)
row_parts (Err fault) rest all e = cc
row_parts (Ok slots) rest all e = let p = onto_parts slots rest all e in (slots, p.0, refl, p.1, p.2)

module _ (null_word : List ℕ) (heads : List Head) where
  pub rows_more : (row : ℕ) (rows : List (List (List ℕ))) (fields : List (List ℕ)) (all : List (List Slot)) (slots : List Slot) → rows_from null_word row heads rows ≡ Ok all
      → record_slots null_word (length rows + row) heads fields ≡ Ok slots → rows_from null_word row heads (rows ++ fields ∷ []) ≡ Ok (all ++ slots ∷ [])
  rows_more row [] fields all slots e h = let none : all ≡ [] = cc in let here = rw zero-add at h in rw (here, none)
  rows_more row (first ∷ rows) fields all slots e h =
      let p = row_parts (record_slots null_word row heads first) (rows_from null_word (suc row) heads rows) all e in
      let at : length (first ∷ rows) + row ≡ length rows + suc row = omega arith in
      let next = rows_more (suc row) rows fields p.1 slots p.3 (ap (λ n. record_slots null_word n heads fields) (sym at) ∙ h) in
      ap (λ r. row_onto r (rows_from null_word (suc row) heads (rows ++ fields ∷ []))) p.2 ∙ ap (onto p.0) next ∙ ap (λ xs. Ok (xs ++ slots ∷ [])) (sym p.4)

  pub rows_bad : (row : ℕ) (rows : List (List (List ℕ))) (fields : List (List ℕ)) (more : List (List (List ℕ))) (all : List (List Slot)) (fault : TableFault) → rows_from null_word row heads rows ≡ Ok all
      → record_slots null_word (length rows + row) heads fields ≡ Err fault → rows_from null_word row heads (rows ++ fields ∷ more) ≡ Err fault
  rows_bad row [] fields more all fault e h = let here = rw zero-add at h in rw here
  rows_bad row (first ∷ rows) fields more all fault e h =
      let p = row_parts (record_slots null_word row heads first) (rows_from null_word (suc row) heads rows) all e in
      let at : length (first ∷ rows) + row ≡ length rows + suc row = omega arith in
      let next = rows_bad (suc row) rows fields more p.1 fault p.3 (ap (λ n. record_slots null_word n heads fields) (sym at) ∙ h) in
      ap (λ r. row_onto r (rows_from null_word (suc row) heads (rows ++ fields ∷ more))) p.2 ∙ ap (onto p.0) next

  pub rows_length : (row : ℕ) (rows : List (List (List ℕ))) (all : List (List Slot)) → rows_from null_word row heads rows ≡ Ok all → length all ≡ length rows
  rows_length row [] all e = let none : all ≡ [] = cc in ap length none
  rows_length row (first ∷ rows) all e =
      let p = row_parts (record_slots null_word row heads first) (rows_from null_word (suc row) heads rows) all e in
      ap length p.4 ∙ ap suc (rows_length (suc row) rows p.1 p.3)

-- ---- one record more in the columns

slot_after : (pre slots : List Slot) (slot : Slot) (k : ℕ) → length pre ≡ k → slot_at (pre ++ slot ∷ slots) k ≡ slot
slot_after [] slots slot zero e = refl
slot_after [] slots slot (suc k) e = absurd (omega (arith, e))
slot_after (p ∷ pre) slots slot zero e = absurd (omega (arith, e))
slot_after (p ∷ pre) slots slot (suc k) e = slot_after pre slots slot k (omega (arith, e))

column_more : (keeps : Bool) (k : ℕ) (head : Head) (rows : List (List Slot)) (pre slots : List Slot) (slot : Slot) → length pre ≡ k
    → taken (built_of keeps head (slots_of_column k rows)) slot ≡ built_of keeps head (slots_of_column k (rows ++ (pre ++ slot ∷ slots) ∷ []))
column_more keeps k head rows pre slots slot e =
    let before = slots_of_column k rows in
    let all = map-append (λ row. slot_at row k) rows ((pre ++ slot ∷ slots) ∷ []) ∙ ap (λ s. before ++ s ∷ []) (slot_after pre slots slot k e) in
    ap (λ c. record { keeps = keeps; column = c }) (pushed_fresh head.name head.dtype (map (kept_slot keeps) before) (kept_slot keeps slot)
    ∙ ap (fresh_column head.name head.dtype) (sym (map-append (kept_slot keeps) before (slot ∷ [])) ∙ ap (map (kept_slot keeps)) (sym all)))

-- the slots of a record behind those of other records, the first k of its slots being `pre`
pub columns_more : (asked : List ℕ → Bool) (k : ℕ) (heads : List Head) (rows : List (List Slot)) (pre slots : List Slot) → length pre ≡ k → length slots ≡ length heads
    → taken_each (built_from asked k heads rows) slots ≡ built_from asked k heads (rows ++ (pre ++ slots) ∷ [])
columns_more asked k [] rows pre slots e h = refl
columns_more asked k (head ∷ heads) rows pre [] e h = absurd (omega (arith, h))
columns_more asked k (head ∷ heads) rows pre (slot ∷ slots) e h =
    let rest = columns_more asked (suc k) heads rows (pre ++ slot ∷ []) slots (omega (arith, e, length-append pre (slot ∷ []))) (omega (arith, h)) in
    let whole = rw (append_assoc pre (slot ∷ []) slots) at rest in
    ap (λ c. c ∷ taken_each (built_from asked (suc k) heads rows) slots) (column_more (asked head.name) k head rows pre slots slot e)
    ∙ ap (λ cs. built_of (asked head.name) head (slots_of_column k (rows ++ (pre ++ slot ∷ slots) ∷ [])) ∷ cs) whole

-- ---- names and lengths

pub names_from : (k : ℕ) (heads : List Head) (rows : List (List Slot)) → names_of (columns_from k heads rows) ≡ map (λ h. h.name) heads
names_from k [] rows = refl
names_from k (head ∷ heads) rows = rw (read_name head.name head.dtype (slots_of_column k rows), names_from (suc k) heads rows)

height_from : (k : ℕ) (head : Head) (rows : List (List Slot)) → length (read_column head.name head.dtype (slots_of_column k rows)).slots ≡ length rows
height_from k head rows = read_length head.name head.dtype (slots_of_column k rows) ∙ length-map rows (λ row. slot_at row k)

lengths_from : (k : ℕ) (heads : List Head) (rows : List (List Slot)) → all_have_length (length rows) (columns_from k heads rows) ≡ true
lengths_from k [] rows = refl
lengths_from k (head ∷ heads) rows = rw (height_from k head rows, eq-eqb (length rows) (length rows) refl) (lengths_from (suc k) heads rows)

pub aligned : (heads : List Head) (rows : List (List Slot)) → all_have_length (frame_height (columns_from 0 heads rows)) (columns_from 0 heads rows) ≡ true
aligned [] rows = refl
aligned (head ∷ heads) rows = ap (λ n. all_have_length n (columns_from 0 (head ∷ heads) rows)) (height_from 0 head rows) ∙ lengths_from 0 (head ∷ heads) rows

module _ (asked : List ℕ → Bool) where
  built_length : (k : ℕ) (head : Head) (rows : List (List Slot)) → length (map (kept_slot (asked head.name)) (slots_of_column k rows)) ≡ length rows
  built_length k head rows = length-map (slots_of_column k rows) (kept_slot (asked head.name)) ∙ length-map rows (λ row. slot_at row k)

  pub roomy_columns : (k : ℕ) (heads : List Head) (rows : List (List Slot)) → length rows + 1 < 2 ^ 63 → AllByRecursion IsRoomy (built_from asked k heads rows)
  roomy_columns k [] rows h = tt
  roomy_columns k (head ∷ heads) rows h =
      let few : length (map (kept_slot (asked head.name)) (slots_of_column k rows)) + 1 < 2 ^ 63 = rw (built_length k head rows) h in
      (few, roomy_columns (suc k) heads rows h)

  pub few_columns : (k : ℕ) (heads : List Head) (rows : List (List Slot)) → length rows ≤ 4294967295 → AllByRecursion HasFew (built_from asked k heads rows)
  few_columns k [] rows h = tt
  few_columns k (head ∷ heads) rows h = (rw (built_length k head rows) h, few_columns (suc k) heads rows h)

  pub whole_columns : (k : ℕ) (heads : List Head) (rows : List (List Slot)) → length rows ≤ 4294967295 → AllByRecursion IsWhole (built_from asked k heads rows)
  whole_columns k [] rows h = tt
  whole_columns k (head ∷ heads) rows h =
      let few : length (map (kept_slot (asked head.name)) (slots_of_column k rows)) ≤ 4294967295 = rw (built_length k head rows) h in
      let first : IsWhole (built_of (asked head.name) head (slots_of_column k rows)) = record { fresh = refl; few = few } in
      (first, whole_columns (suc k) heads rows h)

-- ---- the heads of a header

head_taken : (reads old : Bool) (x y : TableFault) (head : Head) (r : Result (List Head) TableFault) (heads : List Head) → (if not reads then Err x else if old then Err y else onto head r) ≡ Ok heads
    → (reads ≡ true) × (old ≡ false) × ((rest : List Head) × (r ≡ Ok rest) × (heads ≡ head ∷ rest))
head_taken false old x y head r heads e = cc
head_taken true true x y head r heads e = cc
head_taken true false x y head r heads e = (refl, refl, onto_parts head r heads e)

none_repeated : (b : Bool) (name : List ℕ) (o : Option (List ℕ)) → b ≡ false → o ≡ None → cond b (Some name) o ≡ None
none_repeated b name o e h = rw (e, h)

module _ (k : ℕ) (seen : List (List ℕ)) (field : List ℕ) (fields : List (List ℕ)) (heads : List Head) (e : heads_from k seen (field ∷ fields) ≡ Ok heads) where
  first_head : (is_utf8 field ≡ true) × (list_any (bytes_eq (head_of field).name) seen ≡ false)
      × ((rest : List Head) × (heads_from (suc k) ((head_of field).name ∷ seen) fields ≡ Ok rest) × (heads ≡ head_of field ∷ rest))
  first_head = head_taken (is_utf8 field) (list_any (bytes_eq (head_of field).name) seen) _ _ (head_of field) _ heads e

pub distinct_from : (k : ℕ) (seen : List (List ℕ)) (fields : List (List ℕ)) (heads : List Head) → heads_from k seen fields ≡ Ok heads → repeated_after seen (map (λ h. h.name) heads) ≡ None
distinct_from k seen [] heads e = let none : heads ≡ [] = cc in rw none
distinct_from k seen (field ∷ fields) heads e =
    let p = first_head k seen field fields heads e in
    rw p.2.2 (none_repeated _ _ _ p.1 (distinct_from (suc k) ((head_of field).name ∷ seen) fields p.2.0 p.2.1))
