-- Slots put at the ends of columns, and a record's cells, one column after the other.
use Rattle.std.proofs.Common.{◌≡◌, ℕ, ◌+◌, ◌-◌, ◌<◌, ◌≤◌, zero, suc, List, [], ◌∷◌, ◌++◌, map, length, get_or, get_or-drop, set, take, drop, refl, sym, ◌∙◌, ap, append_assoc, add-one, arith, Option, Some, None, Result, Ok, Err}
use Rattle.std.specs.Prelude.{option_map}
use Rattle.std.proofs.lemmas.Bool.{eq-eqb, ne_eqb}
use Rattle.std.proofs.lemmas.List.{append-nil, length-append, length-map, take_all, drop_all, drop_more, take_more_set, drop-set-lt, length-set}
use Rattle.std.specs.Str.{IsAscii, IsUtf8}
use Rattle.std.proofs.lemmas.Str.{IsUtf8-from_ascii}
use Rattle.csv.specs.Records.{AllText, cut_from, field_at}
use Rattle.gb_defs.specs.Slot.{Slot}
use Rattle.gb_defs.specs.Cell.{cell_slot}
use Rattle.gb_defs.specs.Table.{TableFault, Ragged, BadCell, onto, cell_onto, cells_from}
use Rattle.gb_text.specs.Building.{Building, building_with, taken}
use Rattle.gb_text.specs.Table.{map_ok, columns_with, head_in, taken_each}

-- ---- the fields of a record

pub field_drop : (fields : List (List ℕ)) (i : ℕ) (field : List ℕ) → field_at fields i ≡ Some field → drop i fields ≡ field ∷ drop (i + 1) fields
unfolding field_at
field_drop [] i field e = cc
field_drop (f ∷ fields) zero field e = let same : f ≡ field = cc in ap (λ g. g ∷ fields) same
field_drop (f ∷ fields) (suc i) field e = rw add-one (rw add-one at (field_drop fields i field e))

pub field_take : (fields : List (List ℕ)) (i : ℕ) (field : List ℕ) → field_at fields i ≡ Some field → take (i + 1) fields ≡ take i fields ++ field ∷ []
unfolding field_at
field_take [] i field e = cc
field_take (f ∷ fields) zero field e = let same : f ≡ field = cc in ap (λ g. g ∷ []) same
field_take (f ∷ fields) (suc i) field e = rw add-one (ap (λ rest. f ∷ rest) (rw add-one at (field_take fields i field e)))

pub field_some : (fields : List (List ℕ)) (i : ℕ) → i < length fields → None ≡ field_at fields i → ⊥
unfolding field_at
field_some [] i lt e = omega (arith, lt)
field_some (f ∷ fields) zero lt e = cc
field_some (f ∷ fields) (suc i) lt e = field_some fields i (omega (arith, lt)) e

front_back : (fields : List (List ℕ)) (i : ℕ) → take i fields ++ drop i fields ≡ fields
front_back fields zero = refl
front_back [] (suc i) = refl
front_back (f ∷ fields) (suc i) = ap (λ rest. f ∷ rest) (front_back fields i)

pub ascii_take : (n : ℕ) (bytes : List ℕ) → IsAscii bytes → IsAscii (take n bytes)
ascii_take zero bytes h i = omega arith
ascii_take (suc n) [] h i = omega arith
ascii_take (suc n) (b ∷ bytes) h zero = h 0
ascii_take (suc n) (b ∷ bytes) h (suc i) = ascii_take n bytes (λ k. h (suc k)) i

-- each part of ASCII bytes is a text
pub ascii_fields : (start : ℕ) (ends bytes : List ℕ) → IsAscii bytes → AllText (cut_from start ends bytes)
unfolding AllText cut_from
ascii_fields start [] bytes h = tt
ascii_fields start (end ∷ ends) bytes h =
    let rest : IsAscii (drop start bytes) = λ i. rw (get_or-drop start bytes i 0) (h (start + i)) in
    (IsUtf8-from_ascii _ (ascii_take (end - start) _ rest), ascii_fields end ends bytes h)

pub text_at : (fields : List (List ℕ)) (i : ℕ) (field : List ℕ) → AllText fields → field_at fields i ≡ Some field → IsUtf8 field
unfolding AllText field_at
text_at [] i field h e = cc
text_at (f ∷ fields) zero field h e = let same : f ≡ field = cc in rw (← same) h.0
text_at (f ∷ fields) (suc i) field h e = text_at fields i field h.1 e

-- ---- lists that a fault may stand in for

pub front_more : {A : Type 0} (front : List A) (x : A) (r : Result (List A) TableFault) → map_ok (λ xs. front ++ xs) (onto x r) ≡ map_ok (λ xs. (front ++ x ∷ []) ++ xs) r
front_more front x (Err fault) = refl
front_more front x (Ok xs) = ap (λ list. Ok list) (sym (append_assoc front (x ∷ []) xs))

pub no_front : {A : Type 0} (r : Result (List A) TableFault) → r ≡ map_ok (λ xs. [] ++ xs) r
no_front (Err fault) = refl
no_front (Ok xs) = refl

-- ---- the cells of a record, from the k-th column on

abbrev column_onto : ℕ → ℕ → Option Building → Result (List Building) TableFault → Result (List Building) TableFault
column_onto row k None rest = Err (BadCell row k)
column_onto row k (Some c) rest = onto c rest

abbrev pub cells_with : List ℕ → ℕ → ℕ → List Building → List (List ℕ) → Result (List Building) TableFault
cells_with null_word row k [] fields = Ok []
cells_with null_word row k (c ∷ cs) [] = Ok []
cells_with null_word row k (c ∷ cs) (field ∷ fields) = column_onto row k (building_with null_word c field) (cells_with null_word row (suc k) cs fields)

one_cell : (row k : ℕ) (c : Building) (cs : List Building) (o : Option Slot) (r : Result (List Slot) TableFault)
    → column_onto row k (option_map (taken c) o) (map_ok (taken_each cs) r) ≡ map_ok (taken_each (c ∷ cs)) (cell_onto row k o r)
one_cell row k c cs None r = refl
one_cell row k c cs (Some slot) (Err fault) = refl
one_cell row k c cs (Some slot) (Ok slots) = refl

each_cell : (null_word : List ℕ) (row k : ℕ) (cs : List Building) (fields : List (List ℕ)) → cells_with null_word row k cs fields ≡ map_ok (taken_each cs) (cells_from null_word row k (map head_in cs) fields)
each_cell null_word row k [] fields = refl
each_cell null_word row k (c ∷ cs) [] = refl
each_cell null_word row k (c ∷ cs) (field ∷ fields) = rw (each_cell null_word row (suc k) cs fields) (one_cell row k c cs (cell_slot null_word c.column.dtype field) _)

module _ (null_word : List ℕ) (row : ℕ) (cs : List Building) (fields : List (List ℕ)) where
  whole : length fields ≡ length cs → columns_with null_word row cs fields ≡ cells_with null_word row 1 cs fields
  whole e = rw (length-map cs head_in, eq-eqb (length fields) (length cs) e) (sym (each_cell null_word row 1 cs fields))

  pub columns_ragged : (length fields ≡ length cs → ⊥) → columns_with null_word row cs fields ≡ Err (Ragged row (length fields) (length cs))
  columns_ragged h = rw (length-map cs head_in, ne_eqb (length fields) (length cs) h) refl

-- ---- one column after the other

module _ (null_word : List ℕ) (initial : List Building) where
  -- the columns before the i-th have these cells, whatever cells follow and whatever the row is
  pub record IsPassing (done : List (List ℕ)) (i : ℕ) (now : List Building) : Type 0 where
    pub count : length done ≡ i
    pub same : length now ≡ length initial
    pub so_far : (row : ℕ) (more : List (List ℕ)) → cells_with null_word row 1 initial (done ++ more) ≡ map_ok (λ cs. take i now ++ cs) (cells_with null_word row (suc i) (drop i now) more)

  pub passing_none : IsPassing [] 0 initial
  passing_none = record { count = refl; same = refl; so_far = λ row more. no_front (cells_with null_word row 1 initial more) }

  module _ (done : List (List ℕ)) (i : ℕ) (now : List Building) (s : IsPassing done i now) where
    module _ (c : Building) (cell : List ℕ) (lt : i < length now) (at : c ≡ get_or now i c) where
      here : (row : ℕ) (more : List (List ℕ))
          → cells_with null_word row (suc i) (drop i now) (cell ∷ more) ≡ column_onto row (suc i) (building_with null_word c cell) (cells_with null_word row (suc (i + 1)) (drop (i + 1) now) more)
      here row more = rw (drop_more now i c lt, ← at, add-one)

      pub passing_more : (d : Building) → building_with null_word c cell ≡ Some d → IsPassing (done ++ cell ∷ []) (i + 1) (set now i d)
      passing_more d e = record {
        count = omega (arith, length-append done (cell ∷ []), s.count);
        same = omega (arith, length-set now i d, s.same);
        so_far = λ row more.
            let rest = cells_with null_word row (suc (i + 1)) (drop (i + 1) now) more in
            let one = here row more ∙ ap (λ o. column_onto row (suc i) o rest) e in
            let moved = ap (cells_with null_word row 1 initial) (append_assoc done (cell ∷ []) more) ∙ s.so_far row (cell ∷ more) ∙ ap (map_ok (λ cs. take i now ++ cs)) one ∙ front_more (take i now) d rest in
            rw (take_more_set now i d lt, drop-set-lt (i + 1) now i d (omega arith)) moved;
      }

      pub passing_bad : (row : ℕ) (more : List (List ℕ)) → length (done ++ cell ∷ more) ≡ length initial → building_with null_word c cell ≡ None
          → columns_with null_word row initial (done ++ cell ∷ more) ≡ Err (BadCell row (i + 1))
      passing_bad row more long e =
          whole null_word row initial (done ++ cell ∷ more) long ∙ s.so_far row (cell ∷ more)
          ∙ ap (map_ok (λ cs. take i now ++ cs)) (here row more ∙ ap (λ o. column_onto row (suc i) o (cells_with null_word row (suc (i + 1)) (drop (i + 1) now) more)) e)
          ∙ (rw add-one)

    pub passing_all : (row : ℕ) → length now ≤ i → i ≤ length now → columns_with null_word row initial done ≡ Ok now
    passing_all row few all =
        whole null_word row initial done (omega (arith, s.count, s.same, few, all)) ∙ ap (cells_with null_word row 1 initial) (sym (append-nil done)) ∙ s.so_far row []
        ∙ (rw (drop_all i now few, take_all i now few, append-nil))

  -- ---- the fields of a record that is at hand

  module _ (fields : List (List ℕ)) (i : ℕ) (now : List Building) (s : IsPassing (take i fields) i now) (c : Building) (field : List ℕ) (lt : i < length now) (at : c ≡ get_or now i c) (read : field_at fields i ≡ Some field) where
    pub pushing_more : (d : Building) → building_with null_word c field ≡ Some d → IsPassing (take (i + 1) fields) (i + 1) (set now i d)
    pushing_more d e = rw (field_take fields i field read) (passing_more (take i fields) i now s c field lt at d e)

    pub pushing_bad : (row : ℕ) → length fields ≡ length initial → building_with null_word c field ≡ None → columns_with null_word row initial fields ≡ Err (BadCell row (i + 1))
    pushing_bad row long e =
        let all : take i fields ++ field ∷ drop (i + 1) fields ≡ fields = ap (λ rest. take i fields ++ rest) (sym (field_drop fields i field read)) ∙ front_back fields i in
        rw all at (passing_bad (take i fields) i now s c field lt at row (drop (i + 1) fields) (ap length all ∙ long) e)

  pub pushing_all : (fields : List (List ℕ)) (i : ℕ) (now : List Building) → IsPassing (take i fields) i now → length fields ≤ i → (row : ℕ) → length now ≤ i → i ≤ length now → columns_with null_word row initial fields ≡ Ok now
  pushing_all fields i now s short row few all = rw (take_all i fields short) at (passing_all (take i fields) i now s row few all)
