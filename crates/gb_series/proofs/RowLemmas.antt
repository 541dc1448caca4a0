-- The slots of rows, by their flags and their pieces.
use Rattle.std.proofs.Common.{◌≡◌, ℕ, zero, suc, ◌+◌, ◌<◌, Bool, true, false, not, List, [], ◌∷◌, ◌++◌, length, map, take, drop, get_or, refl, sym, ◌∙◌, ap, arith, cond, Option, None, Some, MatchOption}
use Rattle.std.specs.List.{All, AllByRecursion, count_by, position}
use Rattle.std.proofs.lemmas.List.Elements.{All-from_recursion, recursion_from_All}
use Rattle.std.proofs.lemmas.List.Sums.{sum_by-append}
use Rattle.std.proofs.Math.Seq.{drop-nil}
use Rattle.gb_base.proofs.TextLemmas.{position_mapped}
use Rattle.gb_defs.specs.Slot.{Slot, is_nil, slot_at}
use Rattle.gb_defs.specs.Slices.{between}
use Rattle.gb_defs.specs.Column.{IsLastValid, is_valid}
use Rattle.gb_values.specs.Valid.{IsNull}
use Rattle.gb_series.specs.Rows.{IsAbsent, IsLastPresent, row_slot, rows_of}

pub rows_length : (present : List Bool) (pieces : List (List Slot)) → length (rows_of present pieces) ≡ length present
rows_length [] pieces = refl
rows_length (p ∷ ps) [] = ap suc (rows_length ps [])
rows_length (p ∷ ps) (x ∷ xs) = ap suc (rows_length ps xs)

row_nil : (present : Bool) (piece : List Slot) → is_nil (row_slot present piece) ≡ not present
row_nil true piece = refl
row_nil false piece = refl

-- the slot of a row
pub row_at : (present : List Bool) (pieces : List (List Slot)) (i : ℕ) → slot_at (rows_of present pieces) i ≡ row_slot (get_or present i false) (get_or pieces i [])
row_at [] pieces i = refl
row_at (p ∷ ps) [] zero = refl
row_at (p ∷ ps) [] (suc i) = row_at ps [] i
row_at (p ∷ ps) (x ∷ xs) zero = refl
row_at (p ∷ ps) (x ∷ xs) (suc i) = row_at ps xs i

pub row_null : (present : List Bool) (pieces : List (List Slot)) (i : ℕ) → is_nil (slot_at (rows_of present pieces) i) ≡ not (get_or present i false)
row_null present pieces i = ap is_nil (row_at present pieces i) ∙ row_nil (get_or present i false) (get_or pieces i [])

twice : (b : Bool) → b ≡ not (not b)
twice true = refl
twice false = refl

pub row_valid : (present : List Bool) (pieces : List (List Slot)) (i : ℕ) → get_or present i false ≡ not (is_nil (slot_at (rows_of present pieces) i))
row_valid present pieces i = twice (get_or present i false) ∙ sym (ap not (row_null present pieces i))

-- ---- more rows, and some of them

pub rows_append : (ps qs : List Bool) (xs ys : List (List Slot)) → length xs ≡ length ps → rows_of (ps ++ qs) (xs ++ ys) ≡ rows_of ps xs ++ rows_of qs ys
rows_append [] qs [] ys e = refl
rows_append [] qs (x ∷ xs) ys e = absurd (omega (arith, e))
rows_append (p ∷ ps) qs [] ys e = absurd (omega (arith, e))
rows_append (p ∷ ps) qs (x ∷ xs) ys e = ap (λ ss. row_slot p x ∷ ss) (rows_append ps qs xs ys (omega (arith, e)))

pub take_nil : {A : Type 0} (n : ℕ) → take {A = A} n [] ≡ []
take_nil zero = refl
take_nil (suc n) = refl

pub rows_take : (n : ℕ) (ps : List Bool) (xs : List (List Slot)) → take n (rows_of ps xs) ≡ rows_of (take n ps) (take n xs)
rows_take zero [] xs = refl
rows_take zero (p ∷ ps) [] = refl
rows_take zero (p ∷ ps) (x ∷ xs) = refl
rows_take (suc n) [] xs = refl
rows_take (suc n) (p ∷ ps) [] = ap (λ ss. row_slot p [] ∷ ss) (rows_take n ps [] ∙ ap (rows_of (take n ps)) (take_nil {A = List Slot} n))
rows_take (suc n) (p ∷ ps) (x ∷ xs) = ap (λ ss. row_slot p x ∷ ss) (rows_take n ps xs)

rows_drop : (n : ℕ) (ps : List Bool) (xs : List (List Slot)) → drop n (rows_of ps xs) ≡ rows_of (drop n ps) (drop n xs)
rows_drop zero [] xs = refl
rows_drop zero (p ∷ ps) [] = refl
rows_drop zero (p ∷ ps) (x ∷ xs) = refl
rows_drop (suc n) [] xs = refl
rows_drop (suc n) (p ∷ ps) [] = rows_drop n ps [] ∙ ap (rows_of (drop n ps)) (drop-nil {A = List Slot} n)
rows_drop (suc n) (p ∷ ps) (x ∷ xs) = rows_drop n ps xs

pub rows_between : (from to : ℕ) (ps : List Bool) (xs : List (List Slot)) → between from to (rows_of ps xs) ≡ rows_of (between from to ps) (between from to xs)
rows_between from to ps xs = ap (take _) (rows_drop from ps xs) ∙ rows_take _ (drop from ps) (drop from xs)

pub rows_taken : (ps : List Bool) (xs : List (List Slot)) (rows : List ℕ) → map (slot_at (rows_of ps xs)) rows ≡ rows_of (map (λ row. get_or ps row false) rows) (map (λ row. get_or xs row []) rows)
rows_taken ps xs [] = refl
rows_taken ps xs (row ∷ rows) = rw (row_at ps xs row) (ap (λ ss. row_slot (get_or ps row false) (get_or xs row []) ∷ ss) (rows_taken ps xs rows))

-- ---- nulls

count_cons : {X : Type 0} (p : X → Bool) (x : X) (xs : List X) → count_by p (x ∷ xs) ≡ cond (p x) 1 0 + count_by p xs
count_cons p x xs =
    let split : count_by p (x ∷ xs) ≡ (0 + cond (p x) 1 0) + count_by p xs = sum_by-append (λ y. cond (p y) 1 0) (x ∷ []) xs in omega (arith, split)

count_row : (p : Bool) (piece : List Slot) → ◌≡◌ {A = ℕ} (cond (is_nil (row_slot p piece)) 1 0) (cond (not p) 1 0)
count_row p piece = ap (λ b. cond b 1 0) (row_nil p piece)

pub nulls_counted : (ps : List Bool) (xs : List (List Slot)) → count_by is_nil (rows_of ps xs) ≡ count_by not ps
nulls_counted [] xs = refl
nulls_counted (p ∷ ps) [] =
    count_cons is_nil (row_slot p []) (rows_of ps []) ∙ ap (λ n. n + count_by is_nil (rows_of ps [])) (count_row p []) ∙ ap (λ n. cond (not p) 1 0 + n) (nulls_counted ps [])
    ∙ sym (count_cons not p ps)
nulls_counted (p ∷ ps) (x ∷ xs) =
    count_cons is_nil (row_slot p x) (rows_of ps xs) ∙ ap (λ n. n + count_by is_nil (rows_of ps xs)) (count_row p x) ∙ ap (λ n. cond (not p) 1 0 + n) (nulls_counted ps xs)
    ∙ sym (count_cons not p ps)

valid_flags : (ps : List Bool) (xs : List (List Slot)) → map is_valid (rows_of ps xs) ≡ ps
valid_flags [] xs = refl
valid_flags (true ∷ ps) [] = ap (λ bs. true ∷ bs) (valid_flags ps [])
valid_flags (false ∷ ps) [] = ap (λ bs. false ∷ bs) (valid_flags ps [])
valid_flags (true ∷ ps) (x ∷ xs) = ap (λ bs. true ∷ bs) (valid_flags ps xs)
valid_flags (false ∷ ps) (x ∷ xs) = ap (λ bs. false ∷ bs) (valid_flags ps xs)

pub first_valid : (ps : List Bool) (xs : List (List Slot)) → position is_valid (rows_of ps xs) ≡ position (λ present. present) ps
first_valid ps xs = position_mapped is_valid (λ present. present) (rows_of ps xs) ∙ ap (position (λ present. present)) (valid_flags ps xs)

all_null : (ps : List Bool) (xs : List (List Slot)) → AllByRecursion IsAbsent ps → AllByRecursion IsNull (rows_of ps xs)
all_null [] xs all = tt
all_null (p ∷ ps) [] all = (row_nil p [] ∙ ap not all.0, all_null ps [] all.1)
all_null (p ∷ ps) (x ∷ xs) all = (row_nil p x ∙ ap not all.0, all_null ps xs all.1)

pub last_valid : (ps : List Bool) (xs : List (List Slot)) (found : Option ℕ) → MatchOption found (All IsAbsent ps) (IsLastPresent ps) →
    MatchOption found (All IsNull (rows_of ps xs)) (IsLastValid (rows_of ps xs))
last_valid ps xs None none = All-from_recursion IsNull (rows_of ps xs) (all_null ps xs (recursion_from_All IsAbsent ps none))
last_valid ps xs (Some row) found = record {
  inside = omega (arith, found.inside, rows_length ps xs);
  valid = row_null ps xs row ∙ ap not found.here;
  later = λ k up lt. row_null ps xs k ∙ ap not (found.later k up (omega (arith, lt, rows_length ps xs)));
}

-- a place inside reads alike whatever the default
pub get_or_any : {A : Type 0} (xs : List A) (i : ℕ) (d e : A) → i < length xs → get_or xs i d ≡ get_or xs i e
get_or_any [] i d e lt = absurd (omega (arith, lt))
get_or_any (x ∷ xs) zero d e lt = refl
get_or_any (x ∷ xs) (suc i) d e lt = get_or_any xs i d e (omega (arith, lt))
