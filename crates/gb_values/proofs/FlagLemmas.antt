-- Slots under their flags.
use Rattle.std.proofs.Common.{◌≡◌, inl, inr, ℕ, zero, suc, ◌+◌, ◌<◌, ◌≤◌, Bool, true, false, List, [], ◌∷◌, ◌++◌, length, refl, sym, ◌∙◌, ap, cond, arith, get_or, replicate, take, drop, nat_lt, ◌||◌, not, Option, Some, None, option_map}
use Rattle.std.proofs.lemmas.List.{length-append, length-drop, length-replicate, length-take}
use Rattle.std.proofs.lemmas.Bool.Decides.{nat_tests}
use Rattle.std.specs.List.{AllByRecursion, count_by, list_any}
use Rattle.std.proofs.lemmas.List.Sums.{sum_by-append}
use Rattle.gb_defs.specs.Slot.{Slot, Nil, is_nil, slot_at}
use Rattle.gb_values.specs.Array.{FitsFlags, IsPartOfFlags, filled, flagged_slots, part_flags, valid_pushed}

pub flagged_none : (slots : List Slot) → flagged_slots slots [] ≡ slots
flagged_none [] = refl
flagged_none (slot ∷ slots) = ap (λ rest. slot ∷ rest) (flagged_none slots)

pub flagged_length : (slots : List Slot) (flags : List Bool) → length (flagged_slots slots flags) ≡ length slots
flagged_length [] flags = refl
flagged_length (slot ∷ slots) [] = ap suc (flagged_length slots [])
flagged_length (slot ∷ slots) (flag ∷ flags) = ap suc (flagged_length slots flags)

flagged_push : (slots : List Slot) (flags : List Bool) (slot : Slot) (flag : Bool) → length flags ≡ length slots →
    flagged_slots (slots ++ slot ∷ []) (flags ++ flag ∷ []) ≡ flagged_slots slots flags ++ cond flag slot Nil ∷ []
flagged_push [] [] slot flag h = refl
flagged_push [] (f ∷ flags) slot flag h = absurd (omega (arith, h))
flagged_push (s ∷ slots) [] slot flag h = absurd (omega (arith, h))
flagged_push (s ∷ slots) (f ∷ flags) slot flag h = ap (λ rest. cond f s Nil ∷ rest) (flagged_push slots flags slot flag (omega arith))

-- flags that are all true hide nothing
flagged_true : (slots : List Slot) (n : ℕ) → flagged_slots slots (replicate n true) ≡ slots
flagged_true [] n = refl
flagged_true (s ∷ slots) zero = flagged_none (s ∷ slots)
flagged_true (s ∷ slots) (suc n) = ap (λ rest. s ∷ rest) (flagged_true slots n)

pub flagged_at : (slots : List Slot) (flags : List Bool) (i : ℕ) → slot_at (flagged_slots slots flags) i ≡ cond (get_or flags i true) (slot_at slots i) Nil
flagged_at [] [] i = refl
flagged_at [] (f ∷ flags) i = elim (get_or (f ∷ flags) i true) as (λ b. Nil ≡ cond b Nil Nil) [ true ↦ refl | false ↦ refl ]
flagged_at (s ∷ slots) [] i = ap (λ ss. slot_at ss i) (flagged_none (s ∷ slots))
flagged_at (s ∷ slots) (f ∷ flags) zero = refl
flagged_at (s ∷ slots) (f ∷ flags) (suc i) = flagged_at slots flags i

-- what holds of a null and of each slot holds of each slot under its flag
pub flagged_all : (P : Slot → Type 0) (slots : List Slot) (flags : List Bool) → P Nil → AllByRecursion P slots → AllByRecursion P (flagged_slots slots flags)
flagged_all P [] flags none all = tt
flagged_all P (s ∷ slots) [] none all = (all.0, flagged_all P slots [] none all.1)
flagged_all P (s ∷ slots) (true ∷ flags) none all = (all.0, flagged_all P slots flags none all.1)
flagged_all P (s ∷ slots) (false ∷ flags) none all = (none, flagged_all P slots flags none all.1)

-- ---- one slot more

pub flagged_valid : (slots : List Slot) (flags : List Bool) (slot : Slot) → FitsFlags (length flags) (length slots) →
    flagged_slots (slots ++ slot ∷ []) (valid_pushed flags) ≡ flagged_slots slots flags ++ slot ∷ []
flagged_valid slots [] slot fits = flagged_none (slots ++ slot ∷ []) ∙ ap (λ ss. ss ++ slot ∷ []) (sym (flagged_none slots))
flagged_valid slots (f ∷ flags) slot (inl none) = absurd (omega arith)
flagged_valid slots (f ∷ flags) slot (inr each) = flagged_push slots (f ∷ flags) slot true each

pub flagged_null : (slots : List Slot) (flags : List Bool) (slot : Slot) (count : ℕ) → count ≡ length slots → FitsFlags (length flags) (length slots) →
    flagged_slots (slots ++ slot ∷ []) (filled count flags ++ false ∷ []) ≡ flagged_slots slots flags ++ Nil ∷ []
flagged_null slots [] slot count long fits =
    flagged_push slots (replicate count true) slot false (length-replicate count true ∙ long)
    ∙ ap (λ ss. ss ++ Nil ∷ []) (flagged_true slots count ∙ sym (flagged_none slots))
flagged_null slots (f ∷ flags) slot count long (inl none) = absurd (omega arith)
flagged_null slots (f ∷ flags) slot count long (inr each) = flagged_push slots (f ∷ flags) slot false each

pub fits_valid : (flags : List Bool) (count : ℕ) → FitsFlags (length flags) count → FitsFlags (length (valid_pushed flags)) (count + 1)
fits_valid [] count fits = inl refl
fits_valid (f ∷ flags) count (inl none) = absurd (omega arith)
fits_valid (f ∷ flags) count (inr each) = inr (omega (arith, length-append flags (true ∷ [])))

pub fits_null : (flags : List Bool) (count : ℕ) → FitsFlags (length flags) count → FitsFlags (length (filled count flags ++ false ∷ [])) (count + 1)
fits_null [] count fits = inr (omega (arith, length-append (replicate count true) (false ∷ []), length-replicate count true))
fits_null (f ∷ flags) count (inl none) = absurd (omega arith)
fits_null (f ∷ flags) count (inr each) = inr (omega (arith, length-append (f ∷ flags) (false ∷ [])))

-- ---- whether a slot is null

-- a slot that is no null, under its flag
pub flag_tells : (flag : Bool) (slot : Slot) → is_nil slot ≡ false → flag ≡ not (is_nil (cond flag slot Nil))
flag_tells true slot e = rw e
flag_tells false slot e = refl

-- ---- how many are null

count_yes : {X : Type 0} (p : X → Bool) (x : X) (xs : List X) → p x ≡ true → count_by p (x ∷ xs) ≡ 1 + count_by p xs
count_yes p x xs e =
    let split : count_by p (x ∷ xs) ≡ (0 + cond (p x) 1 0) + count_by p xs = sum_by-append (λ y. cond (p y) 1 0) (x ∷ []) xs in
    let one : ◌≡◌ {A = ℕ} (cond (p x) 1 0) 1 = ap (λ b. cond b 1 0) e in
    omega (arith, split, one)

count_no : {X : Type 0} (p : X → Bool) (x : X) (xs : List X) → p x ≡ false → count_by p (x ∷ xs) ≡ count_by p xs
count_no p x xs e =
    let split : count_by p (x ∷ xs) ≡ (0 + cond (p x) 1 0) + count_by p xs = sum_by-append (λ y. cond (p y) 1 0) (x ∷ []) xs in
    let none : ◌≡◌ {A = ℕ} (cond (p x) 1 0) 0 = ap (λ b. cond b 1 0) e in
    omega (arith, split, none)

pub flagged_nulls : (slots : List Slot) (flags : List Bool) → AllByRecursion (λ slot. is_nil slot ≡ false) slots → length flags ≤ length slots →
    count_by not flags ≡ count_by is_nil (flagged_slots slots flags)
flagged_nulls [] [] none le = refl
flagged_nulls [] (f ∷ flags) none le = absurd (omega arith)
flagged_nulls (s ∷ slots) [] none le = flagged_nulls slots [] none.1 (omega arith) ∙ sym (count_no is_nil s (flagged_slots slots []) none.0)
flagged_nulls (s ∷ slots) (true ∷ flags) none le =
    count_no not true flags refl ∙ flagged_nulls slots flags none.1 (omega arith) ∙ sym (count_no is_nil s (flagged_slots slots flags) none.0)
flagged_nulls (s ∷ slots) (false ∷ flags) none le =
    count_yes not false flags refl ∙ ap (λ n. 1 + n) (flagged_nulls slots flags none.1 (omega arith)) ∙ sym (count_yes is_nil Nil (flagged_slots slots flags) refl)

pub flags_few : (flags count : ℕ) → FitsFlags flags count → flags ≤ count
flags_few flags count (inl none) = omega (arith, none)
flags_few flags count (inr each) = omega (arith, each)

-- ---- flags for all

pub flagged_filled : (slots : List Slot) (flags : List Bool) (count : ℕ) → flagged_slots slots (filled count flags) ≡ flagged_slots slots flags
flagged_filled slots [] count = flagged_true slots count ∙ sym (flagged_none slots)
flagged_filled slots (f ∷ flags) count = refl

-- ---- values, none of them null

pub no_nil_at : (slots : List Slot) (i : ℕ) → AllByRecursion (λ slot. is_nil slot ≡ false) slots → i < length slots → is_nil (slot_at slots i) ≡ false
no_nil_at [] i none lt = absurd (omega arith)
no_nil_at (s ∷ slots) zero none lt = none.0
no_nil_at (s ∷ slots) (suc i) none lt = no_nil_at slots i none.1 (omega arith)

pub flagged_valid_at : (slots : List Slot) (flags : List Bool) (i : ℕ) → AllByRecursion (λ slot. is_nil slot ≡ false) slots → i < length slots →
    get_or flags i true ≡ not (is_nil (slot_at (flagged_slots slots flags) i))
flagged_valid_at slots flags i none lt =
    flag_tells (get_or flags i true) (slot_at slots i) (no_nil_at slots i none lt) ∙ ap (λ s. not (is_nil s)) (sym (flagged_at slots flags i))

-- a slot whose flag is true, and one whose flag is false
pub valid_at : (slots : List Slot) (flags : List Bool) (i : ℕ) → get_or flags i true ≡ true → slot_at slots i ≡ slot_at (flagged_slots slots flags) i
valid_at slots flags i valid = ap (λ b. cond b (slot_at slots i) Nil) (sym valid) ∙ sym (flagged_at slots flags i)

pub null_at : (slots : List Slot) (flags : List Bool) (i : ℕ) → get_or flags i true ≡ false → Nil ≡ slot_at (flagged_slots slots flags) i
null_at slots flags i null = ap (λ b. cond b (slot_at slots i) Nil) (sym null) ∙ sym (flagged_at slots flags i)

no_null : (b : Bool) → not b ≡ true → b ≡ false
no_null true e = cc
no_null false e = refl

pub valid_no_nil : (slots : List Slot) (flags : List Bool) (i : ℕ) → AllByRecursion (λ slot. is_nil slot ≡ false) slots → i < length slots → get_or flags i true ≡ true →
    is_nil (slot_at (flagged_slots slots flags) i) ≡ false
valid_no_nil slots flags i none lt valid = no_null (is_nil (slot_at (flagged_slots slots flags) i)) (sym (flagged_valid_at slots flags i none lt) ∙ valid)

shown : (flag : Bool) (slot : Slot) → is_nil (cond flag slot Nil) ≡ false → slot ≡ cond flag slot Nil
shown true slot e = refl
shown false slot e = cc

-- a slot that is no null has no flag that hides it
pub shown_at : (slots : List Slot) (flags : List Bool) (i : ℕ) → is_nil (slot_at (flagged_slots slots flags) i) ≡ false → slot_at slots i ≡ slot_at (flagged_slots slots flags) i
shown_at slots flags i e =
    shown (get_or flags i true) (slot_at slots i) (ap is_nil (sym (flagged_at slots flags i)) ∙ e) ∙ sym (flagged_at slots flags i)

-- ---- one value more, with its flag

module _ (slots : List Slot) (flags : List Bool) (new view : List Slot) (more : List Bool) (fits : FitsFlags (length flags) (length slots)) (kept : more ≡ valid_pushed flags) (is : flagged_slots slots flags ≡ view) where
  pub valid_more : (slot : Slot) → new ≡ slots ++ slot ∷ [] → flagged_slots new more ≡ view ++ slot ∷ []
  valid_more slot e = rw (e, kept, ← is) (flagged_valid slots flags slot fits)

  pub taken_more : (v : Option Slot) → Some new ≡ option_map (λ slot. slots ++ slot ∷ []) v → Some (flagged_slots new more) ≡ option_map (λ slot. view ++ slot ∷ []) v
  taken_more None e = cc
  taken_more (Some slot) e = let grown : new ≡ slots ++ slot ∷ [] = cc in ap (λ ss. Some ss) (valid_more slot grown)

-- ---- some of the slots behind others

flagged_append : (slots others : List Slot) (flags more : List Bool) → length flags ≡ length slots →
    flagged_slots (slots ++ others) (flags ++ more) ≡ flagged_slots slots flags ++ flagged_slots others more
flagged_append [] others [] more h = refl
flagged_append [] others (f ∷ flags) more h = absurd (omega (arith, h))
flagged_append (s ∷ slots) others [] more h = absurd (omega (arith, h))
flagged_append (s ∷ slots) others (f ∷ flags) more h = ap (λ rest. cond f s Nil ∷ rest) (flagged_append slots others flags more (omega arith))

flagged_take : (n : ℕ) (slots : List Slot) (flags : List Bool) → flagged_slots (take n slots) (take n flags) ≡ take n (flagged_slots slots flags)
flagged_take zero slots flags = refl
flagged_take (suc n) [] flags = refl
flagged_take (suc n) (s ∷ slots) [] = flagged_none (s ∷ take n slots) ∙ ap (λ ss. s ∷ take n ss) (sym (flagged_none slots))
flagged_take (suc n) (s ∷ slots) (f ∷ flags) = ap (λ rest. cond f s Nil ∷ rest) (flagged_take n slots flags)

flagged_drop : (n : ℕ) (slots : List Slot) (flags : List Bool) → flagged_slots (drop n slots) (drop n flags) ≡ drop n (flagged_slots slots flags)
flagged_drop zero slots flags = refl
flagged_drop (suc n) [] flags = refl
flagged_drop (suc n) (s ∷ slots) [] = flagged_none (drop n slots) ∙ ap (drop n) (sym (flagged_none slots))
flagged_drop (suc n) (s ∷ slots) (f ∷ flags) = flagged_drop n slots flags

flagged_part : (start count : ℕ) (slots : List Slot) (flags : List Bool) → flagged_slots (take count (drop start slots)) (part_flags start count flags) ≡ take count (drop start (flagged_slots slots flags))
flagged_part start count slots [] = flagged_true (take count (drop start slots)) count ∙ ap (λ ss. take count (drop start ss)) (sym (flagged_none slots))
flagged_part start count slots (f ∷ flags) = flagged_take count (drop start slots) (drop start (f ∷ flags)) ∙ ap (take count) (flagged_drop start slots (f ∷ flags))

filled_length : (flags : List Bool) (count : ℕ) → FitsFlags (length flags) count → length (filled count flags) ≡ count
filled_length [] count fits = length-replicate count true
filled_length (f ∷ flags) count (inl none) = absurd (omega (arith, none))
filled_length (f ∷ flags) count (inr each) = each

part_length : (start count : ℕ) (flags : List Bool) (values : ℕ) → FitsFlags (length flags) values → start + count ≤ values → length (part_flags start count flags) ≡ count
part_length start count [] values fits le = length-replicate count true
part_length start count (f ∷ flags) values (inl none) le = absurd (omega (arith, none))
part_length start count (f ∷ flags) values (inr each) le = omega (arith, length-take count (drop start (f ∷ flags)), length-drop start (f ∷ flags), each)

-- the other's flags are enough for a part of its slots
pub part_inside : (start count flags values : ℕ) → FitsFlags flags values → start + count ≤ values → IsPartOfFlags start count flags
part_inside start count flags values (inl none) le = inl none
part_inside start count flags values (inr each) le = inr (omega (arith, each, le))

module _ (slots others : List Slot) (flags more : List Bool) (start count : ℕ) (fits : FitsFlags (length flags) (length slots)) (fit : FitsFlags (length more) (length others)) (le : start + count ≤ length others) where
  pub part_more : flagged_slots (slots ++ take count (drop start others)) (filled (length slots) flags ++ part_flags start count more) ≡ flagged_slots slots flags ++ take count (drop start (flagged_slots others more))
  part_more =
      flagged_append slots (take count (drop start others)) (filled (length slots) flags) (part_flags start count more) (filled_length flags (length slots) fits)
      ∙ ap (λ ss. ss ++ flagged_slots (take count (drop start others)) (part_flags start count more)) (flagged_filled slots flags (length slots))
      ∙ ap (λ ss. flagged_slots slots flags ++ ss) (flagged_part start count others more)

  pub fits_part : FitsFlags (length (filled (length slots) flags ++ part_flags start count more)) (length (slots ++ take count (drop start others)))
  fits_part =
      inr
      (omega (arith, length-append (filled (length slots) flags) (part_flags start count more), filled_length flags (length slots) fits, part_length start count more (length others) fit le, length-append slots (take count (drop start others)), length-take count (drop start others), length-drop start others, le))

-- ---- whether some are counted

some_more : {X : Type 0} (p : X → Bool) (x : X) (xs : List X) (b : Bool) → p x ≡ b → nat_lt 0 (count_by p xs) ≡ list_any p xs → nat_lt 0 (count_by p (x ∷ xs)) ≡ list_any p (x ∷ xs)
some_more p x xs true e rest =
    let positive : nat_lt 0 (1 + count_by p xs) ≡ true = grind (arith, nat_tests) in ap (nat_lt 0) (count_yes p x xs e) ∙ positive ∙ sym (ap (λ b. b || list_any p xs) e)
some_more p x xs false e rest = ap (nat_lt 0) (count_no p x xs e) ∙ rest ∙ sym (ap (λ b. b || list_any p xs) e)

pub some_counted : {X : Type 0} (p : X → Bool) (xs : List X) → nat_lt 0 (count_by p xs) ≡ list_any p xs
some_counted p [] = refl
some_counted p (x ∷ xs) = some_more p x xs (p x) refl (some_counted p xs)
