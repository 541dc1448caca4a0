-- How many numbers differ, one more; and that as many slots do.
use Rattle.std.proofs.Common.{◌≡◌, ◌≢◌, ◌∙◌, ℕ, suc, ◌+◌, ◌<◌, ◌≤◌, ◌||◌, Bool, true, false, not, cond, inl, inr, eqb, List, [], ◌∷◌, ◌++◌, All, length, get_or, set, map, refl, sym, ap, arith}
use Rattle.std.specs.List.{list_any}
use Rattle.std.proofs.lemmas.Bool.{cases_eq, eq-eqb, ne_eqb}
use Rattle.std.proofs.lemmas.List.{append-nil, get_or-map, get_or-set_other, get_or-set_same, length-map, length-set, length-append}
use Rattle.std.proofs.lemmas.List.Folds.{list_any-append}
use Rattle.gb_defs.specs.Classes.{firsts, rows_below, same_slot}
use Rattle.gb_defs.specs.Column.{ColumnValue}
use Rattle.gb_defs.specs.Fold.{NUnique, distinct_count, fold_picked, number_slot, picked}
use Rattle.gb_defs.specs.Groups.{AreMembers}
use Rattle.gb_agg.specs.Folds.{fold_in}
use Rattle.gb_defs.specs.Slot.{Nil, Slot, slot_at}
use Rattle.gb_defs.proofs.ClassesLemmas.{firsts_alike, firsts_push, rows_below_all, rows_below_more}
use Rattle.gb_agg.specs.Distinct.{AreClasses, TellSlots, different, different_fold, numbers_at, same_number}

-- so many of the first numbers differ, and those among them are marked
pub record AreSeen (keys : List ℕ) (group place count : ℕ) (seen : List ℕ) : Type 0 where
  pub counted : count ≡ length (firsts (same_number keys) (rows_below place))
  pub marked : (k : ℕ) → k < length seen → eqb (get_or seen k 0) group ≡ list_any (λ j. eqb k (get_or keys j 0)) (rows_below place)
  pub low : All (λ last. last ≤ group) seen

or_no : (b : Bool) → (b || (false || false)) ≡ b
or_no true = refl
or_no false = refl

or_yes : (b : Bool) → (b || (true || false)) ≡ true
or_yes true = refl
or_yes false = refl

module _ (keys : List ℕ) (group : ℕ) where
  pub seen_none : (seen : List ℕ) → All (λ last. last < group) seen → AreSeen keys group 0 0 seen
  unfolding firsts
  seen_none seen fresh = record {
    counted = refl;
    marked = λ k lt. let before = fresh k 0 lt in ne_eqb (get_or seen k 0) group (λ e. absurd (omega (arith, before, e)));
    low = λ k d lt. let before = fresh k d lt in omega (arith, before);
  }

  module _ (place count key : ℕ) (seen : List ℕ) (is : get_or keys place 0 ≡ key) (have : AreSeen keys group place count seen) where
    any_more : (k : ℕ) → list_any (λ j. eqb k (get_or keys j 0)) (rows_below (place + 1)) ≡ (list_any (λ j. eqb k (get_or keys j 0)) (rows_below place) || (eqb k key || false))
    any_more k = rw (rows_below_more place, list_any-append (λ j. eqb k (get_or keys j 0)) (rows_below place) (place ∷ []), is)

    firsts_more : (b : Bool) → list_any (λ j. eqb key (get_or keys j 0)) (rows_below place) ≡ b
        → firsts (same_number keys) (rows_below (place + 1)) ≡ firsts (same_number keys) (rows_below place) ++ cond (not b) (place ∷ []) []
    firsts_more b e =
        ap (firsts (same_number keys)) (rows_below_more place)
        ∙ firsts_push (same_number keys) (rows_below place) place (rows_below_all place)
        ∙ ap (λ x. firsts (same_number keys) (rows_below place) ++ cond (not x) (place ∷ []) []) (ap (λ k. list_any (λ j. eqb k (get_or keys j 0)) (rows_below place)) is ∙ e)

    -- a number that came before
    pub seen_old : key < length seen → get_or seen key 0 ≡ group → AreSeen keys group (place + 1) count seen
    seen_old inside here =
        let known = sym (have.marked key inside) ∙ eq-eqb (get_or seen key 0) group here in
        record {
          counted = have.counted ∙ ap length (sym (firsts_more true known ∙ append-nil _));
          marked = λ k lt. elim (cases_eq k key) [
            | inl same ↦ rw (any_more k, same, known) (eq-eqb (get_or seen key 0) group here)
            | inr away ↦ rw (any_more k, ne_eqb k key away, or_no) (have.marked k lt)
          ];
          low = have.low;
        }

    -- a number that did not
    pub seen_new : key < length seen → get_or seen key 0 ≢ group → AreSeen keys group (place + 1) (count + 1) (set seen key group)
    seen_new inside other =
        let fresh = sym (have.marked key inside) ∙ ne_eqb (get_or seen key 0) group other in
        let firsts_before = firsts (same_number keys) (rows_below place) in
        record {
          counted = omega (arith, have.counted, ap length (firsts_more false fresh), length-append firsts_before (place ∷ []));
          marked = λ k lt. elim (cases_eq k key) [
            | inl same ↦ rw (any_more k, same, get_or-set_same seen key group 0 inside, eq-eqb key key refl, or_yes) (eq-eqb group group refl)
            | inr away ↦ rw (any_more k, ne_eqb k key away, or_no, get_or-set_other seen key k group 0 away) (have.marked k (omega (arith, lt, length-set seen key group)))
          ];
          low = λ k d lt. elim (cases_eq k key) [
            | inl same ↦ rw (same, get_or-set_same seen key group d inside) (omega arith)
            | inr away ↦ rw (get_or-set_other seen key k group d away) (have.low k d (omega (arith, lt, length-set seen key group)))
          ];
        }

-- ---- slots

module _ (numbers : List ℕ) (slots : List Slot) (tell : TellSlots numbers slots) (rows : List ℕ) (inside : All (λ row. row < length slots) rows) where
  slot_picked : (i : ℕ) → i < length rows → slot_at (picked slots rows) i ≡ slot_at slots (get_or rows i 0)
  slot_picked i lt = get_or-map (slot_at slots) rows i 0 Nil lt

  number_picked : (i : ℕ) → i < length rows → get_or (numbers_at numbers rows) i 0 ≡ get_or numbers (get_or rows i 0) 0
  number_picked i lt = get_or-map (λ row. get_or numbers row 0) rows i 0 0 lt

  alike : (i j : ℕ) → i < length rows → j < length rows → same_slot (picked slots rows) i j ≡ same_number (numbers_at numbers rows) i j
  alike i j here there =
      rw (slot_picked i here, slot_picked j there, number_picked i here, number_picked j there)
      (tell (get_or rows i 0) (get_or rows j 0) (inside i 0 here) (inside j 0 there))

  -- as many slots differ as numbers
  pub distinct_same : distinct_count (picked slots rows) ≡ different (numbers_at numbers rows)
  distinct_same =
      ap (λ n. length (firsts (same_slot (picked slots rows)) (rows_below n))) (length-map rows (slot_at slots))
      ∙ ap length (firsts_alike (same_slot (picked slots rows)) (same_number (numbers_at numbers rows)) (length rows) alike)
      ∙ ap (λ n. length (firsts (same_number (numbers_at numbers rows)) (rows_below n))) (sym (length-map rows (λ row. get_or numbers row 0)))

-- the counts of numbers are those of slots
pub counted_lists : (c : ColumnValue) (count : ℕ) (numbers : List ℕ) → AreClasses c.slots count numbers → (lists : List (List ℕ)) → All (AreMembers (length c.slots)) lists
    → map (different_fold numbers) lists ≡ map (fold_in NUnique c) lists
unfolding fold_picked
counted_lists c count numbers are [] members = refl
counted_lists c count numbers are (rows ∷ lists) members =
    let here = ap number_slot (sym (distinct_same numbers c.slots are.tell rows (members 0 [] (omega arith)).below)) in
    let rest = counted_lists c count numbers are lists (λ k d lt. members (suc k) d (omega (arith, lt))) in
    ap (λ s. s ∷ map (different_fold numbers) lists) here ∙ ap (λ ss. fold_in NUnique c rows ∷ ss) rest
