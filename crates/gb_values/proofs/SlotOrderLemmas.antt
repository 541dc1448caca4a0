-- A walk that looks at each slot and the next finds the orders that all slots are in.
use Rattle.std.proofs.Common.{◌≡◌, ℕ, zero, suc, ◌<◌, ◌≤◌, ℤ, int_lt, Bool, true, false, not, ◌&&◌, ◌||◌, cond, if◌then◌else◌, List, [], ◌∷◌, ◌++◌, length, Option, None, Some, IsTrue, ◌↔◌, refl, sym, ◌∙◌, ap, arith, subst, ⊎_elim, ◌-◌, ◌⊎◌, inl, inr}
use Rattle.std.specs.Cmp.{IsTotalOrder}
use Rattle.std.specs.Cmp.Lexicographic.{slice_cmp}
use Rattle.std.specs.List.{All, AllByRecursion}
use Rattle.std.specs.declared.cmp.Ordering.{Ordering}
use Rattle.std.specs.declared.cmp.Ordering.TheVariants.{Less, Equal, Greater}
use Rattle.std.specs.Ordering.{int_cmp, is_gt, is_lt, nat_cmp, ordering_reverse}
use Rattle.std.proofs.lemmas.Bool.{and_from, and_left, and_parts, both_ways, cases_Bool, false_from_ne_true, not-true, not_from_false, or_cases, or_parts, or_right}
use Rattle.std.proofs.lemmas.Bool.Decides.{nat_tests}
use Rattle.std.proofs.lemmas.Cmp.{int_cmp_total, nat_list_cmp_total, same_from_slice_cmp, tied_itself, upto}
use Rattle.std.proofs.lemmas.List.Elements.{recursion_from_All}
use Rattle.gb_defs.specs.Column.{Ascending, ColumnValue, Descending, HasNullsAtOneEnd, IsFlagTrue, IsAscending, IsDescending, may_be_sorted}
use Rattle.gb_defs.specs.ColumnType.{ColumnType, FlatType, Flat, ListOf, ArrayOf, StructOf, Fits, FitsBytes, FitsNumber, FitsParts, Null, Boolean, Unsigned, Signed, Decimal, Date, Time, Datetime, Duration, String, Binary, BinaryOffset, Categorical, Enum}
use Rattle.gb_defs.specs.Order.{ByCode, below, bytes_below, numbers_below}
use Rattle.gb_defs.specs.Slot.{Slot, Slots, Nil, Num, Bytes, Items, End, And, is_nil, slot_at}
use Rattle.gb_values.specs.SlotOrder.{ComparesAs, IsOrderOf, falls, fresh_walk, is_open, keeps, later_slot, moved, rises, stepped, turns, walked}
use Rattle.gb_values.specs.declared.slot_order.OrderWalk.{OrderWalk}
use Rattle.gb_values.specs.declared.slot_order.SlotOrder.{SlotOrder}

-- ---- orders

reversed : (order : Ordering) → is_gt (ordering_reverse order) ≡ is_lt order
reversed Less = refl
reversed Equal = refl
reversed Greater = refl

module _ {K : Type 0} {R : K → K → Ordering} (total : IsTotalOrder R) where
  gt_back : (a b : K) → is_gt (R a b) ≡ is_lt (R b a)
  gt_back a b = ap is_gt (total.antisymm a b) ∙ reversed (R b a)

  lt_through : (a b c : K) → is_lt (R b a) ≡ false → is_lt (R c b) ≡ false → is_lt (R c a) ≡ false
  lt_through a b c first second = sym (gt_back a c) ∙ upto total a b c (gt_back a b ∙ first) (gt_back b c ∙ second)

  lt_itself : (a : K) → is_lt (R a a) ≡ false
  lt_itself a = ap is_lt (tied_itself total a)

tested_lt : (p q : Bool) → is_lt (cond p Less (cond q Greater Equal)) ≡ p
tested_lt true q = refl
tested_lt false true = refl
tested_lt false false = refl

pub int_cmp_lt : (a b : ℤ) → is_lt (int_cmp a b) ≡ int_lt a b
int_cmp_lt a b = tested_lt (int_lt a b) (int_lt b a)

pub int_cmp_gt : (a b : ℤ) → is_gt (int_cmp a b) ≡ int_lt b a
int_cmp_gt a b = gt_back int_cmp_total a b ∙ int_cmp_lt b a

pub bytes_cmp_lt : (a b : List ℕ) → is_lt (slice_cmp nat_cmp a b) ≡ bytes_below a b
bytes_cmp_lt a b = same_from_slice_cmp nat_cmp is_lt bytes_below refl (λ _ _. refl) (λ _ _. refl) (λ x y xs ys o h. grind (arith, nat_tests)) a b (slice_cmp nat_cmp a b) refl

pub bytes_cmp_gt : (a b : List ℕ) → is_gt (slice_cmp nat_cmp a b) ≡ bytes_below b a
bytes_cmp_gt a b = gt_back nat_list_cmp_total a b ∙ bytes_cmp_lt b a

pub bytes_compare : (t : ColumnType) (a b : List ℕ) (order : Ordering) → order ≡ slice_cmp nat_cmp a b → ComparesAs t (Bytes a) (Bytes b) order
bytes_compare t a b order is = record { less = ap is_lt is ∙ bytes_cmp_lt a b; greater = ap is_gt is ∙ bytes_cmp_gt a b }

-- ---- slots of a type

-- a flat type has no slots with parts
pub no_parts : (t : FlatType) (k : ℕ) (parts : Slots) → FitsParts (Flat t) k parts → ⊥
no_parts t k End fits = fits
no_parts t k (And s ss) fits = no_parts t (suc k) ss fits.1

-- codes are compared as numbers, whatever the type
pub number_below : (t : ColumnType) (a b : ℤ) → numbers_below ByCode t a b ≡ int_lt a b
number_below (Flat Null) a b = refl
number_below (Flat Boolean) a b = refl
number_below (Flat (Unsigned w)) a b = refl
number_below (Flat (Signed w)) a b = refl
number_below (Flat (Decimal precision scale)) a b = refl
number_below (Flat Date) a b = refl
number_below (Flat Time) a b = refl
number_below (Flat (Datetime unit)) a b = refl
number_below (Flat (Duration unit)) a b = refl
number_below (Flat String) a b = refl
number_below (Flat Binary) a b = refl
number_below (Flat BinaryOffset) a b = refl
number_below (Flat (Categorical texts ordering)) a b = refl
number_below (Flat (Enum texts ordering)) a b = refl
number_below (ListOf t) a b = refl
number_below (ArrayOf t width) a b = refl
number_below (StructOf fs) a b = refl

-- no flat type has both numbers and bytes
apart : (t : FlatType) (n : ℤ) (bytes : List ℕ) → FitsNumber t n → FitsBytes t bytes → ⊥
apart Null n bytes number fits = number
apart Boolean n bytes number fits = fits
apart (Unsigned w) n bytes number fits = fits
apart (Signed w) n bytes number fits = fits
apart (Decimal precision scale) n bytes number fits = fits
apart Date n bytes number fits = fits
apart Time n bytes number fits = fits
apart (Datetime unit) n bytes number fits = fits
apart (Duration unit) n bytes number fits = fits
apart String n bytes number fits = number
apart Binary n bytes number fits = number
apart BinaryOffset n bytes number fits = number
apart (Categorical texts ordering) n bytes number fits = fits
apart (Enum texts ordering) n bytes number fits = fits

numbers_through : (t : ColumnType) (a b c : ℤ) → numbers_below ByCode t b a ≡ false → numbers_below ByCode t c b ≡ false → numbers_below ByCode t c a ≡ false
numbers_through t a b c first second =
    let ab = int_cmp_lt b a ∙ sym (number_below t b a) ∙ first in
    let bc = int_cmp_lt c b ∙ sym (number_below t c b) ∙ second in
    number_below t c a ∙ sym (int_cmp_lt c a) ∙ lt_through int_cmp_total a b c ab bc

bytes_through : (a b c : List ℕ) → bytes_below b a ≡ false → bytes_below c b ≡ false → bytes_below c a ≡ false
bytes_through a b c first second =
    sym (bytes_cmp_lt c a) ∙ lt_through nat_list_cmp_total a b c (bytes_cmp_lt b a ∙ first) (bytes_cmp_lt c b ∙ second)

module _ (t : FlatType) where
  itself : (a : Slot) → Fits (Flat t) a → below ByCode (Flat t) a a ≡ false
  itself Nil fits = refl
  itself (Num a) fits = number_below (Flat t) a a ∙ sym (int_cmp_lt a a) ∙ lt_itself int_cmp_total a
  itself (Bytes a) fits = sym (bytes_cmp_lt a a) ∙ lt_itself nat_list_cmp_total a
  itself (Items a) fits = absurd (no_parts t 0 a fits)

  through : (a b c : Slot) → Fits (Flat t) a → Fits (Flat t) b → Fits (Flat t) c → is_nil b ≡ false → is_nil c ≡ false →
      below ByCode (Flat t) b a ≡ false → below ByCode (Flat t) c b ≡ false → below ByCode (Flat t) c a ≡ false
  through (Num a) (Num b) (Num c) fa fb fc vb vc first second = numbers_through (Flat t) a b c first second
  through (Num a) (Bytes b) c fa fb fc vb vc first second = absurd (apart t a b fa fb)
  through (Num a) (Num b) (Bytes c) fa fb fc vb vc first second = refl
  through (Bytes a) (Bytes b) (Bytes c) fa fb fc vb vc first second = bytes_through a b c first second
  through (Bytes a) (Num b) c fa fb fc vb vc first second = absurd (apart t b a fb fa)
  through (Bytes a) (Bytes b) (Num c) fa fb fc vb vc first second = refl
  through a Nil c fa fb fc vb vc first second = cc
  through a b Nil fa fb fc vb vc first second = cc
  through (Items a) b c fa fb fc vb vc first second = absurd (no_parts t 0 a fa)
  through a (Items b) c fa fb fc vb vc first second = absurd (no_parts t 0 b fb)
  through a b (Items c) fa fb fc vb vc first second = absurd (no_parts t 0 c fc)
  through Nil (Num b) (Num c) fa fb fc vb vc first second = refl
  through Nil (Num b) (Bytes c) fa fb fc vb vc first second = refl
  through Nil (Bytes b) (Num c) fa fb fc vb vc first second = refl
  through Nil (Bytes b) (Bytes c) fa fb fc vb vc first second = refl

-- ---- a slot and the next

abbrev either : Bool → Bool → Bool
either p q = if p then not q else q

one_null : (p q : Bool) → either p q ≡ false → q ≡ p
one_null true true h = refl
one_null true false h = cc
one_null false true h = cc
one_null false false h = refl

two_nulls : (p q : Bool) → either p q ≡ true → q ≡ p → ⊥
two_nulls true true h e = cc
two_nulls true false h e = cc
two_nulls false true h e = cc
two_nulls false false h e = cc

either_null : (p q r : Bool) → either p q ≡ true → (r ≡ q) ⊎ (p ≡ r)
either_null true true true h = inl refl
either_null true true false h = cc
either_null true false true h = inr refl
either_null true false false h = inl refl
either_null false true true h = inl refl
either_null false true false h = inr refl
either_null false false true h = cc
either_null false false false h = inl refl

same_null : (a b : Slot) → turns a b ≡ false → is_nil b ≡ is_nil a
same_null a b e = one_null (is_nil a) (is_nil b) e

other_null : (a b : Slot) → turns a b ≡ true → is_nil b ≡ is_nil a → ⊥
other_null a b e same = two_nulls (is_nil a) (is_nil b) e same

valid_stay : (a b : Slot) → is_nil a ≡ false → is_nil b ≡ false → turns a b ≡ false
valid_stay a b va vb = rw (va, vb) refl

keeps_turn : (wrong : Slot → Slot → Bool) (turned : Bool) (a b : Slot) → turns a b ≡ true → keeps wrong turned a b ≡ not turned
keeps_turn wrong turned a b e = rw e refl

keeps_stay : (wrong : Slot → Slot → Bool) (turned : Bool) (a b : Slot) → turns a b ≡ false → keeps wrong turned a b ≡ not (wrong a b)
keeps_stay wrong turned a b e = rw e refl

-- ---- slots that are in order, from each to the next

module _ (wrong : Slot → Slot → Bool) where
  abbrev in_order : Bool → Slot → List Slot → Bool
  in_order turned a [] = true
  in_order turned a (b ∷ slots) = keeps wrong turned a b && in_order (turned || turns a b) b slots

  abbrev Ordered : List Slot → Type 0
  Ordered slots =
      (i j : ℕ) → i ≤ j → j < length slots → is_nil (slot_at slots i) ≡ false → is_nil (slot_at slots j) ≡ false → wrong (slot_at slots i) (slot_at slots j) ≡ false

  no_turn : (a b : Slot) → keeps wrong true a b ≡ true → turns a b ≡ false
  no_turn a b h = false_from_ne_true (turns a b) (λ e. both_ways false refl (sym (keeps_turn wrong true a b e) ∙ h))

  -- behind the one change all slots are alike
  alike : (a : Slot) (slots : List Slot) → in_order true a slots ≡ true → (j : ℕ) → j < length slots → is_nil (slot_at slots j) ≡ is_nil a
  alike a [] h j lt = absurd (omega (arith, lt))
  alike a (b ∷ slots) h zero lt = same_null a b (no_turn a b (and_parts _ _ h).0)
  alike a (b ∷ slots) h (suc j) lt =
      let parts = and_parts (keeps wrong true a b) (in_order true b slots) h in alike b slots parts.1 j (omega (arith, lt)) ∙ same_null a b (no_turn a b parts.0)

  alike_first : (b : Slot) (slots : List Slot) → in_order true b slots ≡ true → (k : ℕ) → k < length (b ∷ slots) → is_nil (slot_at (b ∷ slots) k) ≡ is_nil b
  alike_first b slots h zero lt = refl
  alike_first b slots h (suc k) lt = alike b slots h k (omega (arith, lt))

  -- the rest behind a change
  turned_rest : (turned : Bool) (a b : Slot) (slots : List Slot) → in_order turned a (b ∷ slots) ≡ true → turns a b ≡ true → in_order true b slots ≡ true
  turned_rest turned a b slots h e =
      let parts = and_parts (keeps wrong turned a b) (in_order (turned || turns a b) b slots) h in
      subst (λ (u : Bool). in_order u b slots ≡ true) (or_right turned (turns a b) e) parts.1

  rest : (turned : Bool) (a b : Slot) (slots : List Slot) → in_order turned a (b ∷ slots) ≡ true → in_order (turned || turns a b) b slots ≡ true
  rest turned a b slots h = (and_parts (keeps wrong turned a b) (in_order (turned || turns a b) b slots) h).1

  stays_right : (turned : Bool) (a b : Slot) (slots : List Slot) → in_order turned a (b ∷ slots) ≡ true → turns a b ≡ false → wrong a b ≡ false
  stays_right turned a b slots h e =
      not-true (wrong a b) (sym (keeps_stay wrong turned a b e) ∙ (and_parts (keeps wrong turned a b) (in_order (turned || turns a b) b slots) h).0)

  together : (turned : Bool) (a : Slot) (slots : List Slot) → in_order turned a slots ≡ true → (i j k : ℕ) → i ≤ j → j ≤ k → k < length (a ∷ slots) →
      is_nil (slot_at (a ∷ slots) i) ≡ is_nil (slot_at (a ∷ slots) k) → is_nil (slot_at (a ∷ slots) j) ≡ is_nil (slot_at (a ∷ slots) i)
  together turned a slots h zero zero k ij jk lt same = refl
  together turned a slots h zero (suc j) zero ij jk lt same = absurd (omega (arith, jk))
  together turned a [] h zero (suc j) (suc k) ij jk lt same = absurd (omega (arith, lt))
  together turned a (b ∷ slots) h zero (suc j) (suc k) ij jk lt same =
      ⊎_elim (λ turn. absurd (other_null a b turn (sym (same ∙ alike_first b slots (turned_rest turned a b slots h turn) k (omega (arith, lt))))))
      (λ stay.
      let one = same_null a b stay in
      together (turned || turns a b) b slots (rest turned a b slots h) zero j k (omega arith) (omega (arith, jk)) (omega (arith, lt)) (one ∙ same) ∙ one)
      (cases_Bool (turns a b))
  together turned a slots h (suc i) zero k ij jk lt same = absurd (omega (arith, ij))
  together turned a slots h (suc i) (suc j) zero ij jk lt same = absurd (omega (arith, jk))
  together turned a [] h (suc i) (suc j) (suc k) ij jk lt same = absurd (omega (arith, lt))
  together turned a (b ∷ slots) h (suc i) (suc j) (suc k) ij jk lt same =
      together (turned || turns a b) b slots (rest turned a b slots h) i j k (omega (arith, ij)) (omega (arith, jk)) (omega (arith, lt)) same

  module _ (Good : Slot → Type 0) (itself : (a : Slot) → Good a → wrong a a ≡ false)
      (through : (a b c : Slot) → Good a → Good b → Good c → is_nil a ≡ false → is_nil b ≡ false → is_nil c ≡ false → wrong a b ≡ false → wrong b c ≡ false → wrong a c ≡ false) where
    good_at : (slots : List Slot) → AllByRecursion Good slots → (j : ℕ) → j < length slots → Good (slot_at slots j)
    good_at [] goods j lt = absurd (omega (arith, lt))
    good_at (a ∷ slots) goods zero lt = goods.0
    good_at (a ∷ slots) goods (suc j) lt = good_at slots goods.1 j (omega (arith, lt))

    -- a valid slot and a later one
    right : (turned : Bool) (a : Slot) (slots : List Slot) → Good a → AllByRecursion Good slots → in_order turned a slots ≡ true → is_nil a ≡ false → (j : ℕ) → j < length slots →
        is_nil (slot_at slots j) ≡ false → wrong a (slot_at slots j) ≡ false
    right turned a [] ga goods h va j lt vj = absurd (omega (arith, lt))
    right turned a (b ∷ slots) ga goods h va zero lt vj = stays_right turned a b slots h (valid_stay a b va vj)
    right turned a (b ∷ slots) ga goods h va (suc j) lt vj =
        ⊎_elim
        (λ turn.
        let all = alike b slots (turned_rest turned a b slots h turn) j (omega (arith, lt)) in absurd (other_null a b turn (sym all ∙ vj ∙ sym va)))
        (λ stay.
        let vb = same_null a b stay ∙ va in
        let later = right (turned || turns a b) b slots goods.0 goods.1 (rest turned a b slots h) vb j (omega (arith, lt)) vj in
        through a b (slot_at slots j) ga goods.0 (good_at slots goods.1 j (omega (arith, lt))) va vb vj (stays_right turned a b slots h stay) later)
        (cases_Bool (turns a b))

    ordered : (turned : Bool) (a : Slot) (slots : List Slot) → Good a → AllByRecursion Good slots → in_order turned a slots ≡ true → Ordered (a ∷ slots)
    ordered turned a slots ga goods h zero zero le lt vi vj = itself a ga
    ordered turned a slots ga goods h zero (suc j) le lt vi vj = right turned a slots ga goods h vi j (omega (arith, lt)) vj
    ordered turned a slots ga goods h (suc i) zero le lt vi vj = absurd (omega (arith, le))
    ordered turned a [] ga goods h (suc i) (suc j) le lt vi vj = absurd (omega (arith, lt))
    ordered turned a (b ∷ slots) ga goods h (suc i) (suc j) le lt vi vj =
        ordered (turned || turns a b) b slots goods.0 goods.1 (rest turned a b slots h) i j (omega (arith, le)) (omega (arith, lt)) vi vj

    -- a slot and the next are right where all slots are
    next_right : (a b : Slot) (slots : List Slot) → Good Nil → Ordered (a ∷ b ∷ slots) → turns a b ≡ false → wrong a b ≡ false
    next_right Nil Nil slots none all stay = itself Nil none
    next_right Nil (Num b) slots none all stay = cc
    next_right Nil (Bytes b) slots none all stay = cc
    next_right Nil (Items b) slots none all stay = cc
    next_right (Num a) b slots none all stay = all 0 1 (omega arith) (omega arith) refl (same_null (Num a) b stay)
    next_right (Bytes a) b slots none all stay = all 0 1 (omega arith) (omega arith) refl (same_null (Bytes a) b stay)
    next_right (Items a) b slots none all stay = all 0 1 (omega arith) (omega arith) refl (same_null (Items a) b stay)

    tail_ordered : (a : Slot) (slots : List Slot) → Ordered (a ∷ slots) → Ordered slots
    tail_ordered a slots all = λ i j le lt vi vj. all (suc i) (suc j) (omega (arith, le)) (omega (arith, lt)) vi vj

    tail_together : (a : Slot) (slots : List Slot) → HasNullsAtOneEnd (a ∷ slots) → HasNullsAtOneEnd slots
    tail_together a slots nulls = record {
      together = λ i j k ij jk lt same. nulls.together (suc i) (suc j) (suc k) (omega (arith, ij)) (omega (arith, jk)) (omega (arith, lt)) same;
    }

    complete : (turned : Bool) (a : Slot) (slots : List Slot) → Good Nil → (turned ≡ true → (j : ℕ) → j < length slots → is_nil (slot_at slots j) ≡ is_nil a) → Ordered (a ∷ slots) →
        HasNullsAtOneEnd (a ∷ slots) → in_order turned a slots ≡ true
    complete turned a [] none same all nulls = refl
    complete turned a (b ∷ slots) none same all nulls =
        let after = tail_ordered a (b ∷ slots) all in
        let behind = tail_together a (b ∷ slots) nulls in
        ⊎_elim
        (λ turn.
        let fresh = false_from_ne_true turned (λ e. other_null a b turn (same e 0 (omega arith))) in
        let one = λ (j : ℕ) (lt : j < length slots).
        ⊎_elim (λ here. here)
        (λ back. absurd (other_null a b turn (nulls.together 0 1 (suc (suc j)) (omega arith) (omega arith) (omega (arith, lt)) back)))
        (either_null (is_nil a) (is_nil b) (is_nil (slot_at slots j)) turn) in
        and_from (keeps wrong turned a b) (in_order (turned || turns a b) b slots) (keeps_turn wrong turned a b turn ∙ not_from_false turned fresh)
        (complete (turned || turns a b) b slots none (λ e. one) after behind))
        (λ stay.
        let null = same_null a b stay in
        let turned_before = λ (e : (turned || turns a b) ≡ true). ⊎_elim (λ yes. yes) (λ turn. absurd (both_ways (turns a b) stay turn)) (or_cases turned (turns a b) e) in
        and_from (keeps wrong turned a b) (in_order (turned || turns a b) b slots) (keeps_stay wrong turned a b stay ∙ not_from_false (wrong a b) (next_right a b slots none all stay))
        (complete (turned || turns a b) b slots none (λ e j lt. same (turned_before e) (suc j) (omega (arith, lt)) ∙ sym null) after behind))
        (cases_Bool (turns a b))

-- ---- the walk

and_yes : (p : Bool) → (p && true) ≡ p
and_yes true = refl
and_yes false = refl

and_twice : (p q r : Bool) → ((p && q) && r) ≡ (p && (q && r))
and_twice true q r = refl
and_twice false q r = refl

step_open : (t : ColumnType) (w : OrderWalk) (a b : Slot) → is_open w ≡ true → stepped t w a b ≡ moved t w a b
step_open t w a b e = rw e refl

step_shut : (t : ColumnType) (w : OrderWalk) (a b : Slot) → is_open w ≡ false → stepped t w a b ≡ w
step_shut t w a b e = rw e refl

-- one of the two orders, and what it has to do with the walk
module _ (t : ColumnType) (wrong : Slot → Slot → Bool) (side : OrderWalk → Bool) (goes : (w : OrderWalk) (a b : Slot) → side (moved t w a b) ≡ (side w && keeps wrong w.turned a b))
    (shut : (w : OrderWalk) → is_open w ≡ false → side w ≡ false) where
  side_found : (w : OrderWalk) (a : Slot) (slots : List Slot) → side (walked t w (Some a) slots) ≡ (side w && in_order wrong w.turned a slots)
  side_found w a [] = sym (and_yes (side w))
  side_found w a (b ∷ slots) =
      ⊎_elim
      (λ going.
      ap (λ v. side (walked t v (Some b) slots)) (step_open t w a b going) ∙ side_found (moved t w a b) b slots
      ∙ ap (λ s. s && in_order wrong (w.turned || turns a b) b slots) (goes w a b)
      ∙ and_twice (side w) (keeps wrong w.turned a b) (in_order wrong (w.turned || turns a b) b slots))
      (λ closed.
      ap (λ v. side (walked t v (Some b) slots)) (step_shut t w a b closed) ∙ side_found w b slots
      ∙ and_left (side w) (in_order wrong w.turned b slots) (shut w closed) ∙ sym (and_left (side w) (in_order wrong w.turned a (b ∷ slots)) (shut w closed)))
      (cases_Bool (is_open w))

ascending_found : (t : ColumnType) (a : Slot) (slots : List Slot) → (walked t fresh_walk None (a ∷ slots)).ascending ≡ in_order (falls t) false a slots
ascending_found t a slots = side_found t (falls t) (λ w. w.ascending) (λ w a b. refl) (λ w e. (or_parts w.ascending w.descending e).0) fresh_walk a slots

descending_found : (t : ColumnType) (a : Slot) (slots : List Slot) → (walked t fresh_walk None (a ∷ slots)).descending ≡ in_order (rises t) false a slots
descending_found t a slots = side_found t (rises t) (λ w. w.descending) (λ w a b. refl) (λ w e. (or_parts w.ascending w.descending e).1) fresh_walk a slots

module _ (t : FlatType) where
  through_rises : (a b c : Slot) → Fits (Flat t) a → Fits (Flat t) b → Fits (Flat t) c → is_nil a ≡ false → is_nil b ≡ false → is_nil c ≡ false →
      rises (Flat t) a b ≡ false → rises (Flat t) b c ≡ false → rises (Flat t) a c ≡ false
  through_rises a b c fa fb fc va vb vc first second = through t c b a fc fb fa vb va second first

  through_falls : (a b c : Slot) → Fits (Flat t) a → Fits (Flat t) b → Fits (Flat t) c → is_nil a ≡ false → is_nil b ≡ false → is_nil c ≡ false →
      falls (Flat t) a b ≡ false → falls (Flat t) b c ≡ false → falls (Flat t) a c ≡ false
  through_falls a b c fa fb fc va vb vc first second = through t a b c fa fb fc vb vc first second

no_nulls : HasNullsAtOneEnd []
no_nulls = record { together = λ i j k ij jk lt same. absurd (omega (arith, lt)) }

module _ (t : FlatType) where
  to_ascending : (slots : List Slot) → AllByRecursion (Fits (Flat t)) slots → (walked (Flat t) fresh_walk None slots).ascending ≡ true → IsAscending (Flat t) slots
  to_ascending [] fits e = record { ordered = λ i j le lt vi vj. absurd (omega (arith, lt)); nulls = no_nulls }
  to_ascending (a ∷ slots) fits e =
      let h = sym (ascending_found (Flat t) a slots) ∙ e in
      record {
        ordered = ordered (falls (Flat t)) (Fits (Flat t)) (itself t) (through_falls t) false a slots fits.0 fits.1 h;
        nulls = record { together = together (falls (Flat t)) false a slots h };
      }

  from_ascending : (slots : List Slot) → IsAscending (Flat t) slots → (walked (Flat t) fresh_walk None slots).ascending ≡ true
  from_ascending [] all = refl
  from_ascending (a ∷ slots) all =
      ascending_found (Flat t) a slots ∙ complete (falls (Flat t)) (Fits (Flat t)) (itself t) (through_falls t) false a slots tt (λ e. cc) all.ordered all.nulls

  to_descending : (slots : List Slot) → AllByRecursion (Fits (Flat t)) slots → (walked (Flat t) fresh_walk None slots).descending ≡ true → IsDescending (Flat t) slots
  to_descending [] fits e = record { ordered = λ i j le lt vi vj. absurd (omega (arith, lt)); nulls = no_nulls }
  to_descending (a ∷ slots) fits e =
      let h = sym (descending_found (Flat t) a slots) ∙ e in
      record {
        ordered = ordered (rises (Flat t)) (Fits (Flat t)) (itself t) (through_rises t) false a slots fits.0 fits.1 h;
        nulls = record { together = together (rises (Flat t)) false a slots h };
      }

  from_descending : (slots : List Slot) → IsDescending (Flat t) slots → (walked (Flat t) fresh_walk None slots).descending ≡ true
  from_descending [] all = refl
  from_descending (a ∷ slots) all =
      descending_found (Flat t) a slots ∙ complete (rises (Flat t)) (Fits (Flat t)) (itself t) (through_rises t) false a slots tt (λ e. cc) all.ordered all.nulls

module _ (t : FlatType) (slots : List Slot) (sortable : IsTrue (may_be_sorted (Flat t))) (fits : AllByRecursion (Fits (Flat t)) slots) where
  ascending_is : IsTrue (walked (Flat t) fresh_walk None slots).ascending ↔ IsFlagTrue Ascending (Flat t) slots
  ascending_is = (λ e. (sortable, to_ascending t slots fits e), λ h. from_ascending t slots h.1)

  descending_is : IsTrue (walked (Flat t) fresh_walk None slots).descending ↔ IsFlagTrue Descending (Flat t) slots
  descending_is = (λ e. (sortable, to_descending t slots fits e), λ h. from_descending t slots h.1)

-- what a walk over all slots of a column found is right
order_found : (t : ColumnType) (c : ColumnValue) (order : SlotOrder) → t ≡ c.dtype → IsTrue (may_be_sorted t) → All (Fits t) c.slots →
    order.ascending ≡ (walked t fresh_walk None c.slots).ascending → order.descending ≡ (walked t fresh_walk None c.slots).descending → IsOrderOf c order
order_found (Flat t) c order typed sortable all up down =
    let fits = recursion_from_All (Fits (Flat t)) c.slots all in
    rw (up, down, ← typed) (record { ascending = ascending_is t c.slots sortable fits; descending = descending_is t c.slots sortable fits })
order_found (ListOf t) c order typed sortable all up down = cc
order_found (ArrayOf t width) c order typed sortable all up down = cc
order_found (StructOf fs) c order typed sortable all up down = cc

pub order_seen : (t : ColumnType) (c : ColumnValue) (order : SlotOrder) (w : OrderWalk) → t ≡ c.dtype → IsTrue (may_be_sorted t) → All (Fits c.dtype) c.slots →
    w ≡ walked t fresh_walk None c.slots → order.ascending ≡ w.ascending → order.descending ≡ w.descending → IsOrderOf c order
order_seen t c order w typed sortable all over up down =
    let fits = subst (λ (u : ColumnType). All (Fits u) c.slots) (sym typed) all in
    order_found t c order typed sortable fits (up ∙ ap (λ v. v.ascending) over) (down ∙ ap (λ v. v.descending) over)

-- ---- chunks

-- once no order is left, none is found
pub walk_shut : (t : ColumnType) (w : OrderWalk) (before : Option Slot) (slots : List Slot) → is_open w ≡ false → w ≡ walked t w before slots
walk_shut t w before [] e = refl
walk_shut t w None (b ∷ slots) e = walk_shut t w (Some b) slots e
walk_shut t w (Some a) (b ∷ slots) e = walk_shut t w (Some b) slots e ∙ ap (λ v. walked t v (Some b) slots) (sym (step_shut t w a b e))

walk_append : (t : ColumnType) (w : OrderWalk) (before : Option Slot) (slots more : List Slot) → walked t w before (slots ++ more) ≡ walked t (walked t w before slots) (later_slot before slots) more
walk_append t w before [] more = refl
walk_append t w None (b ∷ slots) more = walk_append t w (Some b) slots more
walk_append t w (Some a) (b ∷ slots) more = walk_append t (stepped t w a b) (Some b) slots more

later_append : (before : Option Slot) (slots more : List Slot) → later_slot before (slots ++ more) ≡ later_slot (later_slot before slots) more
later_append before [] more = refl
later_append before (a ∷ slots) more = later_append (Some a) slots more

-- a chunk more behind those in front
pub walk_chunk : (t : ColumnType) (w r : OrderWalk) (last : Option Slot) (front chunk all : List Slot) → all ≡ front ++ chunk → w ≡ walked t fresh_walk None front → last ≡ later_slot None front →
    r ≡ walked t w last chunk → r ≡ walked t fresh_walk None all
walk_chunk t w r last front chunk all made so_far before over =
    over ∙ ap (λ v. walked t v last chunk) so_far ∙ ap (λ s. walked t (walked t fresh_walk None front) s chunk) before ∙ sym (walk_append t fresh_walk None front chunk)
    ∙ ap (walked t fresh_walk None) (sym made)

pub later_chunk : (last next : Option Slot) (front chunk all : List Slot) → all ≡ front ++ chunk → last ≡ later_slot None front → next ≡ later_slot last chunk → next ≡ later_slot None all
later_chunk last next front chunk all made before over =
    over ∙ ap (λ s. later_slot s chunk) before ∙ sym (later_append None front chunk) ∙ ap (later_slot None) (sym made)

last_is : (before : Option Slot) (a : Slot) (slots : List Slot) → later_slot before (a ∷ slots) ≡ Some (slot_at (a ∷ slots) (length slots))
last_is before a [] = refl
last_is before a (b ∷ slots) = last_is (Some a) b slots

-- the last slot of a chunk that has one
pub last_chunk : (before : Option Slot) (chunk : List Slot) → 0 < length chunk → Some (slot_at chunk (length chunk - 1)) ≡ later_slot before chunk
last_chunk before [] lt = absurd (omega (arith, lt))
last_chunk before (a ∷ slots) lt =
    let few : length (a ∷ slots) - 1 ≡ length slots = omega arith in ap (λ n. Some (slot_at (a ∷ slots) n)) few ∙ sym (last_is before a slots)
