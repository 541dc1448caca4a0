-- Rows that hold lists of slots told to be equal.
use Rattle.std.proofs.Common.{◌≡◌, ◌↔◌, IsTrue, ℕ, ◌+◌, ◌-◌, ◌<◌, ◌≤◌, Bool, true, false, not, List, [], ◌∷◌, ◌++◌, length, take, drop, map, get_or, refl, sym, ◌∙◌, ap, arith}
use Rattle.std.proofs.lemmas.List.{get_or-drop, get_or-take, length-drop, length-take}
use Rattle.gb_defs.specs.Column.{ColumnValue}
use Rattle.gb_defs.specs.Slices.{between}
use Rattle.gb_defs.specs.Slot.{Slot, Nil, Num, Bytes, Items, is_nil, items_of, listed, slot_at}
use Rattle.gb_series.proofs.FieldLemmas.{across_at, across_more}
use Rattle.gb_series.proofs.TextLemmas.{between_more}
use Rattle.gb_series.specs.Structs.{across}

-- ---- nulls

pub apart : true ≡ false → ⊥
apart e = cc

-- a null is equal to a null alone
pub nil_first : (va vb : Bool) (x y : Slot) → va ≡ not (is_nil x) → vb ≡ not (is_nil y) → va ≡ false → IsTrue (not vb) ↔ (x ≡ y)
nil_first va vb Nil Nil first second e = ((λ yes. refl), (λ same. ap not second))
nil_first va vb Nil (Num n) first second e = ((λ yes. absurd (apart (sym yes ∙ ap not second))), (λ same. cc))
nil_first va vb Nil (Bytes bs) first second e = ((λ yes. absurd (apart (sym yes ∙ ap not second))), (λ same. cc))
nil_first va vb Nil (Items ss) first second e = ((λ yes. absurd (apart (sym yes ∙ ap not second))), (λ same. cc))
nil_first va vb (Num n) y first second e = absurd (apart (sym first ∙ e))
nil_first va vb (Bytes bs) y first second e = absurd (apart (sym first ∙ e))
nil_first va vb (Items ss) y first second e = absurd (apart (sym first ∙ e))

valid_apart : (x y : Slot) → true ≡ not (is_nil x) → false ≡ not (is_nil y) → x ≡ y → ⊥
valid_apart x y first second same = apart (first ∙ ap (λ s. not (is_nil s)) same ∙ sym second)

-- and to no value
pub nil_second : (va vb : Bool) (x y : Slot) → va ≡ not (is_nil x) → vb ≡ not (is_nil y) → va ≡ true → vb ≡ false → IsTrue false ↔ (x ≡ y)
nil_second va vb x y first second a b = ((λ no. absurd (apart (sym no))), (λ same. absurd (valid_apart x y (sym a ∙ first) (sym b ∙ second) same)))

-- ---- what rows hold

listed_back : (xs : List Slot) → listed (items_of xs) ≡ xs
listed_back [] = refl
listed_back (x ∷ xs) = ap (λ ys. x ∷ ys) (listed_back xs)

abbrev held_in : Slot → List Slot
held_in Nil = []
held_in (Num n) = []
held_in (Bytes bs) = []
held_in (Items ss) = listed ss

-- rows are equal where what they hold is
pub rows_equal : (b : Bool) (x y : Slot) (xs ys : List Slot) → x ≡ Items (items_of xs) → y ≡ Items (items_of ys) → IsTrue b ↔ (xs ≡ ys) → IsTrue b ↔ (x ≡ y)
rows_equal b x y xs ys first second test = (
  (λ yes. first ∙ ap (λ zs. Items (items_of zs)) (test.0 yes) ∙ sym second),
  (λ same. test.1 (sym (listed_back xs) ∙ ap held_in (sym first ∙ same ∙ second) ∙ listed_back ys)),
)

-- a row whose slot is valid
pub valid_held : (v : Bool) (x : Slot) → v ≡ not (is_nil x) → v ≡ true → is_nil x ≡ false
valid_held v Nil e valid = absurd (apart (sym valid ∙ e))
valid_held v (Num n) e valid = refl
valid_held v (Bytes bs) e valid = refl
valid_held v (Items ss) e valid = refl

-- ---- items one by one

module _ (slots : List Slot) (a b count : ℕ) (a_in : a + count ≤ length slots) (b_in : b + count ≤ length slots) (place : ℕ) (lt : place < count) where
  item_at : (start : ℕ) → start + count ≤ length slots → get_or (between start (start + count) slots) place Nil ≡ slot_at slots (start + place)
  item_at start inside =
      let few : place < (start + count) - start = omega (arith, lt) in
      get_or-take ((start + count) - start) (drop start slots) place Nil few ∙ get_or-drop start slots place Nil

  -- where one item differs, they differ
  pub items_differ : (slot_at slots (a + place) ≡ slot_at slots (b + place) → ⊥) → IsTrue false ↔ (between a (a + count) slots ≡ between b (b + count) slots)
  items_differ other = (
    (λ no. absurd (apart (sym no))),
    (λ same. absurd (other (sym (item_at a a_in) ∙ ap (λ ss. get_or ss place Nil) same ∙ item_at b b_in))),
  )

  -- one item more
  pub items_more : between a (a + place) slots ≡ between b (b + place) slots → slot_at slots (a + place) ≡ slot_at slots (b + place) →
      between a (a + (place + 1)) slots ≡ between b (b + (place + 1)) slots
  items_more so_far here =
      let next_a : a + (place + 1) ≡ (a + place) + 1 = omega arith in
      let next_b : b + (place + 1) ≡ (b + place) + 1 = omega arith in
      ap (λ n. between a n slots) next_a ∙ between_more a (a + place) slots (omega arith) (omega (arith, a_in, lt))
      ∙ ap (λ ss. ss ++ slot_at slots (a + place) ∷ []) so_far ∙ ap (λ (s : Slot). between b (b + place) slots ++ s ∷ []) here
      ∙ sym (between_more b (b + place) slots (omega arith) (omega (arith, b_in, lt))) ∙ sym (ap (λ n. between b n slots) next_b)

-- lists of two lengths differ
pub pieces_differ : (slots : List Slot) (a end_a b end_b : ℕ) → end_a ≤ length slots → end_b ≤ length slots → (end_a - a ≡ end_b - b → ⊥) →
    IsTrue false ↔ (between a end_a slots ≡ between b end_b slots)
pieces_differ slots a end_a b end_b a_in b_in other = (
  (λ no. absurd (apart (sym no))),
  (λ same. absurd (other (long a end_a a_in ∙ ap length same ∙ sym (long b end_b b_in)))),
) where
  long : (start end : ℕ) → end ≤ length slots → end - start ≡ length (between start end slots)
  long start end inside = omega (arith, inside, length-take (end - start) (drop start slots), length-drop start slots)

-- ---- fields one by one

module _ {S : Type 0} (value : S → ColumnValue) (xs : List S) (i : ℕ) (x : S) (a b : ℕ) (lt : i < length xs) (read : x ≡ get_or xs i x) where
  pub fields_differ : (slot_at (value x).slots a ≡ slot_at (value x).slots b → ⊥) → IsTrue false ↔ (across (map value xs) a ≡ across (map value xs) b)
  fields_differ other = (
    (λ no. absurd (apart (sym no))),
    (λ same. absurd (other (sym (across_at value xs i x a lt read) ∙ ap (λ ss. get_or ss i Nil) same ∙ across_at value xs i x b lt read))),
  )

  pub fields_more : across (map value (take i xs)) a ≡ across (map value (take i xs)) b → slot_at (value x).slots a ≡ slot_at (value x).slots b →
      across (map value (take (i + 1) xs)) a ≡ across (map value (take (i + 1) xs)) b
  fields_more so_far here =
      across_more value xs i x a lt read ∙ ap (λ ss. ss ++ slot_at (value x).slots a ∷ []) so_far
      ∙ ap (λ (s : Slot). across (map value (take i xs)) b ++ s ∷ []) here ∙ sym (across_more value xs i x b lt read)
