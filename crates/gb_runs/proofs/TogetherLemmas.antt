-- Slots that are in order stand together where they are the same.
use Rattle.std.proofs.Common.{◌≡◌, ◌∙◌, ℕ, ◌<◌, ◌≤◌, ℤ, true, false, not, inl, inr, List, length, All, refl, sym, ap, arith}
use Rattle.std.specs.Bool.{IsTrue}
use Rattle.std.specs.Cmp.Lexicographic.{slice_cmp}
use Rattle.std.specs.FinMap.{int_cmp-IsAntisymmetric, nat_cmp-IsAntisymmetric, slice_cmp-IsAntisymmetric}
use Rattle.std.specs.declared.cmp.Ordering.{Ordering}
use Rattle.std.specs.declared.cmp.Ordering.TheVariants.{Less, Equal, Greater}
use Rattle.std.specs.Ordering.{int_cmp, is_gt, is_lt, nat_cmp}
use Rattle.std.proofs.lemmas.Bool.{cases_Bool, true≢false}
use Rattle.std.proofs.lemmas.Cmp.{int_cmp_total, nat_list_cmp_total, tied_itself}
use Rattle.gb_defs.specs.Column.{Ascending, Descending, HasNullsAtOneEnd, IsAscending, IsDescending, IsFlagTrue, NotSorted, SortedFlag, may_be_sorted}
use Rattle.gb_defs.specs.ColumnType.{ColumnType, FlatType, Flat, ListOf, ArrayOf, StructOf, Fits, FitsBytes, FitsNumber, Null, Boolean, Unsigned, Signed, Decimal, Date, Time, Datetime, Duration, String, Binary, BinaryOffset, Categorical, Enum}
use Rattle.gb_defs.specs.Order.{ByCode, below}
use Rattle.gb_defs.specs.Path.{is_flagged}
use Rattle.gb_defs.specs.Slot.{Slot, Nil, Num, Bytes, Items, is_nil, slot_at, slot_eq}
use Rattle.gb_defs.proofs.SlotLemmas.{Decides-slot_eq}
use Rattle.gb_values.proofs.SlotOrderLemmas.{bytes_cmp_gt, bytes_cmp_lt, int_cmp_gt, int_cmp_lt, no_parts, number_below}
use Rattle.gb_runs.specs.Runs.{AreTogether}

--BEGIN
-- no flat type has both numbers and bytes
apart : (t : FlatType) (n : ℤ) (bytes : List ℕ) → FitsNumber t n → FitsBytes t bytes → ⊥
apart Null n bytes number fits = number
apart Boolean n bytes number fits = fits
apart (Unsigned w) n bytes number fits = fits
apart (Signed w) n bytes number fits = fits
apart (Decimal precision scale) n bytes number fits = fits
apart Date n bytes number fits = fits
apart Time n bytes number fits = fits
apart (Datetime unit) n bytes number fits = fits
apart (Duration unit) n bytes number fits = fits
apart String n bytes number fits = number
apart Binary n bytes number fits = number
apart BinaryOffset n bytes number fits = number
apart (Categorical texts ordering) n bytes number fits = fits
apart (Enum texts ordering) n bytes number fits = fits

--END
tied : (order : Ordering) → is_lt order ≡ false → is_gt order ≡ false → order ≡ Equal
tied Less low high = cc
tied Equal low high = refl
tied Greater low high = cc

-- ---- slots of which neither is below the other

module _ (t : FlatType) where
  same_slots : (a b : Slot) → Fits (Flat t) a → Fits (Flat t) b → is_nil a ≡ false → is_nil b ≡ false → below ByCode (Flat t) a b ≡ false → below ByCode (Flat t) b a ≡ false → a ≡ b
  same_slots (Num a) (Num b) fa fb va vb low high =
      let less = int_cmp_lt a b ∙ sym (number_below (Flat t) a b) ∙ low in
      let greater = int_cmp_gt a b ∙ sym (number_below (Flat t) b a) ∙ high in
      ap (λ n. Num n) (int_cmp-IsAntisymmetric a b (tied (int_cmp a b) less greater))
  same_slots (Bytes a) (Bytes b) fa fb va vb low high =
      let less = bytes_cmp_lt a b ∙ low in
      let greater = bytes_cmp_gt a b ∙ high in
      ap (λ bytes. Bytes bytes) (slice_cmp-IsAntisymmetric nat_cmp-IsAntisymmetric a b (tied (slice_cmp nat_cmp a b) less greater))
  same_slots (Num a) (Bytes b) fa fb va vb low high = absurd (apart t a b fa fb)
  same_slots (Bytes a) (Num b) fa fb va vb low high = absurd (apart t b a fb fa)
  same_slots Nil b fa fb va vb low high = cc
  same_slots a Nil fa fb va vb low high = cc
  same_slots (Items a) b fa fb va vb low high = absurd (no_parts t 0 a fa)
  same_slots a (Items b) fa fb va vb low high = absurd (no_parts t 0 b fb)

  none_below_itself : (a : Slot) → Fits (Flat t) a → below ByCode (Flat t) a a ≡ false
  none_below_itself Nil fits = refl
  none_below_itself (Num a) fits = number_below (Flat t) a a ∙ sym (int_cmp_lt a a) ∙ ap is_lt (tied_itself int_cmp_total a)
  none_below_itself (Bytes a) fits = sym (bytes_cmp_lt a a) ∙ ap is_lt (tied_itself nat_list_cmp_total a)
  none_below_itself (Items a) fits = absurd (no_parts t 0 a fits)

  flat_below : (a b : Slot) → Fits (Flat t) a → below ByCode (Flat t) a b ≡ true → true ≡ not (slot_eq a b)
  flat_below a b fa low = elim (cases_Bool (slot_eq a b)) [
    | inl e ↦
        let same : a ≡ b = (Decides-slot_eq a b).0 e in
        absurd (true≢false (sym low ∙ ap (λ s. below ByCode (Flat t) a s) (sym same) ∙ none_below_itself a fa))
    | inr e ↦ rw e refl
  ]

  flat_else : (a b : Slot) → Fits (Flat t) a → Fits (Flat t) b → is_nil a ≡ false → is_nil b ≡ false → below ByCode (Flat t) a b ≡ false → below ByCode (Flat t) b a ≡ not (slot_eq a b)
  flat_else a b fa fb va vb low = elim (cases_Bool (slot_eq a b)) [
    | inl e ↦
        let same : a ≡ b = (Decides-slot_eq a b).0 e in
        ap (λ s. below ByCode (Flat t) s a) (sym same) ∙ none_below_itself a fa ∙ sym (ap not e)
    | inr e ↦ elim (cases_Bool (below ByCode (Flat t) b a)) [
      | inl up ↦ up ∙ sym (ap not e)
      | inr none ↦ absurd (true≢false (sym ((Decides-slot_eq a b).1 (same_slots a b fa fb va vb low none)) ∙ e))
    ]
  ]

-- valid slots of which one is below the other are not the same
pub below_differ : (t : ColumnType) (a b : Slot) → IsTrue (may_be_sorted t) → Fits t a → below ByCode t a b ≡ true → true ≡ not (slot_eq a b)
below_differ (Flat t) a b may fa low = flat_below t a b fa low
below_differ (ListOf t) a b may fa low = cc may
below_differ (ArrayOf t width) a b may fa low = cc may
below_differ (StructOf fs) a b may fa low = cc may

pub else_differ : (t : ColumnType) (a b : Slot) → IsTrue (may_be_sorted t) → Fits t a → Fits t b → is_nil a ≡ false → is_nil b ≡ false → below ByCode t a b ≡ false → below ByCode t b a ≡ not (slot_eq a b)
else_differ (Flat t) a b may fa fb va vb low = flat_else t a b fa fb va vb low
else_differ (ListOf t) a b may fa fb va vb low = cc may
else_differ (ArrayOf t width) a b may fa fb va vb low = cc may
else_differ (StructOf fs) a b may fa fb va vb low = cc may

-- ---- slots in order

module _ (t : FlatType) (slots : List Slot) (fit : All (Fits (Flat t)) slots) (nulls : HasNullsAtOneEnd slots) (i j k : ℕ) (low : i ≤ j) (high : j ≤ k) (inside : k < length slots)
    (same : slot_eq (slot_at slots i) (slot_at slots k) ≡ true) where
  abbrev first : Slot
  first = slot_at slots i

  abbrev middle : Slot
  middle = slot_at slots j

  abbrev last : Slot
  last = slot_at slots k

  ends : first ≡ last
  ends = (Decides-slot_eq first last).0 same

  nulls_alike : is_nil middle ≡ is_nil first
  nulls_alike = nulls.together i j k low high inside (ap is_nil ends)

  nil_is : (slot : Slot) → is_nil slot ≡ true → slot ≡ Nil
  nil_is Nil e = refl
  nil_is (Num n) e = cc
  nil_is (Bytes bytes) e = cc
  nil_is (Items parts) e = cc

  -- where neither is below the other, unless they are nulls
  in_the_middle : (is_nil first ≡ false → is_nil middle ≡ false → is_nil last ≡ false → (below ByCode (Flat t) middle first ≡ false) × (below ByCode (Flat t) first middle ≡ false)) → slot_eq first middle ≡ true
  in_the_middle apart_not = elim (cases_Bool (is_nil first)) [
    | inl e ↦ (Decides-slot_eq first middle).1 (nil_is first e ∙ sym (nil_is middle (nulls_alike ∙ e)))
    | inr e ↦
        let both = apart_not e (nulls_alike ∙ e) (sym (ap is_nil ends) ∙ e) in
        (Decides-slot_eq first middle).1 (same_slots t first middle (fit i Nil (omega (arith, low, high, inside))) (fit j Nil (omega (arith, high, inside))) e (nulls_alike ∙ e) both.1 both.0)
  ]

  ascending_middle : IsAscending (Flat t) slots → slot_eq first middle ≡ true
  ascending_middle up = in_the_middle (λ vf vm vl. (
    up.ordered i j low (omega (arith, high, inside)) vf vm,
    ap (λ s. below ByCode (Flat t) s middle) ends ∙ up.ordered j k high inside vm vl,
  ))

  descending_middle : IsDescending (Flat t) slots → slot_eq first middle ≡ true
  descending_middle down = in_the_middle (λ vf vm vl. (
    ap (λ s. below ByCode (Flat t) middle s) ends ∙ down.ordered j k high inside vm vl,
    down.ordered i j low (omega (arith, high, inside)) vf vm,
  ))

-- the slots of a column that bears a flag
pub flagged_together : (t : ColumnType) (flag : SortedFlag) (slots : List Slot) → is_flagged flag ≡ true → IsFlagTrue flag t slots → All (Fits t) slots → AreTogether slots
flagged_together (Flat t) Ascending slots flagged holds fit = record { between = λ i j k low high inside same. ascending_middle t slots fit holds.1.nulls i j k low high inside same holds.1 }
flagged_together (Flat t) Descending slots flagged holds fit = record { between = λ i j k low high inside same. descending_middle t slots fit holds.1.nulls i j k low high inside same holds.1 }
flagged_together (ListOf t) Ascending slots flagged holds fit = cc holds.0
flagged_together (ListOf t) Descending slots flagged holds fit = cc holds.0
flagged_together (ArrayOf t width) Ascending slots flagged holds fit = cc holds.0
flagged_together (ArrayOf t width) Descending slots flagged holds fit = cc holds.0
flagged_together (StructOf fs) Ascending slots flagged holds fit = cc holds.0
flagged_together (StructOf fs) Descending slots flagged holds fit = cc holds.0
flagged_together t NotSorted slots flagged holds fit = cc
