-- The slots of a column of numbers as those of a column of another type that the numbers stand for.
use Rattle.std.proofs.Common.{◌≡◌, ℕ, ℤ, suc, List, refl, sym, ◌∙◌, ap, subst, inl, inr, ◌||◌, ◌&&◌, IsTrue}
use Rattle.std.proofs.lemmas.List.Elements.{All-weaker}
use Rattle.std.specs.Int.{Width}
use Rattle.std.specs.List.{All}
use Rattle.gb_defs.specs.Column.{Ascending, ColumnValue, Descending, IsFlagTrue, NotSorted, SortedFlag, may_be_sorted}
use Rattle.gb_defs.specs.ColumnType.{ColumnType, FlatType, Null, Boolean, Unsigned, Signed, Decimal, Date, Time, Datetime, Duration, String, Binary, BinaryOffset, Categorical, Enum, Flat, Fits, FitsBytes, part_type}
use Rattle.gb_defs.specs.Order.{ByCode, below, numbers_below, parts_below}
use Rattle.gb_defs.specs.Path.{Numbers, flat_kind}
use Rattle.gb_defs.specs.Slot.{Slot, Slots, Nil, Num, Bytes, Items, End, And, slot_at, slot_eq}
use Rattle.gb_cols.specs.Column.{ReadsCells}
use Rattle.gb_logical.specs.Logical.{StandsFor}
use Rattle.gb_numbers.specs.Native.{IsWhole, whole_sortable}
use Rattle.gb_values.specs.SlotOrder.{IsOrderOf}
use Rattle.gb_values.specs.declared.slot_order.SlotOrder.{SlotOrder}
use Rattle.gb_values.proofs.SlotOrderLemmas.{no_parts}

no_bytes : (stored : FlatType) (width : Width) (bytes : List ℕ) → IsWhole width stored → FitsBytes stored bytes → ⊥
no_bytes stored width bytes (inl e) fits = rw e at fits
no_bytes stored width bytes (inr e) fits = rw e at fits

-- parts of flat types are in one order
parts_alike : (t stored : FlatType) (k : ℕ) (a b : Slots) → parts_below ByCode (Flat t) k a b ≡ parts_below ByCode (Flat stored) k a b
parts_alike t stored k End End = refl
parts_alike t stored k End (And s ss) = refl
parts_alike t stored k (And s ss) End = refl
parts_alike t stored k (And a as') (And b bs) = ap (λ rest. below ByCode (part_type (Flat t) k) a b || (slot_eq a b && rest)) (parts_alike t stored (suc k) as' bs)

-- the cells of a type of numbers read as its slots
pub reads_numbers : (t : FlatType) → flat_kind t ≡ Numbers → ReadsCells (Flat t)
reads_numbers Null e = tt
reads_numbers Boolean e = tt
reads_numbers (Unsigned w) e = tt
reads_numbers (Signed w) e = tt
reads_numbers (Decimal precision scale) e = tt
reads_numbers Date e = tt
reads_numbers Time e = tt
reads_numbers (Datetime unit) e = tt
reads_numbers (Duration unit) e = tt
reads_numbers String e = tt
reads_numbers Binary e = tt
reads_numbers BinaryOffset e = tt
reads_numbers (Categorical texts ordering) e = cc
reads_numbers (Enum texts ordering) e = cc

-- types of numbers whose columns are in order alike
pub record OrdersAs (stored t : FlatType) : Type 0 where
  pub numbers : (a b : ℤ) → numbers_below ByCode (Flat t) a b ≡ numbers_below ByCode (Flat stored) a b
  pub stored_sortable : IsTrue (may_be_sorted (Flat stored))
  pub sortable : IsTrue (may_be_sorted (Flat t))

pub orders_back : (stored t : FlatType) → OrdersAs stored t → OrdersAs t stored
orders_back stored t as' = record { numbers = λ a b. sym (as'.numbers a b); stored_sortable = as'.sortable; sortable = as'.stored_sortable }

module _ (stored t : FlatType) (as' : OrdersAs stored t) where
  below_alike : (a b : Slot) → below ByCode (Flat t) a b ≡ below ByCode (Flat stored) a b
  below_alike (Num a) (Num b) = as'.numbers a b
  below_alike (Bytes a) (Bytes b) = refl
  below_alike (Items a) (Items b) = parts_alike t stored 0 a b
  below_alike Nil (Num b) = refl
  below_alike Nil (Bytes b) = refl
  below_alike Nil (Items b) = refl
  below_alike Nil Nil = refl
  below_alike (Num a) Nil = refl
  below_alike (Num a) (Bytes b) = refl
  below_alike (Num a) (Items b) = refl
  below_alike (Bytes a) Nil = refl
  below_alike (Bytes a) (Num b) = refl
  below_alike (Bytes a) (Items b) = refl
  below_alike (Items a) Nil = refl
  below_alike (Items a) (Num b) = refl
  below_alike (Items a) (Bytes b) = refl

  -- what holds of the order of the numbers holds for the other type too
  pub flag_alike : (flag : SortedFlag) (slots : List Slot) → IsFlagTrue flag (Flat stored) slots → IsFlagTrue flag (Flat t) slots
  flag_alike Ascending slots h =
      (as'.sortable, record { ordered = λ i j le lt vi vj. below_alike (slot_at slots j) (slot_at slots i) ∙ h.1.ordered i j le lt vi vj; nulls = h.1.nulls })
  flag_alike Descending slots h =
      (as'.sortable, record { ordered = λ i j le lt vi vj. below_alike (slot_at slots i) (slot_at slots j) ∙ h.1.ordered i j le lt vi vj; nulls = h.1.nulls })
  flag_alike NotSorted slots h = tt

-- the orders of a column are those of its numbers
pub order_alike : (stored t : FlatType) → OrdersAs stored t → (c v : ColumnValue) (order : SlotOrder) → c.dtype ≡ Flat stored → v.dtype ≡ Flat t → v.slots ≡ c.slots → IsOrderOf c order → IsOrderOf v order
order_alike stored t as' c v order stored_typed typed same is =
    let there = λ (flag : SortedFlag) (h : IsFlagTrue flag c.dtype c.slots).
    let numbers = subst (λ (u : ColumnType). IsFlagTrue flag u c.slots) stored_typed h in
    subst (λ (u : ColumnType). IsFlagTrue flag u v.slots) (sym typed) (rw same (flag_alike stored t as' flag c.slots numbers)) in
    let back = λ (flag : SortedFlag) (h : IsFlagTrue flag v.dtype v.slots).
    let meant = subst (λ (s : List Slot). IsFlagTrue flag (Flat t) s) same (subst (λ (u : ColumnType). IsFlagTrue flag u v.slots) typed h) in
    subst (λ (u : ColumnType). IsFlagTrue flag u c.slots) (sym stored_typed) (flag_alike t stored (orders_back stored t as') flag c.slots meant) in
    record {
      ascending = (λ e. there Ascending (is.ascending.0 e), λ h. is.ascending.1 (back Ascending h));
      descending = (λ e. there Descending (is.descending.0 e), λ h. is.descending.1 (back Descending h));
    }

module _ (stored t : FlatType) (stands : StandsFor stored t) (width : Width) (whole : IsWhole width stored) where
  fits_alike : (slot : Slot) → Fits (Flat stored) slot → Fits (Flat t) slot
  fits_alike Nil fits = tt
  fits_alike (Num n) fits = stands.fits n fits
  fits_alike (Bytes bytes) fits = absurd (no_bytes stored width bytes whole fits)
  fits_alike (Items parts) fits = absurd (no_parts stored 0 parts fits)

  pub all_fit : (slots : List Slot) → All (Fits (Flat stored)) slots → All (Fits (Flat t)) slots
  all_fit slots all = All-weaker (Fits (Flat stored)) (Fits (Flat t)) fits_alike slots all

  pub stands_in_order : OrdersAs stored t
  stands_in_order = record { numbers = stands.ordered ByCode; stored_sortable = whole_sortable width stored whole; sortable = stands.sortable }
