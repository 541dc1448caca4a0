-- What each aggregate makes of the slots of a column at the rows of a group.
use Rattle.std.specs.Prelude.{ℕ, ◌-◌, ◌^◌, ◌==◌, Bool, true, false, not, ℤ, pos, ◌+ℤ◌, List, [], ◌∷◌, map, filter, length, if◌then◌else◌}
use Rattle.std.specs.List.{fold}
use Rattle.std.specs.Int.{w64, w128, int_wrap, int_rem_euclid}
use mir.Val.{bits}
use Rattle.gb_defs.specs.Slot.{Slot, Nil, Num, Items, items_of, is_nil, number_in, slot_at}
use Rattle.gb_defs.specs.ColumnType.{ColumnType, FlatType, Flat, ListOf, ArrayOf, StructOf, Boolean, Unsigned, Signed, Decimal, Duration, uint32}
use Rattle.gb_defs.specs.Order.{InFolds, below}
use Rattle.gb_defs.specs.Classes.{firsts, rows_below, same_slot}

pub data Method : Type 0 where
  Min : Method
  Max : Method
  First : Method
  Last : Method
  Sum : Method
  Groups : Method
  NUnique : Method
  -- of all rows, or of the rows that are not null
  Count : Bool → Method
  Implode : Method

-- the number of the type's range that is congruent to s modulo 2 to the type's width; a sum of
-- booleans is counted in 32 bits
abbrev pub wrap_flat : FlatType → ℤ → ℤ
wrap_flat Boolean s = int_rem_euclid s (pos (2 ^ 32))
wrap_flat (Unsigned w) s = int_rem_euclid s (pos (2 ^ bits w))
wrap_flat (Signed w) s = int_wrap w s
wrap_flat (Decimal precision scale) s = int_wrap w128 s
wrap_flat (Duration unit) s = int_wrap w64 s
wrap_flat _ s = s

abbrev pub wrap : ColumnType → ℤ → ℤ
wrap (Flat t) s = wrap_flat t s
wrap (ListOf t) s = s
wrap (ArrayOf t width) s = s
wrap (StructOf fs) s = s

abbrev pub picked : List Slot → List ℕ → List Slot
picked slots rows = map (slot_at slots) rows

abbrev pub is_valid : Slot → Bool
is_valid s = not (is_nil s)

abbrev pub valid : List Slot → List Slot
valid slots = filter is_valid slots

abbrev pub total : List Slot → ℤ
total slots = fold (λ sum s. sum +ℤ number_in s) (pos 0) slots

abbrev pub lesser : ColumnType → Slot → Slot → Slot
lesser t a b = if below InFolds t b a then b else a

abbrev pub greater : ColumnType → Slot → Slot → Slot
greater t a b = if below InFolds t a b then b else a

-- null for none
abbrev pub least : ColumnType → List Slot → Slot
least t [] = Nil
least t (s ∷ ss) = fold (lesser t) s ss

abbrev pub greatest : ColumnType → List Slot → Slot
greatest t [] = Nil
greatest t (s ∷ ss) = fold (greater t) s ss

abbrev pub number_slot : ℕ → Slot
number_slot n = Num (pos n)

-- how many different slots there are, null as one of them
abbrev pub distinct_count : List Slot → ℕ
distinct_count slots = length (firsts (same_slot slots) (rows_below (length slots)))

-- the fold over these slots, at these rows
unfoldable pub fold_picked : Method → ColumnType → List Slot → List ℕ → Slot
fold_picked Min t slots rows = least t (valid slots)
fold_picked Max t slots rows = greatest t (valid slots)
fold_picked First t slots rows = slot_at slots 0
fold_picked Last t slots rows = slot_at slots (length slots - 1)
fold_picked Sum t slots rows = Num (wrap t (total (valid slots)))
fold_picked Groups t slots rows = Items (items_of (map number_slot rows))
fold_picked NUnique t slots rows = number_slot (distinct_count slots)
fold_picked (Count true) t slots rows = number_slot (length rows)
fold_picked (Count false) t slots rows = if length rows == 0 then Nil else number_slot (length (valid slots))
fold_picked Implode t slots rows = Items (items_of slots)

-- the fold of a column of this type and these slots over these rows
abbrev pub fold_of : Method → ColumnType → List Slot → List ℕ → Slot
fold_of method t slots rows = fold_picked method t (picked slots rows) rows

abbrev pub sum_type : ColumnType → ColumnType
sum_type (Flat Boolean) = uint32
sum_type t = t

-- the type of the answer
abbrev pub fold_type : Method → ColumnType → ColumnType
fold_type Min t = t
fold_type Max t = t
fold_type First t = t
fold_type Last t = t
fold_type Sum t = sum_type t
fold_type Groups t = ListOf uint32
fold_type NUnique t = uint32
fold_type (Count all) t = uint32
fold_type Implode t = ListOf t
