-- The bytes of a row: those of its slots, one after another, in the order of the columns. Rows of the same
-- types have the same bytes where their slots are the same, and none is the beginning of another.
use Rattle.std.specs.Prelude.{ℕ, zero, suc, ◌^◌, ℤ, List, [], ◌∷◌, ◌++◌, bit_xor}
use Rattle.std.specs.Int.{Width, w8, w32, w64, w128, cast_unsigned, to_be_bytes}
use Rattle.std.specs.List.{flat_map}
use mir.Val.{hbits}
use Rattle.gb_defs.specs.Slot.{Slot, Slots, Nil, Num, Bytes, Items, End, And, slot_at}
use Rattle.gb_defs.specs.ColumnType.{ColumnType, FlatType, Flat, ListOf, ArrayOf, StructOf, part_type, Null, Boolean, Unsigned, Signed, Decimal, Date, Time, Datetime, Duration, String, Binary, BinaryOffset, Categorical, Enum}
use Rattle.gb_defs.specs.Column.{ColumnValue, Frame}

-- before each slot: whether it is a null
abbrev pub slot_mark : Slot → ℕ
slot_mark Nil = 0
slot_mark (Num n) = 1
slot_mark (Bytes bytes) = 1
slot_mark (Items slots) = 1

-- the bytes of a number with no sign, highest first
abbrev pub unsigned_bytes : Width → ℤ → List ℕ
unsigned_bytes w n = to_be_bytes w (cast_unsigned w n)

-- the same with the bit of the sign turned, so that numbers below zero come first
abbrev pub signed_bytes : Width → ℤ → List ℕ
signed_bytes w n = to_be_bytes w (bit_xor (cast_unsigned w n) (2 ^ hbits w))

-- a category is its code
abbrev pub number_bytes : FlatType → ℤ → List ℕ
number_bytes Null n = []
number_bytes Boolean n = unsigned_bytes w8 n
number_bytes (Unsigned w) n = unsigned_bytes w n
number_bytes (Signed w) n = signed_bytes w n
number_bytes (Decimal precision scale) n = signed_bytes w128 n
number_bytes Date n = signed_bytes w32 n
number_bytes Time n = signed_bytes w64 n
number_bytes (Datetime unit) n = signed_bytes w64 n
number_bytes (Duration unit) n = signed_bytes w64 n
number_bytes String n = []
number_bytes Binary n = []
number_bytes BinaryOffset n = []
number_bytes (Categorical texts ordering) n = unsigned_bytes w32 n
number_bytes (Enum texts ordering) n = unsigned_bytes w32 n

-- a zero has 255 behind it, and two zeros end the bytes
abbrev pub ended_bytes : List ℕ → List ℕ
ended_bytes [] = 0 ∷ 0 ∷ []
ended_bytes (zero ∷ bytes) = 0 ∷ 255 ∷ ended_bytes bytes
ended_bytes (suc b ∷ bytes) = suc b ∷ ended_bytes bytes

-- before each item of a list
abbrev pub item_mark : ColumnType → List ℕ
item_mark (Flat t) = []
item_mark (ListOf t) = 1 ∷ []
item_mark (ArrayOf t width) = []
item_mark (StructOf fs) = []

-- behind the items of a list. Arrays and structs have as many parts as their type says
abbrev pub end_mark : ColumnType → List ℕ
end_mark (Flat t) = []
end_mark (ListOf t) = 0 ∷ []
end_mark (ArrayOf t width) = []
end_mark (StructOf fs) = []

-- a number or bytes of a type with no part
abbrev pub flat_bytes : ColumnType → (FlatType → List ℕ) → List ℕ
flat_bytes (Flat t) bytes = bytes t
flat_bytes (ListOf t) bytes = []
flat_bytes (ArrayOf t width) bytes = []
flat_bytes (StructOf fs) bytes = []

abbrev mutual
  -- behind the mark of a slot
  pub slot_body : ColumnType → Slot → List ℕ
  slot_body t Nil = []
  slot_body t (Num n) = flat_bytes t (λ f. number_bytes f n)
  slot_body t (Bytes bytes) = ended_bytes bytes
  slot_body t (Items slots) = parts_bytes t 0 slots

  -- the parts from the k-th on
  pub parts_bytes : ColumnType → ℕ → Slots → List ℕ
  parts_bytes t k End = end_mark t
  parts_bytes t k (And s ss) = item_mark t ++ ((slot_mark s ∷ slot_body (part_type t k) s) ++ parts_bytes t (suc k) ss)

abbrev pub slot_bytes : ColumnType → Slot → List ℕ
slot_bytes t s = slot_mark s ∷ slot_body t s

-- the bytes of a column's slot at a row
abbrev pub cell_bytes : ℕ → ColumnValue → List ℕ
cell_bytes row c = slot_bytes c.dtype (slot_at c.slots row)

abbrev pub row_bytes : Frame → ℕ → List ℕ
row_bytes keys row = flat_map (cell_bytes row) keys
