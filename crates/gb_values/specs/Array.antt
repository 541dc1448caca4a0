-- The slots of the storages.
use Rattle.std.specs.Prelude.{◌≡◌, ◌⊎◌, ◌≤◌, ◌<◌, nat_lt, ℕ, zero, suc, ◌+◌, ◌-◌, ℤ, List, [], ◌∷◌, take, drop, length, replicate, get_or, ◌++◌, Bool, true, if◌then◌else◌, Option, None, Some, option_map, Vec, vec_len, vec_capacity}
use Rattle.std.specs.Global.{Global}
use Rattle.std.specs.List.{AllByRecursion, filter}
use Rattle.std.specs.Borrow.{Bor}
use Rattle.gb_defs.specs.Cell.{value_of_field}
use Rattle.gb_defs.specs.ColumnType.{ColumnType, FlatType, FitsBytes}
use Rattle.gb_defs.specs.Slices.{between}
use Rattle.gb_defs.specs.Slot.{Slot, Nil, Num, Bytes}
use Rattle.gb_base.specs.AnyValue.{flag_number}
use Rattle.gb_numbers.specs.Taken.{if_taken}

-- values with a flag each, null where it is false
abbrev pub flagged_slots : List Slot → List Bool → List Slot
flagged_slots [] flags = []
flagged_slots (slot ∷ slots) [] = slot ∷ flagged_slots slots []
flagged_slots (slot ∷ slots) (flag ∷ flags) = (if flag then slot else Nil) ∷ flagged_slots slots flags

-- the flags with one more for a value that is valid; none where there were none
abbrev pub valid_pushed : List Bool → List Bool
valid_pushed [] = []
valid_pushed (flag ∷ flags) = flag ∷ (flags ++ true ∷ [])

-- a flag for each of so many values
abbrev pub filled : ℕ → List Bool → List Bool
filled count [] = replicate count true
filled count (flag ∷ flags) = flag ∷ flags

-- the flags of so many slots from a place on: true for each where there are none
abbrev pub part_flags : ℕ → ℕ → List Bool → List Bool
part_flags start count [] = replicate count true
part_flags start count (flag ∷ flags) = take count (drop start (flag ∷ flags))

-- so many flags are none, or one for each of so many values
abbrev pub FitsFlags : ℕ → ℕ → Type 0
FitsFlags flags values = (flags ≡ 0) ⊎ (flags ≡ values)

-- the slots of a chunk from one place up to another, as a chunk, unless there are none
abbrev pub filled_part : ℕ → ℕ → List Slot → List (List Slot)
filled_part from to chunk = filter (λ part. nat_lt 0 (length part)) (between from to chunk ∷ [])

-- so many slots from a place on have a flag each, or none has
abbrev pub IsPartOfFlags : ℕ → ℕ → ℕ → Type 0
IsPartOfFlags start count flags = (flags ≡ 0) ⊎ (start + count ≤ flags)

-- the slot of a number that may be missing
abbrev pub native_slot : {N : Type 0} → (N → ℤ) → Option N → Slot
native_slot number None = Nil
native_slot number (Some n) = Num (number n)

-- the slot of a flag
abbrev pub flag_slot : Bool → Slot
flag_slot flag = Num (flag_number flag)

-- the pieces of the bytes that end at these places, after a start
abbrev pub pieces_from : ℕ → List ℕ → List ℕ → List (List ℕ)
pieces_from start [] bytes = []
pieces_from start (end ∷ ends) bytes = take (end - start) (drop start bytes) ∷ pieces_from end ends bytes

-- where the piece at a place starts
abbrev pub start_of : ℕ → List ℕ → ℕ → ℕ
start_of start ends zero = start
start_of start ends (suc i) = get_or ends i 0

-- the places rise from a start to an end
abbrev pub Rises : ℕ → List ℕ → ℕ → Type 0
Rises start [] last = start ≡ last
Rises start (end ∷ ends) last = (start ≤ end) × Rises end ends last

-- the places cut all of the bytes into values of a type
pub record ArePieces (t : FlatType) (bytes ends : List ℕ) : Type 0 where
  pub rises : Rises 0 ends (length bytes)
  pub fitting : AllByRecursion (FitsBytes t) (pieces_from 0 ends bytes)

-- the slot of a text that may be missing
abbrev pub text_slot : Option (Bor (List ℕ)) → Slot
text_slot None = Nil
text_slot (Some text) = Bytes text.now

-- one slot more at the end, whatever it is
pub record HasOneMore (before after : List Slot) : Type 0 where
  pub slot : Slot
  pub more : after ≡ before ++ slot ∷ []

-- whether a field reads as a value of the type, and if so its slot stands at the end
abbrev pub TakesField : ColumnType → List Slot → List Slot → List ℕ → Bool → Type 0
TakesField t before after field took = if_taken took after ≡ option_map (λ slot. before ++ slot ∷ []) (value_of_field t field)

-- where there are flags, there is room for one more
abbrev pub HasRoomForValid : Vec Bool Global → Type 0
HasRoomForValid flags = (vec_len flags ≡ 0) ⊎ (vec_len flags < vec_capacity flags)
