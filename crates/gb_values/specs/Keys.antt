-- A column's slots as keys in one of three forms: words of 64 bits, wide words of 128, bytes.
use Rattle.std.specs.Prelude.{◌≡◌, ℕ, ℤ, pos, negsuc, List, ◌++◌, map, Option, None, Some}
use Rattle.std.specs.List.{All}
use Rattle.std.specs.Int.{w128, cast_unsigned}
use Rattle.std.specs.Borrow.{Bor}
use Rattle.gb_defs.specs.ColumnType.{FlatType}
use Rattle.gb_defs.specs.Hash.{word_of}
use Rattle.gb_defs.specs.Slot.{Slot, Nil, Num, Bytes}
use Rattle.gb_values.specs.Array.{native_slot}
use Rattle.gb_numbers.specs.Native.{unworded, unwidened}

-- the slot of another number, null where there is none
abbrev pub with_number : (ℤ → ℤ) → Slot → Slot
with_number f (Num n) = Num (f n)
with_number f _ = Nil

-- the number that bits with no sign stand for
abbrev pub number_from : (ℕ → ℤ) → ℤ → ℤ
number_from f (pos n) = f n
number_from f (negsuc n) = negsuc n

-- a slot with the low 64 bits of its number, and with all of its 128
abbrev pub word_slot : Slot → Slot
word_slot slot = with_number (λ n. pos (word_of n)) slot

abbrev pub wide_slot : Slot → Slot
wide_slot slot = with_number (λ n. pos (cast_unsigned w128 n)) slot

-- the slot of a key that is a number with no sign, or null
abbrev pub key_slot : Option ℕ → Slot
key_slot key = native_slot (λ n. pos n) key

-- the key that a number is, by its word and by its wide word
abbrev pub word_key : Slot → Option ℕ
word_key (Num n) = Some (word_of n)
word_key _ = None

abbrev pub wide_key : Slot → Option ℕ
wide_key (Num n) = Some (cast_unsigned w128 n)
wide_key _ = None

-- the word of the slot tells the slot, and the wide word does
abbrev pub IsToldByWord : FlatType → Slot → Type 0
IsToldByWord t slot = with_number (number_from (unworded t)) (word_slot slot) ≡ slot

abbrev pub IsToldByWide : FlatType → Slot → Type 0
IsToldByWide t slot = with_number (number_from (unwidened t)) (wide_slot slot) ≡ slot

-- the keys are the words of the slots, which tell the slots
pub record AreWords (t : FlatType) (slots : List Slot) (words : List (Option ℕ)) : Type 0 where
  pub are : map key_slot words ≡ map word_slot slots
  pub back : All (IsToldByWord t) slots

-- the keys are the wide words of the slots, which tell the slots
pub record AreWide (t : FlatType) (slots : List Slot) (words : List (Option ℕ)) : Type 0 where
  pub are : map key_slot words ≡ map wide_slot slots
  pub back : All (IsToldByWide t) slots

-- the slot of bytes that may be missing
abbrev pub bytes_slot : Option (Bor (List ℕ)) → Slot
bytes_slot None = Nil
bytes_slot (Some bytes) = Bytes bytes.now

-- keys behind those before: the words of these slots, which tell the slots
pub record HasWordsMore (t : FlatType) (slots : List Slot) (before after : List (Option ℕ)) : Type 0 where
  pub more : after ≡ before ++ map word_key slots
  pub back : All (IsToldByWord t) slots

pub record HasWideMore (t : FlatType) (slots : List Slot) (before after : List (Option ℕ)) : Type 0 where
  pub more : after ≡ before ++ map wide_key slots
  pub back : All (IsToldByWide t) slots
