-- Values are no nulls.
use Rattle.std.specs.Prelude.{◌≡◌, ℕ, ℤ, Bool, List, [], ◌∷◌, map, false, refl}
use Rattle.std.specs.List.{AllByRecursion}
use Rattle.gb_defs.specs.Slot.{Num, Bytes, is_nil}
use Rattle.gb_values.specs.Array.{flag_slot}

pub numbers_no_nil : (numbers : List ℤ) → AllByRecursion (λ slot. is_nil slot ≡ false) (map (λ n. Num n) numbers)
numbers_no_nil [] = tt
numbers_no_nil (n ∷ numbers) = (refl, numbers_no_nil numbers)

pub flags_no_nil : (flags : List Bool) → AllByRecursion (λ slot. is_nil slot ≡ false) (map flag_slot flags)
flags_no_nil [] = tt
flags_no_nil (flag ∷ flags) = (refl, flags_no_nil flags)

pub bytes_no_nil : (pieces : List (List ℕ)) → AllByRecursion (λ slot. is_nil slot ≡ false) (map (λ bytes. Bytes bytes) pieces)
bytes_no_nil [] = tt
bytes_no_nil (bytes ∷ pieces) = (refl, bytes_no_nil pieces)
