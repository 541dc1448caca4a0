-- Numbers of two types that hash alike.
use Rattle.std.specs.Prelude.{◌≡◌, ℕ, refl}
use Rattle.std.specs.Int.{w32, w64}
use Rattle.gb_defs.specs.Hash.{hash_of}
use Rattle.gb_defs.specs.Slot.{Slot, Nil, Num, Bytes, Items}

-- numbers of 32 bits hash as those of 64
pub narrow_alike : (seed : ℕ) (mix : ℕ → ℕ) (slot : Slot) → hash_of w64 seed mix slot ≡ hash_of w32 seed mix slot
narrow_alike seed mix Nil = refl
narrow_alike seed mix (Num n) = refl
narrow_alike seed mix (Bytes bytes) = refl
narrow_alike seed mix (Items slots) = refl
