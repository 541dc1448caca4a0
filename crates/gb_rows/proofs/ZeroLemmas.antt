-- Bytes up to their first zero.
use Rattle.std.proofs.Common.{◌≡◌, ◌≤◌, ◌<◌, ◌+◌, ◌==◌, ℕ, zero, suc, Bool, true, false, not, cond, nat_lt, List, [], ◌∷◌, ◌++◌, length, take, drop, None, Some, refl, ap, arith, add-one}
use Rattle.std.specs.List.{position, position_or_len}
use Rattle.std.proofs.lemmas.Bool.Decides.{nat_tests}
use Rattle.gb_defs.specs.RowBytes.{ended_bytes}

abbrev first_zero : List ℕ → ℕ
first_zero bytes = position_or_len (λ b. b == 0) bytes

no_zero : (b : ℕ) → (suc b == 0) ≡ false
no_zero b = grind (arith, nat_tests)

one_more : (b : ℕ) (bytes : List ℕ) → first_zero (suc b ∷ bytes) ≡ 1 + first_zero bytes
one_more b bytes = ap {B = ℕ} (λ t. cond (not t) (1 + first_zero bytes) 0) (no_zero b)

split_at : (bytes : List ℕ) (n : ℕ) → first_zero bytes ≡ n → n < length bytes → ended_bytes bytes ≡ (take n bytes ++ 0 ∷ 255 ∷ []) ++ ended_bytes (drop (suc n) bytes)
split_at [] n e lt = absurd (omega (arith, lt))
split_at (zero ∷ bytes) zero e lt = refl
split_at (zero ∷ bytes) (suc n) e lt = absurd (omega (arith, e))
split_at (suc b ∷ bytes) zero e lt = absurd (omega (arith, e, one_more b bytes))
split_at (suc b ∷ bytes) (suc n) e lt = ap (λ bs. suc b ∷ bs) (split_at bytes n (omega (arith, e, one_more b bytes)) (omega (arith, lt)))

whole : (bytes : List ℕ) → length bytes ≤ first_zero bytes → ended_bytes bytes ≡ bytes ++ 0 ∷ 0 ∷ []
whole [] h = refl
whole (zero ∷ bytes) h = absurd (omega (arith, h))
whole (suc b ∷ bytes) h = ap (λ bs. suc b ∷ bs) (whole bytes (omega (arith, h, one_more b bytes)))

found : (n len place : ℕ) (t : Bool) → nat_lt n len ≡ t → cond t (Some n) None ≡ Some place → (n ≡ place) × (n < len)
found n len place true e h = (cc, grind (arith, nat_tests))
found n len place false e h = cc

missed : (n len : ℕ) (t : Bool) → nat_lt n len ≡ t → cond t (Some n) None ≡ None → len ≤ n
missed n len true e h = cc
missed n len false e h = grind (arith, nat_tests)

-- a zero stands inside
pub zero_inside : (bytes : List ℕ) (place : ℕ) → position (λ b. b == 0) bytes ≡ Some place → place < length bytes
zero_inside bytes place e =
    let at = found (first_zero bytes) (length bytes) place (nat_lt (first_zero bytes) (length bytes)) refl e in
    omega (arith, at.0, at.1)

-- the bytes up to the first zero, that zero, and the rest
pub ended_at : (bytes : List ℕ) (place : ℕ) → position (λ b. b == 0) bytes ≡ Some place → ended_bytes bytes ≡ (take place bytes ++ 0 ∷ 255 ∷ []) ++ ended_bytes (drop (place + 1) bytes)
ended_at bytes place e =
    let at = found (first_zero bytes) (length bytes) place (nat_lt (first_zero bytes) (length bytes)) refl e in
    rw add-one (split_at bytes place at.0 (omega (arith, at.0, at.1)))

-- bytes with no zero
pub ended_whole : (bytes : List ℕ) → position (λ b. b == 0) bytes ≡ None → ended_bytes bytes ≡ bytes ++ 0 ∷ 0 ∷ []
ended_whole bytes e = whole bytes (missed (first_zero bytes) (length bytes) (nat_lt (first_zero bytes) (length bytes)) refl e)
