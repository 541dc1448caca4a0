-- Bytes of numbers, which tell them.
use Rattle.std.proofs.Common.{◌≡◌, ◌≤◌, ◌<◌, ◌+◌, ◌*◌, ◌/◌, ◌%◌, ◌^◌, ℕ, zero, suc, ℤ, pos, negsuc, length, refl, ap, arith, ◌∙◌, sym, bit_xor}
use Rattle.std.specs.Int.{Width, w8, w16, w32, w64, w128, FitsUnsigned, byte_at, bytes_high_first, cast_signed, cast_unsigned, to_be_bytes}
use Rattle.std.specs.Prelude.{FitsSigned}
use Rattle.std.specs.Int.Bits.{xor_assoc, xor_self, xor_zero_r}
use Rattle.std.proofs.Math.Dec.{ltb→lt}
use Rattle.std.proofs.Math.Facts.{Fits-of_z}
use Rattle.std.proofs.Math.Nat.{div-add-mod, div-one, mod-eq_of_lt, mod-lt, mul-le-mul_right, pow-suc}
use Rattle.std.proofs.lemmas.Int.{to_z-of_z}
use Rattle.std.proofs.lemmas.Nat.{mod-mul-add, xor_lt}
use mir.Val.{bits, hbits}
use Rattle.gb_defs.specs.RowBytes.{signed_bytes, unsigned_bytes}

regroup : (n p q r top byte : ℕ) → p * q + r ≡ n → 256 * top + byte ≡ q → n ≡ top * (p * 256) + (byte * p + r)
regroup n p q r top byte e f = omega (arith, e, ap (λ x. p * x) f)

-- the byte behind a place, and what stands before the place
mod_split : (n p : ℕ) → 0 < p → n % (p * 256) ≡ (n / p % 256) * p + n % p
mod_split n p h =
    let q = n / p in
    let small : q % 256 < 256 = mod-lt q (omega arith) in
    let rest : n % p < p = mod-lt n h in
    let byte : q % 256 ≤ 255 = omega (arith, small) in
    let below : (q % 256) * p + n % p < p * 256 = omega (arith, rest, mul-le-mul_right p byte) in
    ap (λ x. x % (p * 256)) (regroup n p q (n % p) (q / 256) (q % 256) (div-add-mod n p) (div-add-mod q 256))
    ∙ mod-mul-add (q / 256) (p * 256) ((q % 256) * p + n % p) below

byte_is : (k n : ℕ) → byte_at k n ≡ n / 256 ^ k % 256
byte_is zero n = ap (λ x. x % 256) (sym (div-one n))
byte_is (suc k) n = refl

power_above : (k : ℕ) → 0 < 256 ^ k
power_above zero = omega arith
power_above (suc k) = rw (pow-suc 256 k) (omega (arith, power_above k))

-- bytes tell what is below their power
high_mod : (k n m : ℕ) → bytes_high_first k n ≡ bytes_high_first k m → n % 256 ^ k ≡ m % 256 ^ k
high_mod zero n m e =
    let a : n % 1 < 1 = mod-lt n (omega arith) in
    let b : m % 1 < 1 = mod-lt m (omega arith) in
    omega (arith, a, b)
high_mod (suc k) n m e =
    let head : byte_at k n ≡ byte_at k m = cc in
    let tail : bytes_high_first k n ≡ bytes_high_first k m = cc in
    let p = 256 ^ k in
    let bytes : n / p % 256 ≡ m / p % 256 = sym (byte_is k n) ∙ head ∙ byte_is k m in
    rw (pow-suc 256 k) (mod_split n p (power_above k) ∙ ap (λ b. b * p + n % p) bytes ∙ ap (λ r. (m / p % 256) * p + r) (high_mod k n m tail) ∙ sym (mod_split m p (power_above k)))

below_told : (k n m : ℕ) → n < 256 ^ k → m < 256 ^ k → bytes_high_first k n ≡ bytes_high_first k m → n ≡ m
below_told k n m a b e = sym (mod-eq_of_lt a) ∙ high_mod k n m e ∙ mod-eq_of_lt b

word_told : (w : Width) (n m : ℕ) → n < 2 ^ bits w → m < 2 ^ bits w → to_be_bytes w n ≡ to_be_bytes w m → n ≡ m
word_told w8 n m a b e = below_told 1 n m a b e
word_told w16 n m a b e = below_told 2 n m a b e
word_told w32 n m a b e = below_told 4 n m a b e
word_told w64 n m a b e = below_told 8 n m a b e
word_told w128 n m a b e = below_told 16 n m a b e

pub unsigned_told : (w : Width) (n m : ℤ) → FitsUnsigned w n → FitsUnsigned w m → unsigned_bytes w n ≡ unsigned_bytes w m → n ≡ m
unsigned_told w (pos n) (pos m) a b e = ap (λ x. pos x) (word_told w n m (ltb→lt n (2 ^ bits w) a.1.lt) (ltb→lt m (2 ^ bits w) b.1.lt) e)
unsigned_told w (pos n) (negsuc m) a b e = absurd b.0.le
unsigned_told w (negsuc n) m a b e = absurd a.0.le

xor_told : (a b s : ℕ) → bit_xor a s ≡ bit_xor b s → a ≡ b
xor_told a b s e = sym (back a) ∙ ap (λ x. bit_xor x s) e ∙ back b
  where
    back : (x : ℕ) → bit_xor (bit_xor x s) s ≡ x
    back x = xor_assoc x s s ∙ ap (bit_xor x) (xor_self s) ∙ xor_zero_r x

half_below : (w : Width) → 2 ^ hbits w < 2 ^ bits w
half_below w8 = omega arith
half_below w16 = omega arith
half_below w32 = omega arith
half_below w64 = omega arith
half_below w128 = omega arith

pub signed_told : (w : Width) (n m : ℤ) → FitsSigned w n → FitsSigned w m → signed_bytes w n ≡ signed_bytes w m → n ≡ m
signed_told w n m a b e =
    let x = cast_unsigned w n in
    let y = cast_unsigned w m in
    let s = 2 ^ hbits w in
    let turned : bit_xor x s ≡ bit_xor y s = word_told w (bit_xor x s) (bit_xor y s) (xor_lt (bits w) x s (Fits-of_z a).fits (half_below w)) (xor_lt (bits w) y s (Fits-of_z b).fits (half_below w)) e in
    sym (to_z-of_z w n a) ∙ ap (λ z. cast_signed w z) (xor_told x y s turned) ∙ to_z-of_z w m b

-- a number has as many bytes whatever it is
pub high_length : (k n : ℕ) → length (bytes_high_first k n) ≡ k
high_length zero n = refl
high_length (suc k) n = ap suc (high_length k n)
