-- To wrap on the way changes nothing: the step of a running sum.
use Rattle.std.proofs.Common.{◌≡◌, ℕ, suc, ◌+◌, ◌-◌, ◌*◌, ◌^◌, ◌%◌, ◌<◌, ◌≤◌, ℤ, pos, negsuc, ◌+ℤ◌, refl, sym, ◌∙◌, ap, arith}
use Rattle.std.specs.Int.{int_rem_euclid}
use Rattle.std.proofs.lemmas.Int.{ints, int_rem_euclid_is, int_wrap-add_left}
use Rattle.std.proofs.Math.Nat.{mod-add-mod, mul-le-mul_left}
use Rattle.std.proofs.Math.Pow.{pow_pos}
use mir.Val.{bits}
use Rattle.gb_defs.specs.ColumnType.{ColumnType, Null, Boolean, Unsigned, Signed, Decimal, Date, Time, Datetime, Duration, String, Binary, BinaryOffset, Categorical, Enum, Flat, ListOf, ArrayOf, StructOf}
use Rattle.gb_defs.specs.Fold.{wrap}

-- a natural number that is congruent
lifted : (n : ℕ) → 0 < n → (a : ℤ) → (k : ℕ) × (m : ℕ) × (a +ℤ pos (k * n) ≡ pos m)
lifted n some (pos x) = (0, x, omega (arith, ints))
lifted n some (negsuc x) =
    let big : suc x * 1 ≤ suc x * n = mul-le-mul_left (suc x) some in
    (suc x, suc x * n - suc x, omega (arith, ints))

pub rem-add_left : (n : ℕ) → 0 < n → (a b : ℤ) → int_rem_euclid (int_rem_euclid a (pos n) +ℤ b) (pos n) ≡ int_rem_euclid (a +ℤ b) (pos n)
rem-add_left n some a b =
    let (k, m, at_a) = lifted n some a in
    let (j, p, at_b) = lifted n some b in
    let first : int_rem_euclid a (pos n) ≡ pos (m % n) = int_rem_euclid_is a (pos n) n k m some refl at_a in
    let both : a +ℤ b +ℤ pos ((k + j) * n) ≡ pos (m + p) = omega (arith, ints, at_a, at_b) in
    let then : pos (m % n) +ℤ b +ℤ pos (j * n) ≡ pos (m % n + p) = omega (arith, ints, at_b) in
    ap (λ r. int_rem_euclid (r +ℤ b) (pos n)) first ∙ int_rem_euclid_is (pos (m % n) +ℤ b) (pos n) n j (m % n + p) some refl then
    ∙ ap pos (mod-add-mod m n p) ∙ sym (int_rem_euclid_is (a +ℤ b) (pos n) n (k + j) (m + p) some refl both)

pub wrap-add_left : (t : ColumnType) (a b : ℤ) → wrap t (wrap t a +ℤ b) ≡ wrap t (a +ℤ b)
wrap-add_left (Flat Null) a b = refl
wrap-add_left (Flat Boolean) a b = rem-add_left (2 ^ 32) (omega arith) a b
wrap-add_left (Flat (Unsigned w)) a b = rem-add_left (2 ^ bits w) (pow_pos (bits w)) a b
wrap-add_left (Flat (Signed w)) a b = int_wrap-add_left w a b
wrap-add_left (Flat (Decimal precision scale)) a b = int_wrap-add_left _ a b
wrap-add_left (Flat Date) a b = refl
wrap-add_left (Flat Time) a b = refl
wrap-add_left (Flat (Datetime unit)) a b = refl
wrap-add_left (Flat (Duration unit)) a b = int_wrap-add_left _ a b
wrap-add_left (Flat String) a b = refl
wrap-add_left (Flat Binary) a b = refl
wrap-add_left (Flat BinaryOffset) a b = refl
wrap-add_left (Flat (Categorical texts ordering)) a b = refl
wrap-add_left (Flat (Enum texts ordering)) a b = refl
wrap-add_left (ListOf t) a b = refl
wrap-add_left (ArrayOf t width) a b = refl
wrap-add_left (StructOf fs) a b = refl
