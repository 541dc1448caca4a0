-- Ranges of a length, and where lists begin.
use Rattle.std.proofs.Common.{◌≡◌, ◌∙◌, ℕ, ◌+◌, ◌-◌, ◌*◌, ◌/◌, ◌<◌, ◌≤◌, ◌==◌, List, [], ◌∷◌, ◌++◌, true, false, cond, length, map, take, get_or, sym, ap, arith, ap₂, add-zero, add_assoc, zero-add}
use Rattle.std.proofs.Math.Nat.{mul-le-mul_right, mul-div-le}
use Rattle.std.proofs.lemmas.Bool.Decides.{nat_tests}
use Rattle.std.proofs.lemmas.List.{take_more}
use Rattle.std.proofs.lemmas.List.FromFn.{map-range_with_len_more}
use Rattle.std.proofs.lemmas.List.Sums.{sum_by-cons}
use Rattle.std.specs.List.{range_with_len, sum_by}
use Rattle.gb_defs.specs.Flat.{range_at, starts_from}

-- ---- ranges

-- so many ranges as begin before the last are no longer than the length
pub ranges_within : (len n k : ℕ) → k ≤ n → 0 < n → k * (len / n) ≤ len
ranges_within len n k within some =
    let first : k * (len / n) ≤ n * (len / n) = mul-le-mul_right (len / n) within in
    let all : n * (len / n) ≤ len = mul-div-le len n in
    omega arith

pub range_before_last : (len n k : ℕ) → k + 1 < n → range_at len n k ≡ (k * (len / n), len / n)
range_before_last len n k before =
    let other : (k + 1 == n) ≡ false = grind (arith, nat_tests) in
    ap (λ b. (k * (len / n), cond b (len - k * (len / n)) (len / n))) other

pub range_last : (len n k : ℕ) → k + 1 ≡ n → range_at len n k ≡ (k * (len / n), len - k * (len / n))
range_last len n k last =
    let same : (k + 1 == n) ≡ true = grind (arith, nat_tests) in
    ap (λ b. (k * (len / n), cond b (len - k * (len / n)) (len / n))) same

-- one range more
pub ranges_more : (len n k : ℕ) (ranges ranges' : List (ℕ × ℕ)) (range : ℕ × ℕ) → ranges ≡ map (range_at len n) (range_with_len 0 k) → ranges' ≡ ranges ++ range ∷ [] → range ≡ range_at len n k → ranges' ≡ map (range_at len n) (range_with_len 0 (k + 1))
ranges_more len n k ranges ranges' range so_far pushed is =
    pushed ∙ (ap₂ (λ rs r. rs ++ r ∷ []) so_far is ∙ sym (map-range_with_len_more (range_at len n) 0 k k (zero-add k)))

-- ---- starts

pub starts-append : {X : Type 0} (f : X → ℕ) (start : ℕ) (xs ys : List X) → starts_from start (map f (xs ++ ys)) ≡ starts_from start (map f xs) ++ starts_from (start + sum_by f xs) (map f ys)
starts-append f start [] ys = ap (λ s. starts_from s (map f ys)) (sym (add-zero start))
starts-append f start (x ∷ xs) ys =
    let from : (start + f x) + sum_by f xs ≡ start + sum_by f (x ∷ xs) = add_assoc start (f x) (sum_by f xs) ∙ ap (λ n. start + n) (sym (sum_by-cons f x xs)) in
    ap (λ starts. start ∷ starts) (starts-append f (start + f x) xs ys ∙ ap (λ s. starts_from (start + f x) (map f xs) ++ starts_from s (map f ys)) from)

pub starts_more : {X : Type 0} (f : X → ℕ) (xs : List X) (i : ℕ) (d : X) → i < length xs → starts_from 0 (map f (take (i + 1) xs)) ≡ starts_from 0 (map f (take i xs)) ++ sum_by f (take i xs) ∷ []
starts_more f xs i d inside =
    let step : starts_from 0 (map f (take (i + 1) xs)) ≡ starts_from 0 (map f (take i xs ++ get_or xs i d ∷ [])) = ap (λ ys. starts_from 0 (map f ys)) (take_more xs i d inside) in
    step ∙ starts-append f 0 (take i xs) (get_or xs i d ∷ []) ∙ ap (λ n. starts_from 0 (map f (take i xs)) ++ n ∷ []) (zero-add (sum_by f (take i xs)))
