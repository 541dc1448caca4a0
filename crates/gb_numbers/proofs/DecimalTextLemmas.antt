-- The text of a number with a point: its digits, cut or padded.
use Rattle.std.proofs.Common.{◌≡◌, ℕ, zero, suc, ◌+◌, ◌-◌, ◌*◌, ◌/◌, ◌%◌, ◌^◌, ◌<◌, ◌≤◌, ℤ, pos, negsuc, inl, inr, List, [], ◌∷◌, ◌++◌, length, take, drop, replicate, refl, sym, ◌∙◌, ap, arith, append-nil, append_assoc, length-append, decimal}
use Rattle.std.specs.Int.RustNames.{unsigned_abs}
use Rattle.std.proofs.lemmas.Bool.{cases_lt, le-ltb, lt-ltb, ne_eqb}
use Rattle.std.proofs.lemmas.Fmt.{decimal_digit, decimal_is_IsNumeral_wide, decimal_step_wide, length-decimal-le_wide}
use Rattle.std.proofs.lemmas.Int.Digits.{digits_value-lt}
use Rattle.std.proofs.lemmas.List.{drop_at, length-replicate, replicate-append-replicate, take_at}
use Rattle.std.proofs.lemmas.Nat.{div-add-mod', div-mul-add, le-div, mod-mul-add, mod_below}
use Rattle.std.proofs.Math.Nat.{div-eq_of_lt, div-one, mod-eq_of_lt, mod-le, mul_assoc, pow-le-pow_right, pow-suc}
use Rattle.gb_defs.specs.CellText.{decimal_text, padded_digits, scaled_text}
use Rattle.gb_numbers.specs.Decimal.{minus_of, pointed_text}

-- ---- the last digit

module _ (n p : ℕ) (some : 0 < p) where
  abbrev high : ℕ
  high = n / 10 / p

  abbrev low : ℕ
  low = n / 10 % p * 10 + n % 10

  low_below : low < p * 10
  low_below = let digit = mod_below n 10 (omega arith) in let rest = mod_below (n / 10) p some in omega (arith, digit, rest)

  parts : high * (p * 10) + low ≡ n
  parts =
      let last = div-add-mod' n 10 in
      let rest = div-add-mod' (n / 10) p in
      let same : high * (p * 10) ≡ high * p * 10 = sym (mul_assoc high p 10) in
      omega (arith, last, rest, same)

  div_more : n / (p * 10) ≡ high
  div_more = ap (λ m. m / (p * 10)) (sym parts) ∙ div-mul-add high (p * 10) low low_below

  mod_more : n % (p * 10) ≡ low
  mod_more = ap (λ m. m % (p * 10)) (sym parts) ∙ mod-mul-add high (p * 10) low low_below

zeros_more : (k digit : ℕ) → padded_digits (suc (suc k)) (digit ∷ []) ≡ padded_digits (suc k) (48 ∷ []) ++ digit ∷ []
zeros_more k digit =
    let more : suc (suc k) - 1 ≡ k + 1 = omega arith in
    let less : suc k - 1 ≡ k = omega arith in
    rw (more, less) (ap (λ zeros. zeros ++ digit ∷ []) (sym (replicate-append-replicate k 1 48)))

-- a digit more behind digits that are padded
padded_more : (k r digit : ℕ) → r < 10 ^ suc k → r * 10 + digit < 10 ^ 64 → digit < 10 →
    padded_digits (suc (suc k)) (decimal (r * 10 + digit)) ≡ padded_digits (suc k) (decimal r) ++ (48 + digit) ∷ []
padded_more k zero digit below few small =
    let one = decimal_digit digit small in
    let none = decimal_digit 0 (omega arith) in
    let same : 0 * 10 + digit ≡ digit = omega arith in
    ap (λ m. padded_digits (suc (suc k)) (decimal m)) same ∙ ap (padded_digits (suc (suc k))) one ∙ zeros_more k (48 + digit)
    ∙ ap (λ ds. padded_digits (suc k) ds ++ (48 + digit) ∷ []) (sym none)
padded_more k (suc r) digit below few small =
    let n = suc r * 10 + digit in
    let quotient : n / 10 ≡ suc r = div-mul-add (suc r) 10 digit small in
    let rest : n % 10 ≡ digit = mod-mul-add (suc r) 10 digit small in
    let step : decimal n ≡ decimal (suc r) ++ (48 + digit) ∷ [] =
    decimal_step_wide n (omega arith) few ∙ ap (λ m. decimal m ++ (48 + n % 10) ∷ []) quotient ∙ ap (λ d. decimal (suc r) ++ (48 + d) ∷ []) rest in
    let long : length (decimal (suc r) ++ (48 + digit) ∷ []) ≡ length (decimal (suc r)) + 1 = length-append (decimal (suc r)) ((48 + digit) ∷ []) in
    let zeros : suc (suc k) - length (decimal (suc r) ++ (48 + digit) ∷ []) ≡ suc k - length (decimal (suc r)) = omega (arith, long) in
    rw (step, zeros) (sym (append_assoc (replicate (suc k - length (decimal (suc r))) 48) (decimal (suc r)) ((48 + digit) ∷ [])))

-- ---- a number that is cut

cut : (k n : ℕ) → n < 10 ^ 64 → 10 ^ suc k ≤ n → decimal n ≡ decimal (n / 10 ^ suc k) ++ padded_digits (suc k) (decimal (n % 10 ^ suc k))
cut zero n few large =
    let digit = decimal_digit (n % 10) (mod_below n 10 (omega arith)) in
    decimal_step_wide n (omega (arith, large)) few ∙ ap (λ ds. decimal (n / 10) ++ ds) (rw digit refl)
cut (suc k) n few large =
    let p = 10 ^ suc k in
    let ten : 10 ^ suc (suc k) ≡ p * 10 = pow-suc 10 (suc k) in
    let one : 10 ^ 1 ≤ p = pow-le-pow_right {n = 10} (omega arith) {i = 1} {j = suc k} (omega arith) in
    let big : p ≤ n / 10 = le-div p n 10 (omega arith) (omega (arith, large, ten)) in
    let front : decimal (n / 10) ≡ decimal (n / 10 / p) ++ padded_digits (suc k) (decimal (n / 10 % p)) = cut k (n / 10) (omega (arith, few)) big in
    let low = n / 10 % p * 10 + n % 10 in
    let below = low_below n p (omega (arith, one)) in
    let more = padded_more k (n / 10 % p) (n % 10) (mod_below (n / 10) p (omega (arith, one))) (omega (arith, below, large, few, ten)) (mod_below n 10 (omega arith)) in
    let high_is : n / 10 ^ suc (suc k) ≡ n / 10 / p = ap (λ m. n / m) ten ∙ div_more n p (omega (arith, one)) in
    let low_is : n % 10 ^ suc (suc k) ≡ low = ap (λ m. n % m) ten ∙ mod_more n p (omega (arith, one)) in
    decimal_step_wide n (omega (arith, large, ten, one)) few
    ∙ ap (λ ds. ds ++ (48 + n % 10) ∷ []) front
    ∙ append_assoc (decimal (n / 10 / p)) (padded_digits (suc k) (decimal (n / 10 % p))) ((48 + n % 10) ∷ [])
    ∙ ap (λ ds. decimal (n / 10 / p) ++ ds) (sym more)
    ∙ ap (λ m. decimal (n / 10 / p) ++ padded_digits (suc (suc k)) (decimal m)) (sym low_is)
    ∙ ap (λ m. decimal m ++ padded_digits (suc (suc k)) (decimal (n % 10 ^ suc (suc k)))) (sym high_is)

number_below : (n : ℕ) → n < 10 ^ 64 → n < 10 ^ length (decimal n)
number_below n few =
    let is = decimal_is_IsNumeral_wide n few in
    rw is.1 at (digits_value-lt 10 (decimal n) is.0.1)

module _ (k n : ℕ) (few : n < 10 ^ 64) where
  abbrev power : ℕ
  power = 10 ^ suc k

  abbrev part : List ℕ
  part = padded_digits (suc k) (decimal (n % power))

  some : 0 < power
  some = let one : 10 ^ 1 ≤ power = pow-le-pow_right {n = 10} (omega arith) {i = 1} {j = suc k} (omega arith) in omega (arith, one)

  part_length : length part ≡ suc k
  part_length =
      let rest = n % power in
      let below = mod_below n power some in
      let most : rest ≤ n = mod-le n power in
      let le = length-decimal-le_wide (suc k) rest (omega arith) below (omega (arith, most, few)) in
      omega (arith, le, length-append (replicate (suc k - length (decimal rest)) 48) (decimal rest), length-replicate {A = ℕ} (suc k - length (decimal rest)) 48)

  many : suc k < length (decimal n) → pointed_text (suc k) (decimal n) ≡ scaled_text (suc k) n
  many long =
      let scaled = ne_eqb (suc k) 0 (omega arith) in
      let test = lt-ltb (suc k) (length (decimal n)) long in
      let large : power ≤ n = grind (arith, length-decimal-le_wide (suc k) n) in
      let front = decimal (n / power) in
      let is : decimal n ≡ front ++ part = cut k n few large in
      let at : length front ≡ length (decimal n) - suc k = omega (arith, ap length is, length-append front part, part_length) in
      let before : take (length (decimal n) - suc k) (decimal n) ≡ front = ap (take (length (decimal n) - suc k)) is ∙ take_at front part (length (decimal n) - suc k) at in
      let behind : drop (length (decimal n) - suc k) (decimal n) ≡ part = ap (drop (length (decimal n) - suc k)) is ∙ drop_at front part (length (decimal n) - suc k) at in
      rw (scaled, test, before, behind) refl

  short : length (decimal n) ≤ suc k → pointed_text (suc k) (decimal n) ≡ scaled_text (suc k) n
  short le =
      let scaled = ne_eqb (suc k) 0 (omega arith) in
      let test = le-ltb (suc k) (length (decimal n)) le in
      let most : 10 ^ length (decimal n) ≤ power = pow-le-pow_right {n = 10} (omega arith) {i = length (decimal n)} {j = suc k} le in
      let below : n < power = omega (arith, number_below n few, most) in
      let none = decimal_digit 0 (omega arith) in
      rw (scaled, test, div-eq_of_lt below, mod-eq_of_lt below, none) refl

pub number_pointed : (scale n : ℕ) → n < 10 ^ 64 → pointed_text scale (decimal n) ≡ scaled_text scale n
number_pointed zero n few = ap decimal (sym (div-one n)) ∙ sym (append-nil (decimal (n / 1)))
number_pointed (suc k) n few = elim (cases_lt (suc k) (length (decimal n))) [ inl long ↦ many k n few long | inr le ↦ short k n few le ]

pub signed_text : (scale : ℕ) (z : ℤ) → decimal_text scale z ≡ minus_of z ++ scaled_text scale (unsigned_abs z)
signed_text scale (pos n) = refl
signed_text scale (negsuc n) = refl

-- the sign, the digits with a point, and both behind what was there
pub decimal_written : (scale : ℕ) (z : ℤ) (to after digits : List ℕ) → unsigned_abs z < 10 ^ 64 → after ≡ to ++ minus_of z → digits ≡ decimal (unsigned_abs z) →
    after ++ pointed_text scale digits ≡ to ++ decimal_text scale z
decimal_written scale z to after digits few sign is =
    rw (sign, is, signed_text scale z, number_pointed scale (unsigned_abs z) few) (append_assoc to (minus_of z) (scaled_text scale (unsigned_abs z)))
