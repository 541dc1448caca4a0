-- Digits with a point among them, run by run.
use Rattle.std.proofs.Common.{◌≡◌, ◌==◌, ℕ, ◌+◌, ◌*◌, ◌^◌, ◌-◌, ◌<◌, ◌≤◌, nat_le, nat_lt, suc, add-one, add_comm, Bool, true, false, cond, not, ◌&&◌, List, [], ◌∷◌, ◌++◌, length, take, drop, refl, sym, ◌∙◌, ap, arith, append_assoc, append-nil, length-append, Option, Some, None}
use Rattle.std.specs.Char.{digit_value, is_ascii_digit}
use Rattle.std.specs.List.{after_first, before_first, prefix_len}
use Rattle.std.specs.Str.{all_ascii_digits}
use Rattle.std.specs.Str.Parse.{digits_value, digits_value_after, starts_with_minus, without_leading_sign}
use Rattle.std.proofs.lemmas.Bool.{le-ltb, lt-leb, lt-ltb, ne_eqb}
use Rattle.std.proofs.lemmas.Bool.Decides.{nat_tests}
use Rattle.std.proofs.Math.Nat.{mul_assoc, mul_comm, pow-le-pow_right, pow-suc, mul-le-mul_left, mul-le-mul_right}
use Rattle.gb_defs.specs.Cell.{decimal_parts, decimal_value, is_numeral, is_point}
use Rattle.gb_defs.specs.Slot.{Slot}
use Rattle.gb_numbers.specs.Decimal.{FitsShort, behind_digits, front_digits, joined_digits, pointed_digits}
use Rattle.gb_numbers.proofs.DigitLemmas.{grows}

-- ---- 19 digits

module _ (before : ℕ) (bytes : List ℕ) (fits : FitsShort before bytes) where
  pub short_before : before < 10 ^ 19
  short_before =
      let one : 10 ^ 0 ≤ 10 ^ length bytes = pow-le-pow_right {n = 10} (omega arith) {i = 0} {j = length bytes} (omega arith) in
      let most : (before + 1) * 10 ^ 0 ≤ (before + 1) * 10 ^ length bytes = mul-le-mul_left (before + 1) one in
      omega (arith, fits, most)

  pub short_digit : 0 < length bytes → before * 10 + 9 < 10 ^ 19
  short_digit some =
      let one : 10 ^ 1 ≤ 10 ^ length bytes = pow-le-pow_right {n = 10} (omega arith) {i = 1} {j = length bytes} (omega arith) in
      let most : (before + 1) * 10 ^ 1 ≤ (before + 1) * 10 ^ length bytes = mul-le-mul_left (before + 1) one in
      omega (arith, fits, most)

  pub short_more : (digit : ℕ) (rest : List ℕ) → digit ≤ 9 → length rest + 1 ≡ length bytes → FitsShort (before * 10 + digit) rest
  short_more digit rest le long =
      let ten : 10 ^ length bytes ≡ 10 ^ length rest * 10 = rw (← long, add-one) (pow-suc 10 (length rest)) in
      let most : ((before * 10 + digit) + 1) * 10 ^ length rest ≤ ((before + 1) * 10) * 10 ^ length rest = mul-le-mul_right (10 ^ length rest) (omega arith) in
      let same : ((before + 1) * 10) * 10 ^ length rest ≡ (before + 1) * 10 ^ length bytes =
      mul_assoc (before + 1) 10 (10 ^ length rest) ∙ ap (λ n. (before + 1) * n) (mul_comm 10 (10 ^ length rest) ∙ sym ten) in
      omega (arith, fits, most, same)

-- ---- a digit more

module _ (n digit : ℕ) (left rest : List ℕ) (first : left ≡ digit ∷ rest) (is : is_ascii_digit digit ≡ true) where
  pub run_more : digits_value_after 10 n (front_digits left) ≡ digits_value_after 10 (n * 10 + digit_value digit) (front_digits rest)
  run_more = rw (first, is)

  pub behind_more : behind_digits left ≡ behind_digits rest
  behind_more = rw (first, is)

  -- a number that is too large already
  pub run_large : 2 ^ 128 ≤ n * 10 + digit_value digit → 2 ^ 128 ≤ digits_value_after 10 n (front_digits left)
  run_large large = rw run_more (omega (arith, large, grows (front_digits rest) (n * 10 + digit_value digit)))

-- ---- what stands before and behind a point

digit_is_no_point : (c : ℕ) → is_ascii_digit c ≡ true → is_point c ≡ false
digit_is_no_point c e = grind (arith, nat_tests)

one_more : (n : ℕ) → 1 + n ≡ suc n
one_more n = add_comm 1 n ∙ add-one n

before_more : (c : ℕ) (cs : List ℕ) → is_point c ≡ false → before_first is_point (c ∷ cs) ≡ c ∷ before_first is_point cs
before_more c cs e = rw e (ap (λ n. take n (c ∷ cs)) (one_more (prefix_len (λ x. not (is_point x)) cs)))

after_more : (c : ℕ) (cs : List ℕ) → is_point c ≡ false → after_first is_point (c ∷ cs) ≡ after_first is_point cs
after_more c cs e = rw e (let n = prefix_len (λ x. not (is_point x)) cs in ap (λ k. drop k (c ∷ cs)) (add-one (1 + n) ∙ ap suc (one_more n)) ∙ ap (λ k. drop k cs) (sym (add-one n)))

before_is : (bs : List ℕ) → before_first is_point bs ≡ front_digits bs ++ before_first is_point (behind_digits bs)
before_is [] = refl
before_is (c ∷ cs) =
    elim (is_ascii_digit c) as (λ b. is_ascii_digit c ≡ b → before_first is_point (c ∷ cs) ≡ cond b (c ∷ front_digits cs) [] ++ before_first is_point (cond b (behind_digits cs) (c ∷ cs))) [
      | true ↦ λ e. before_more c cs (digit_is_no_point c e) ∙ ap (λ ds. c ∷ ds) (before_is cs)
      | false ↦ λ e. refl
    ] refl

after_is : (bs : List ℕ) → after_first is_point bs ≡ after_first is_point (behind_digits bs)
after_is [] = refl
after_is (c ∷ cs) =
    elim (is_ascii_digit c) as (λ b. is_ascii_digit c ≡ b → after_first is_point (c ∷ cs) ≡ after_first is_point (cond b (behind_digits cs) (c ∷ cs))) [
      | true ↦ λ e. after_more c cs (digit_is_no_point c e) ∙ after_is cs
      | false ↦ λ e. refl
    ] refl

front_all : (bs : List ℕ) → all_ascii_digits (front_digits bs) ≡ true
front_all [] = refl
front_all (c ∷ cs) =
    elim (is_ascii_digit c) as (λ b. is_ascii_digit c ≡ b → all_ascii_digits (cond b (c ∷ front_digits cs) []) ≡ true) [
      | true ↦ λ e. rw e (front_all cs)
      | false ↦ λ e. refl
    ] refl

front_behind : (bs : List ℕ) → bs ≡ front_digits bs ++ behind_digits bs
front_behind [] = refl
front_behind (c ∷ cs) =
    elim (is_ascii_digit c) as (λ b. c ∷ cs ≡ cond b (c ∷ front_digits cs) [] ++ cond b (behind_digits cs) (c ∷ cs)) [
      | true ↦ ap (λ ds. c ∷ ds) (front_behind cs)
      | false ↦ refl
    ]

behind_no_digit : (bs : List ℕ) (c : ℕ) (rest : List ℕ) → behind_digits bs ≡ c ∷ rest → is_ascii_digit c ≡ false
behind_no_digit [] c rest e = cc
behind_no_digit (d ∷ ds) c rest g =
    elim (is_ascii_digit d) as (λ b. is_ascii_digit d ≡ b → cond b (behind_digits ds) (d ∷ ds) ≡ c ∷ rest → is_ascii_digit c ≡ false) [
      | true ↦ λ e f. behind_no_digit ds c rest f
      | false ↦ λ e f. let same : d ≡ c = cc in rw same at e
    ] refl g

pub empty_list : (xs : List ℕ) → length xs ≡ 0 → xs ≡ []
empty_list [] e = refl
empty_list (x ∷ xs) e = absurd (omega (arith, e))

-- ---- digits that are joined

value_append : (n : ℕ) (xs ys : List ℕ) → digits_value_after 10 n (xs ++ ys) ≡ digits_value_after 10 (digits_value_after 10 n xs) ys
value_append n [] ys = refl
value_append n (x ∷ xs) ys = value_append (n * 10 + digit_value x) xs ys

all_append : (xs ys : List ℕ) → all_ascii_digits xs ≡ true → all_ascii_digits (xs ++ ys) ≡ all_ascii_digits ys
all_append [] ys e = refl
all_append (x ∷ xs) ys g =
    elim (is_ascii_digit x) as (λ b. b && all_ascii_digits xs ≡ true → b && all_ascii_digits (xs ++ ys) ≡ all_ascii_digits ys) [
      | true ↦ λ e. all_append xs ys e
      | false ↦ λ e. cc
    ] g

abbrev joined : List ℕ → ℕ → Option (ℕ × ℕ)
joined ds places = cond (is_numeral ds && nat_lt (digits_value 10 ds) (2 ^ 128)) (Some (digits_value 10 ds, places)) None

module _ (ds : List ℕ) (places : ℕ) where
  joined_some : 0 < length ds → all_ascii_digits ds ≡ true → digits_value 10 ds < 2 ^ 128 → joined ds places ≡ Some (digits_value 10 ds, places)
  joined_some some all fits = let full = ne_eqb (length ds) 0 (omega arith) in let few = lt-ltb (digits_value 10 ds) (2 ^ 128) fits in rw (full, all, few)

  joined_none : length ds ≡ 0 → joined ds places ≡ None
  joined_none none = rw none

  joined_large : 2 ^ 128 ≤ digits_value 10 ds → joined ds places ≡ None
  joined_large large =
      let many = le-ltb (digits_value 10 ds) (2 ^ 128) large in rw many (elim (is_numeral ds) as (λ b. cond {A = Option (ℕ × ℕ)} (b && false) (Some (digits_value 10 ds, places)) None ≡ None) [ true ↦ refl | false ↦ refl ])

  joined_bad : all_ascii_digits ds ≡ false → joined ds places ≡ None
  joined_bad bad = rw bad (elim (not (length ds == 0)) as (λ b. cond {A = Option (ℕ × ℕ)} ((b && false) && nat_lt (digits_value 10 ds) (2 ^ 128)) (Some (digits_value 10 ds, places)) None ≡ None) [ true ↦ refl | false ↦ refl ])

-- the digits before and behind the point, by what stands behind the digits at the front
module _ (bs : List ℕ) where
  pointed_is : (rest : List ℕ) → behind_digits bs ≡ rest →
      pointed_digits bs ≡ joined (front_digits bs ++ (before_first is_point rest ++ after_first is_point rest)) (length (after_first is_point rest))
  pointed_is rest e =
      let whole : before_first is_point bs ≡ front_digits bs ++ before_first is_point rest = before_is bs ∙ ap (λ r. front_digits bs ++ before_first is_point r) e in
      let part : after_first is_point bs ≡ after_first is_point rest = after_is bs ∙ ap (after_first is_point) e in
      rw (whole, part, append_assoc)

  -- nothing stands behind the digits at the front
  module _ (all : behind_digits bs ≡ []) where
    whole_is : pointed_digits bs ≡ joined (front_digits bs) 0
    whole_is = pointed_is [] all ∙ ap (λ ds. joined ds 0) (append-nil (front_digits bs))

    pub whole_number : 0 < length bs → digits_value 10 (front_digits bs) < 2 ^ 128 → Some (digits_value 10 (front_digits bs), 0) ≡ pointed_digits bs
    whole_number some fits =
        let long : length bs ≡ length (front_digits bs) = ap length (front_behind bs) ∙ ap (λ r. length (front_digits bs ++ r)) all ∙ ap length (append-nil (front_digits bs)) in
        sym (whole_is ∙ joined_some (front_digits bs) 0 (omega (arith, some, long)) (front_all bs) fits)

  -- the digits at the front are too many
  pub front_large : 2 ^ 128 ≤ digits_value 10 (front_digits bs) → None ≡ pointed_digits bs
  front_large large =
      let rest = behind_digits bs in
      let more = before_first is_point rest ++ after_first is_point rest in
      let value = value_append 0 (front_digits bs) more in
      let much = grows more (digits_value 10 (front_digits bs)) in
      sym (pointed_is rest refl ∙ joined_large (front_digits bs ++ more) (length (after_first is_point rest)) (omega (arith, large, value, much)))

  -- neither a digit nor a point follows the digits at the front
  pub no_point : (c : ℕ) (rest : List ℕ) → behind_digits bs ≡ c ∷ rest → (c == 46) ≡ false → None ≡ pointed_digits bs
  no_point c rest e other =
      let more = before_first is_point (c ∷ rest) ++ after_first is_point (c ∷ rest) in
      let bad : all_ascii_digits more ≡ false = rw (before_more c rest other, behind_no_digit bs c rest e) refl in
      sym (pointed_is (c ∷ rest) e ∙ joined_bad (front_digits bs ++ more) (length (after_first is_point (c ∷ rest))) (all_append (front_digits bs) more (front_all bs) ∙ bad))

  -- a point follows the digits at the front
  module _ (part : List ℕ) (e : behind_digits bs ≡ 46 ∷ part) where
    abbrev all_digits : List ℕ
    all_digits = front_digits bs ++ part

    parts_are : pointed_digits bs ≡ joined all_digits (length part)
    parts_are = pointed_is (46 ∷ part) e

    long : length bs ≡ length all_digits + 1
    long = ap length (front_behind bs) ∙ ap (λ r. length (front_digits bs ++ r)) e ∙ omega (arith, length-append (front_digits bs) (46 ∷ part), length-append (front_digits bs) part)

    all_value : digits_value 10 all_digits ≡ digits_value_after 10 (digits_value 10 (front_digits bs)) part
    all_value = value_append 0 (front_digits bs) part

    pub only_point : length bs ≡ 1 → None ≡ pointed_digits bs
    only_point one = let none : length all_digits ≡ 0 = omega (arith, one, long) in sym (parts_are ∙ joined_none all_digits (length part) none)

    pub part_large : 2 ^ 128 ≤ digits_value_after 10 (digits_value 10 (front_digits bs)) (front_digits part) → None ≡ pointed_digits bs
    part_large large =
        let whole = digits_value 10 (front_digits bs) in
        let split : digits_value_after 10 whole part ≡ digits_value_after 10 (digits_value_after 10 whole (front_digits part)) (behind_digits part) =
        ap (digits_value_after 10 whole) (front_behind part) ∙ value_append whole (front_digits part) (behind_digits part) in
        sym (parts_are ∙ joined_large all_digits (length part) (omega (arith, large, all_value, split, grows (behind_digits part) (digits_value_after 10 whole (front_digits part)))))

    part_other : (c : ℕ) (rest : List ℕ) → behind_digits part ≡ c ∷ rest → None ≡ pointed_digits bs
    part_other c rest f =
        let bad : all_ascii_digits part ≡ false =
        ap all_ascii_digits (front_behind part) ∙ all_append (front_digits part) (behind_digits part) (front_all part) ∙ ap all_ascii_digits f ∙ (rw (behind_no_digit part c rest f) refl) in
        sym (parts_are ∙ joined_bad all_digits (length part) (all_append (front_digits bs) part (front_all bs) ∙ bad))

    pub part_bad : (rest : List ℕ) → rest ≡ behind_digits part → (length rest == 0) ≡ false → None ≡ pointed_digits bs
    part_bad [] f some = cc
    part_bad (c ∷ rest) f some = part_other c rest (sym f)

    pub part_number : (n : ℕ) → behind_digits part ≡ [] → (length bs ≡ 1 → ⊥) → n ≡ digits_value_after 10 (digits_value 10 (front_digits bs)) (front_digits part) → n < 2 ^ 128 → Some (n, length part) ≡ pointed_digits bs
    part_number n f some is fits =
        let same : part ≡ front_digits part = front_behind part ∙ ap (λ r. front_digits part ++ r) f ∙ append-nil (front_digits part) in
        let all : all_ascii_digits all_digits ≡ true = all_append (front_digits bs) part (front_all bs) ∙ ap all_ascii_digits same ∙ front_all part in
        let value : digits_value 10 all_digits ≡ n = all_value ∙ ap (digits_value_after 10 (digits_value 10 (front_digits bs))) same ∙ sym is in
        ap (λ v. Some (v, length part)) (sym value) ∙ sym (parts_are ∙ joined_some all_digits (length part) (omega (arith, some, long)) all (omega (arith, value, fits)))

-- ---- a number times a power of ten

module _ (n i scaled : ℕ) (is : scaled ≡ n * 10 ^ i) where
  pub power_more : scaled * 10 ≡ n * 10 ^ (i + 1)
  power_more = rw (is, add-one, pow-suc) (mul_assoc n (10 ^ i) 10)

  -- a number that is too large already
  pub power_large : (places : ℕ) → i < places → 2 ^ 128 ≤ scaled * 10 → 2 ^ 128 ≤ n * 10 ^ places
  power_large places lt large =
      let most : 10 ^ (i + 1) ≤ 10 ^ places = pow-le-pow_right {n = 10} (omega arith) {i = i + 1} {j = places} (omega (arith, lt)) in
      let more : n * 10 ^ (i + 1) ≤ n * 10 ^ places = mul-le-mul_left n most in
      omega (arith, large, power_more, more)

-- ---- what does not read

abbrev fits_decimal : Bool → ℕ → Bool
fits_decimal negative n = cond negative (nat_le n (2 ^ 127)) (nat_lt n (2 ^ 127))

too_large : (negative : Bool) (n : ℕ) → 2 ^ 128 ≤ n → fits_decimal negative n ≡ false
too_large true n large = lt-leb n (2 ^ 127) (omega (arith, large))
too_large false n large = le-ltb n (2 ^ 127) (omega (arith, large))

refused : (b few placed negative : Bool) (v n : ℕ) (joint : ℕ × ℕ) (slot : Slot) → nat_lt v (2 ^ 128) ≡ few → v ≤ n →
    None ≡ cond (b && few) (Some joint) None → None ≡ cond (b && placed && fits_decimal negative n) (Some slot) None
refused false few placed negative v n joint slot f le e = refl
refused true true placed negative v n joint slot f le e = cc
refused true false placed negative v n joint slot f le e =
    let large : 2 ^ 128 ≤ n = grind (arith, nat_tests) in
    rw (too_large negative n large) (elim placed as (λ p. None ≡ cond {A = Option Slot} (p && false) (Some slot) None) [ true ↦ refl | false ↦ refl ])

parts_refused : (scale : ℕ) (negative : Bool) (whole part : List ℕ) → None ≡ joined_digits whole part → None ≡ decimal_parts scale negative whole part
parts_refused scale negative whole part e =
    let v = digits_value 10 (whole ++ part) in
    let one : 10 ^ 0 ≤ 10 ^ (scale - length part) = pow-le-pow_right {n = 10} (omega arith) {i = 0} {j = scale - length part} (omega arith) in
    let most : v * 10 ^ 0 ≤ v * 10 ^ (scale - length part) = mul-le-mul_left v one in
    refused (is_numeral (whole ++ part)) (nat_lt v (2 ^ 128)) (nat_le (length part) scale) negative v (v * 10 ^ (scale - length part)) _ _ refl (omega (arith, most)) e

pub decimal_refused : (scale : ℕ) (cell digits : List ℕ) → digits ≡ without_leading_sign cell → None ≡ pointed_digits digits → None ≡ decimal_value scale cell
decimal_refused scale cell digits is e =
    let rest = without_leading_sign cell in
    parts_refused scale (starts_with_minus cell) (before_first is_point rest) (after_first is_point rest) (rw is at e)
