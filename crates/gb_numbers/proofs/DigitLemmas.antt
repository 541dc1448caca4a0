-- The number that digits write, digit by digit.
use Rattle.std.proofs.Common.{◌≡◌, ◌==◌, ℕ, ◌+◌, ◌*◌, ◌^◌, ◌<◌, ◌≤◌, nat_lt, suc, add-one, Bool, true, false, cond, not, ◌&&◌, List, [], ◌∷◌, length, get_or, drop, refl, sym, ◌∙◌, ap, arith, Option, Some, None}
use Rattle.std.specs.Bool.{Decides}
use Rattle.std.specs.Char.{digit_value, is_ascii_digit}
use Rattle.std.specs.Str.{all_ascii_digits}
use Rattle.std.specs.Str.Parse.{IsNumeral, digits_value, digits_value_after}
use Rattle.std.proofs.lemmas.Bool.{le-ltb, lt-ltb, ne_eqb, and_parts, and_from, not_from_false}
use Rattle.std.proofs.lemmas.List.{drop_more, drop_all}
use Rattle.std.proofs.Math.Nat.{pow-le-pow_right, pow-suc}
use Rattle.std.proofs.lemmas.Str.Parse.{IsNumeralModel, numerals_by_value, tells_all_ascii_digits}
use Rattle.gb_defs.specs.Cell.{is_numeral}

pub digits_model : IsNumeralModel (λ ds. all_ascii_digits ds ≡ true) (digits_value 10)
digits_model = numerals_by_value _ tells_all_ascii_digits

pub numeral_tells : (ds : List ℕ) → Decides (is_numeral ds) (IsNumeral 10 ds)
numeral_tells [] = (λ e. cc, λ h. absurd (omega (arith, h.0)))
numeral_tells (d ∷ ds) =
    let some : not (length (d ∷ ds) == 0) ≡ true = not_from_false (length (d ∷ ds) == 0) (ne_eqb (length (d ∷ ds)) 0 (omega arith)) in (
      λ e. (omega arith, digits_model.to (d ∷ ds) (and_parts (not (length (d ∷ ds) == 0)) (all_ascii_digits (d ∷ ds)) e).1),
      λ h. and_from (not (length (d ∷ ds) == 0)) (all_ascii_digits (d ∷ ds)) some (digits_model.from (d ∷ ds) h.1),
    )

-- ---- digits, from the left

pub grows : (ds : List ℕ) (n : ℕ) → n ≤ digits_value_after 10 n ds
grows [] n = omega arith
grows (d ∷ ds) n = omega (arith, grows ds (n * 10 + digit_value d))

module _ (limit : ℕ) where
  -- the number of digits that follow those of n
  abbrev pub magnitude_after : ℕ → List ℕ → Option ℕ
  magnitude_after n ds = cond (all_ascii_digits ds && nat_lt (digits_value_after 10 n ds) limit) (Some (digits_value_after 10 n ds)) None

  not_below : (b : Bool) (n : ℕ) → limit ≤ n → cond (b && nat_lt n limit) (Some n) None ≡ None
  not_below true n h = rw (le-ltb n limit h)
  not_below false n h = refl

  module _ (ds : List ℕ) (i n : ℕ) (lt : i < length ds) (so_far : magnitude_after n (drop i ds) ≡ magnitude_after 0 ds) where
    at_hand : magnitude_after 0 ds ≡ magnitude_after n (get_or ds i 0 ∷ drop (i + 1) ds)
    at_hand = sym so_far ∙ ap (magnitude_after n) (drop_more ds i 0 lt)

    pub too_large : limit ≤ n * 10 + digit_value (get_or ds i 0) → None ≡ magnitude_after 0 ds
    too_large h =
        let value = n * 10 + digit_value (get_or ds i 0) in
        sym (at_hand ∙ not_below (all_ascii_digits (get_or ds i 0 ∷ drop (i + 1) ds)) (digits_value_after 10 value (drop (i + 1) ds)) (omega (arith, h, grows (drop (i + 1) ds) value)))

    pub digit_more : is_ascii_digit (get_or ds i 0) ≡ true → magnitude_after (n * 10 + digit_value (get_or ds i 0)) (drop (i + 1) ds) ≡ magnitude_after 0 ds
    digit_more h = sym (at_hand ∙ (rw h))

  pub digits_end : (ds : List ℕ) (i n : ℕ) → length ds ≤ i → n < limit → magnitude_after n (drop i ds) ≡ magnitude_after 0 ds → Some n ≡ magnitude_after 0 ds
  digits_end ds i n short fits so_far =
      let end : magnitude_after n [] ≡ Some n = rw (lt-ltb n limit fits) in
      sym end ∙ ap (magnitude_after n) (sym (drop_all i ds short)) ∙ so_far

-- ---- at most 19 digits

-- the value of i digits
module _ (i n : ℕ) (below : n < 10 ^ i) where
  pub short_room : i < 19 → n * 10 + 9 < 2 ^ 64
  short_room lt = let most : 10 ^ i ≤ 10 ^ 18 = pow-le-pow_right {n = 10} (omega arith) {i = i} {j = 18} (omega (arith, lt)) in omega (arith, below, most)

  pub short_fits : i ≤ 19 → n < 2 ^ 64
  short_fits le = let most : 10 ^ i ≤ 10 ^ 19 = pow-le-pow_right {n = 10} (omega arith) {i = i} {j = 19} le in omega (arith, below, most)

  pub short_more : (digit : ℕ) → digit ≤ 9 → n * 10 + digit < 10 ^ (i + 1)
  short_more digit le = rw add-one (let ten : 10 ^ suc i ≡ 10 ^ i * 10 = pow-suc 10 i in omega (arith, below, le, ten))
