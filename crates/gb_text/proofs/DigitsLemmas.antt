-- Cells of few digits, which read as whole numbers of 64 bits.
use Rattle.std.proofs.Common.{◌≡◌, ◌≢◌, ◌==◌, ℕ, ◌-◌, ◌%◌, ◌^◌, ◌<◌, ◌≤◌, zero, suc, inl, inr, pos, leb, true, false, cond, not, List, [], ◌∷◌, length, get_or, map, take, refl, ◌∙◌, ap, arith, Some, w8, rules}
use lib.Lanes.{top, zip2}
use lib.ListN.{replicate}
use mir.Val.{bits, hbits}
use Rattle.std.specs.Char.{is_ascii_digit}
use Rattle.std.specs.Int.{w64}
use Rattle.std.specs.Prelude.{is_some, nat_lt}
use Rattle.std.specs.Simd.Lanes.{mask_l}
use Rattle.std.specs.Str.{all_ascii_digits, bytes_eq}
use Rattle.std.specs.Str.Parse.{digits_value, starts_with_minus, without_leading_plus}
use Rattle.std.proofs.lemmas.Bool.{and_parts, cases_Bool, lt-ltb, ne_eqb}
use Rattle.std.proofs.lemmas.List.{length-map, length-take}
use Rattle.std.proofs.lemmas.Simd.{mask_l-mod, tops_compared, zip2_splat_left}
use Rattle.std.proofs.lemmas.Str.Parse.{digits_value_short, numerals_by_value, tells_all_ascii_digits}
use Rattle.gb_defs.specs.Cell.{cell_slot, value_of_field}
use Rattle.gb_defs.specs.ColumnType as types
use Rattle.gb_defs.specs.Slot.{Num}
use Rattle.gb_text.specs.Builder.{IsOfWords}
use Rattle.gb_text.specs.Plain.{AreFewDigits}

-- ---- the marks of bytes that are at least a bound

pub marks_from : (bound : ℕ) (xs : List ℕ) → length xs ≡ 16
    → mask_l (map (top (hbits w8)) (zip2 (λ a b. cond (leb a b) (2 ^ bits w8 - 1) 0) (replicate 16 bound) xs)) % 2 ^ 64 ≡ mask_l (map (λ x. leb bound x) xs)
marks_from bound xs e =
    ap (λ ms. mask_l ms % 2 ^ 64) (tops_compared w8 leb (replicate 16 bound) xs ∙ zip2_splat_left leb bound 16 xs e)
    ∙ mask_l-mod (map (λ x. leb bound x) xs) 64 (omega (arith, e, length-map xs (λ x. leb bound x)))

-- ---- the first bytes, each of which is a digit

one_digit : (b : ℕ) → 47 < b → b < 58 → is_ascii_digit b ≡ true
one_digit b high low = search rules

all_digits : (text : List ℕ) (n : ℕ) → n ≤ length text → ((k : ℕ) → k < n → 47 < get_or text k 0) → ((k : ℕ) → k < n → get_or text k 0 < 58) → all_ascii_digits (take n text) ≡ true
all_digits text zero le high low = refl
all_digits [] (suc n) le high low = absurd (omega (arith, le))
all_digits (b ∷ text) (suc n) le high low =
    rw (one_digit b (high 0 (omega arith)) (low 0 (omega arith)))
    (all_digits text n (omega (arith, le)) (λ k lt. high (suc k) (omega (arith, lt))) (λ k lt. low (suc k) (omega (arith, lt))))

pub few_digits : (text : List ℕ) (n : ℕ) → n ≤ length text → 0 < n → n < 16 → ((k : ℕ) → k < n → 47 < get_or text k 0) → ((k : ℕ) → k < n → get_or text k 0 < 58) → AreFewDigits (take n text)
few_digits text n le some few high low = record {
  digits = all_digits text n le high low;
  some = omega (arith, some, length-take n text, le);
  few = omega (arith, few, length-take n text, le);
}

-- ---- what they read as

below_limit : (cell : List ℕ) → AreFewDigits cell → digits_value 10 cell < 10 ^ 15
below_limit cell few = digits_value_short (numerals_by_value (λ ds. all_ascii_digits ds ≡ true) tells_all_ascii_digits) cell 15 few.digits few.few

digit_in : (d : ℕ) → is_ascii_digit d ≡ true → (d ≢ 43) × (d ≢ 45)
digit_in d h = (λ e. cc, λ e. cc)

-- no sign stands in front
unsigned : (cell : List ℕ) → AreFewDigits cell → (starts_with_minus cell ≡ false) × (without_leading_plus cell ≡ cell)
unsigned [] few = absurd (omega (arith, few.some))
unsigned (d ∷ ds) few =
    let apart = digit_in d (and_parts _ _ few.digits).0 in
    (ne_eqb d 45 apart.1, rw (ne_eqb d 43 apart.0) refl)

some_digits : (cell : List ℕ) → AreFewDigits cell → not (length cell == 0) ≡ true
some_digits [] few = absurd (omega (arith, few.some))
some_digits (d ∷ ds) few = rw (ne_eqb (length (d ∷ ds)) 0 (omega arith)) refl

word_value : (cell : List ℕ) → AreFewDigits cell → (t : types.ColumnType) → IsOfWords t → value_of_field t cell ≡ Some (Num (pos (digits_value 10 cell)))
word_value cell few (types.Flat (types.Signed w64)) words =
    let no = unsigned cell few in
    let fits : nat_lt (digits_value 10 cell) (2 ^ 63) ≡ true = lt-ltb _ _ (omega (arith, below_limit cell few)) in
    rw (no.0, no.1, some_digits cell few, few.digits, fits) refl
word_value cell few (types.Flat (types.Unsigned w64)) words =
    let no = unsigned cell few in
    let fits : nat_lt (digits_value 10 cell) (2 ^ 64) ≡ true = lt-ltb _ _ (omega (arith, below_limit cell few)) in
    rw (no.1, some_digits cell few, few.digits, fits) refl
word_value cell few t words = absurd words

pub digits_read : (null_word cell : List ℕ) (t : types.ColumnType) → AreFewDigits cell → IsOfWords t → true ≡ is_some (cell_slot null_word t cell)
unfolding cell_slot
digits_read null_word cell t few words = elim (cases_Bool (bytes_eq cell null_word)) [
  | inl same ↦ rw same refl
  | inr other ↦ rw (other, word_value cell few t words) refl
]
