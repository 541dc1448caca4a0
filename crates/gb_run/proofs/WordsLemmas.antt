-- The words of a command line: a method before its colon, a number in its range, and options from the front.
use Rattle.std.proofs.Common.{◌≡◌, ◌==◌, ◌≤◌, ◌<◌, ◌^◌, ℕ, Bool, true, false, not, ◌&&◌, List, [], ◌∷◌, map, length, leb, Option, Some, None, Result, Ok, Err, codes, refl, sym, ap, ◌∙◌, arith}
use Rattle.std.specs.Prelude.{option_and_then}
use Rattle.std.specs.Char.{is_ascii_digit}
use Rattle.std.specs.Result.{result_ok}
use Rattle.std.specs.Str.{all_ascii_digits, bytes_eq}
use Rattle.std.specs.Str.Parse.{ParsesUnsigned, digits_value}
use Rattle.std.specs.List.{list_all}
use Rattle.std.proofs.lemmas.Bool.{leb-true, le-leb, and_parts, and_from, false_from_ne_true, not_from_false}
use Rattle.std.proofs.lemmas.Str.Parse.{parse_digits, parse_gives}
use Rattle.gb_defs.specs.Cell.{is_numeral}
use Rattle.gb_defs.specs.Request.{Given, given_from, group_of, nothing, number_within, request, with_explain, with_option}
use Rattle.gb_numbers.proofs.DigitLemmas.{digits_model, numeral_tells}

-- ---- a number within a range

all_digits : (bs : List ℕ) → list_all is_ascii_digit bs ≡ all_ascii_digits bs
all_digits [] = refl
all_digits (b ∷ bs) = ap (λ t. is_ascii_digit b && t) (all_digits bs)

pub numeral_from : (bs : List ℕ) → false ≡ (length bs == 0) → list_all is_ascii_digit bs ≡ true → is_numeral bs ≡ true
numeral_from bs some digits = and_from (not (length bs == 0)) (all_ascii_digits bs) (not_from_false (length bs == 0) (sym some)) (sym (all_digits bs) ∙ digits)

pub numeral_digits : (bs : List ℕ) → is_numeral bs ≡ true → list_all is_ascii_digit bs ≡ true
numeral_digits bs e = all_digits bs ∙ (and_parts (not (length bs == 0)) (all_ascii_digits bs) e).1

pub numeral_some : (bs : List ℕ) → is_numeral bs ≡ true → 0 < length bs
numeral_some bs e = ((numeral_tells bs).0 e).0

module _ (least most : ℕ) (bs : List ℕ) where
  pub within_none : (is_numeral bs ≡ true → length bs ≤ 20 → least ≤ digits_value 10 bs → digits_value 10 bs ≤ most → ⊥) → None ≡ number_within least most bs
  unfolding number_within
  within_none refuted =
      let no = false_from_ne_true (is_numeral bs && leb (length bs) 20 && leb least (digits_value 10 bs) && leb (digits_value 10 bs) most)
      (λ e. let most_part = and_parts (is_numeral bs && leb (length bs) 20 && leb least (digits_value 10 bs)) (leb (digits_value 10 bs) most) e in
      let least_part = and_parts (is_numeral bs && leb (length bs) 20) (leb least (digits_value 10 bs)) most_part.0 in
      let few_part = and_parts (is_numeral bs) (leb (length bs) 20) least_part.0 in
      refuted few_part.0 (leb-true (length bs) 20 few_part.1) (leb-true least (digits_value 10 bs) least_part.1) (leb-true (digits_value 10 bs) most most_part.1)) in
      rw no

  pub within_some : is_numeral bs ≡ true → length bs ≤ 20 → least ≤ digits_value 10 bs → digits_value 10 bs ≤ most → Some (digits_value 10 bs) ≡ number_within least most bs
  unfolding number_within
  within_some numeral few low high =
      let is_few = le-leb (length bs) 20 few in let is_low = le-leb least (digits_value 10 bs) low in let is_high = le-leb (digits_value 10 bs) most high in
      rw (numeral, is_few, is_low, is_high)

module _ {E : Type 0} (bs : List ℕ) (r : Result ℕ E) (h : ParsesUnsigned 64 10 bs r) (numeral : is_numeral bs ≡ true) where
  digits : all_ascii_digits bs ≡ true
  digits = (and_parts (not (length bs == 0)) (all_ascii_digits bs) numeral).1

  pub parse_refuses : result_ok r ≡ None → digits_value 10 bs < 2 ^ 64 → ⊥
  parse_refuses none small = let gives = parse_gives digits_model 64 bs r h digits (numeral_some bs numeral) small in let some : None ≡ Some (digits_value 10 bs) = sym none ∙ ap result_ok gives in cc

pub parse_reads : {E : Type 0} (bs : List ℕ) (r : Result ℕ E) (x : ℕ) → ParsesUnsigned 64 10 bs r → is_numeral bs ≡ true → result_ok r ≡ Some x → x ≡ digits_value 10 bs
parse_reads {E = E} bs (Ok y) x h numeral e =
    let same : y ≡ x = cc in sym same ∙ (parse_digits digits_model {E = E} 64 bs (Ok y) h (and_parts (not (length bs == 0)) (all_ascii_digits bs) numeral).1).1
parse_reads bs (Err d) x h numeral e = cc

-- ---- options from the front

and_then_last : (o : Option Given) → o ≡ option_and_then (λ g. Some g) o
and_then_last None = refl
and_then_last (Some g) = refl

pub from-explain : (option : List ℕ) (rest : List (List ℕ)) (g : Given) → bytes_eq option (codes "--explain") ≡ true → given_from (option ∷ rest) g ≡ option_and_then (given_from rest) (with_explain g)
unfolding given_from
from-explain option [] g e = rw e (and_then_last (with_explain g))
from-explain option (word ∷ rest) g e = rw e

pub from-alone : (option : List ℕ) (g : Given) → bytes_eq option (codes "--explain") ≡ false → given_from (option ∷ []) g ≡ None
unfolding given_from
from-alone option g e = rw e

pub from-option : (option word : List ℕ) (rest : List (List ℕ)) (g : Given) → bytes_eq option (codes "--explain") ≡ false →
    given_from (option ∷ word ∷ rest) g ≡ option_and_then (given_from rest) (with_option option word g)
unfolding given_from
from-option option word rest g e = rw e

pub no_words : {A : Type 0} (xs : List A) → length xs ≡ 0 → xs ≡ []
no_words [] e = refl
no_words (x ∷ xs) e = absurd (omega (arith, e))

module _ {A : Type 0} (bytes_of : A → List ℕ) (all : Option Given) (left : List A) (g : Given) (so_far : all ≡ given_from (map bytes_of left) g) where
  pub at_end : length left ≡ 0 → Some g ≡ all
  unfolding given_from
  at_end none = sym (so_far ∙ ap (λ ws. given_from (map bytes_of ws) g) (no_words left none))

  module _ (option : A) (after : List A) (text : List ℕ) (split : left ≡ option ∷ after) (its_text : text ≡ bytes_of option) where
    at_front : all ≡ given_from (text ∷ map bytes_of after) g
    at_front = so_far ∙ ap (λ ws. given_from (map bytes_of ws) g) split ∙ ap (λ t. given_from (t ∷ map bytes_of after) g) (sym its_text)

    pub explain_more : (o : Option Given) → bytes_eq text (codes "--explain") ≡ true → with_explain g ≡ o → all ≡ option_and_then (given_from (map bytes_of after)) o
    explain_more o e f = at_front ∙ from-explain text (map bytes_of after) g e ∙ ap (option_and_then (given_from (map bytes_of after))) f

    pub alone : bytes_eq text (codes "--explain") ≡ false → length after ≡ 0 → None ≡ all
    alone e none = sym (at_front ∙ ap (λ ws. given_from (text ∷ map bytes_of ws) g) (no_words after none) ∙ from-alone text g e)

    pub option_more : (word : A) (rest : List A) (value : List ℕ) (o : Option Given) → bytes_eq text (codes "--explain") ≡ false → after ≡ word ∷ rest → value ≡ bytes_of word → with_option text value g ≡ o →
        all ≡ option_and_then (given_from (map bytes_of rest)) o
    option_more word rest value o e again its_value f =
        at_front ∙ ap (λ ws. given_from (text ∷ map bytes_of ws) g) again ∙ ap (λ v. given_from (text ∷ v ∷ map bytes_of rest) g) (sym its_value) ∙ from-option text value (map bytes_of rest) g e
        ∙ ap (option_and_then (given_from (map bytes_of rest))) f

-- ---- the command

module _ {A : Type 0} (bytes_of : A → List ℕ) (words : List A) where
  pub no_command : length words ≡ 0 → None ≡ request (map bytes_of words)
  unfolding request
  no_command none = sym (ap (λ ws. request (map bytes_of ws)) (no_words words none))

  module _ (command : A) (options : List A) (text : List ℕ) (split : words ≡ command ∷ options) (its_text : text ≡ bytes_of command) where
    at_command : request (map bytes_of words) ≡ request (text ∷ map bytes_of options)
    at_command = ap (λ ws. request (map bytes_of ws)) split ∙ ap (λ t. request (t ∷ map bytes_of options)) (sym its_text)

    pub other_command : bytes_eq text (codes "group") ≡ false → None ≡ request (map bytes_of words)
    unfolding request
    other_command e = sym (at_command ∙ rw e)

    pub group_command : (o : Option Given) → bytes_eq text (codes "group") ≡ true → given_from (map bytes_of options) nothing ≡ o → request (map bytes_of words) ≡ option_and_then group_of o
    unfolding request
    group_command o e f = at_command ∙ rw (e, f)

pub true_from_not : (b : Bool) → false ≡ not b → b ≡ true
true_from_not true e = refl
true_from_not false e = cc

pub false_from_not : (b : Bool) → true ≡ not b → b ≡ false
false_from_not true e = cc
false_from_not false e = refl
