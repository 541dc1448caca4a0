-- The words of types in a header, and the colon before them.
use Rattle.std.proofs.Common.{◌≡◌, ◌≢◌, ◌==◌, ℕ, ◌+◌, ◌-◌, ◌<◌, ◌≤◌, zero, suc, true, false, not, inl, inr, List, [], ◌∷◌, length, get_or, take, drop, refl, sym, ◌∙◌, ap, arith, map, option_map, Option, Some, None}
use Rattle.std.specs.Fmt.{digits}
use Rattle.std.proofs.lemmas.List.{length-drop, get_or-drop}
use Rattle.std.specs.List.{list_any, after_last, before_last, range_with_len, suffix_len}
use Rattle.std.specs.Str.{bytes_eq, NoCharPasses}
use Rattle.std.specs.Str.Pattern.{HasCharAt}
use Rattle.std.specs.Cmp.Lexicographic.{bytes_decides}
use Rattle.std.proofs.lemmas.Bool.{cases_Bool, ne_eqb, eq-eqb, false_from_ne_true}
use Rattle.std.proofs.lemmas.List.Sums.{suffix_len_is}
use Rattle.std.proofs.lemmas.Str.Pattern.{NoCharPasses-char}
use Rattle.gb_defs.specs.ColumnType.{FlatType, ColumnType, Flat, text}
use Rattle.gb_defs.specs.TypeWord.{decimal_word, word_among, type_of_word}
use Rattle.gb_defs.specs.Table.{is_colon, Head, head_of, head_by_word}
use Rattle.gb_text.specs.Head.{decimal_scales, decimal_type_of, decimals_of, named_type, scale_among}

-- ---- words

pub apart : (word other : List ℕ) → word ≢ other → bytes_eq word other ≡ false
apart word other n = false_from_ne_true (bytes_eq word other) (λ e. n ((bytes_decides word other).0 e))

-- the words of decimals tell their scales
abbrev scaled : List ℕ → List (List ℕ × ℕ)
scaled scales = map (λ scale. ((decimal_word scale).0, scale)) scales

among_scales : (scales word : List ℕ) → option_map (λ t. Flat t) (word_among (map decimal_word scales) word) ≡ option_map decimals_of (scale_among (scaled scales) word)
among_scales [] word = refl
among_scales (scale ∷ scales) word = elim (cases_Bool (bytes_eq word (decimal_word scale).0)) [
  | inl same ↦ rw same refl
  | inr other ↦ rw other (among_scales scales word)
]

scales_are : scaled (range_with_len 0 39) ≡ decimal_scales
unfolding digits
scales_are = refl

pub scales_told : (word : List ℕ) → decimal_type_of word ≡ option_map decimals_of (scale_among decimal_scales word)
scales_told word = among_scales (range_with_len 0 39) word ∙ ap (λ ws. option_map decimals_of (scale_among ws word)) scales_are

-- ---- the colon

no_colon_in : (bs : List ℕ) → ((i : ℕ) → i < length bs → get_or bs i 0 ≢ 58) → list_any is_colon bs ≡ false
no_colon_in [] h = refl
no_colon_in (b ∷ bs) h = rw (ne_eqb b 58 (h 0 (omega arith)), no_colon_in bs (λ i lt. h (suc i) (omega (arith, lt))))

colon_in : (bs : List ℕ) (i : ℕ) → i < length bs → get_or bs i 0 ≡ 58 → list_any is_colon bs ≡ true
colon_in [] i lt e = absurd (omega (arith, lt))
colon_in (b ∷ bs) zero lt e = rw (eq-eqb b 58 e)
colon_in (b ∷ bs) (suc i) lt e = elim (cases_Bool (is_colon b)) [
  | inl h ↦ rw h
  | inr h ↦ rw (h, colon_in bs i (omega (arith, lt)) e)
]

-- a field without a colon is a name
pub plain_head : (field : List ℕ) → NoCharPasses (λ d. d == 58) field → head_of field ≡ record { name = field; dtype = text }
unfolding head_of
plain_head field h = rw (no_colon_in field (λ i lt. NoCharPasses-char 58 field i h (omega arith) lt))

-- the head of a field by the type of the word after its last colon
abbrev pub head_with : List ℕ → List ℕ → Option FlatType → Head
head_with field name None = record { name = field; dtype = text }
head_with field name (Some t) = record { name = name; dtype = Flat t }

cut_head : (field name : List ℕ) (o : Option FlatType) → before_last is_colon field ≡ name → head_by_word field o ≡ head_with field name o
cut_head field name None e = refl
cut_head field name (Some t) e = rw e

last_colon : (field : List ℕ) (i : ℕ) → i < length field → get_or field i 0 ≡ 58 → NoCharPasses (λ d. d == 58) (drop (i + 1) field) → suffix_len (λ b. not (is_colon b)) field ≡ length field - (i + 1)
last_colon field i lt e h =
    suffix_len_is (λ b. not (is_colon b)) field (i + 1) 0 (omega (arith, lt))
    (λ k le less. let past : k - (i + 1) < length (drop (i + 1) field) = omega (arith, le, less, lt, length-drop (i + 1) field) in
    let other = NoCharPasses-char 58 (drop (i + 1) field) (k - (i + 1)) h (omega arith) past in
    let moved : get_or (drop (i + 1) field) (k - (i + 1)) 0 ≡ get_or field k 0 = get_or-drop (i + 1) field (k - (i + 1)) 0 ∙ ap (λ n. get_or field n 0) (omega (arith, le)) in
    rw (ne_eqb (get_or field k 0) 58 (λ same. other (moved ∙ same))))
    (λ pos. let at : i + 1 - 1 ≡ i = omega arith in rw (at, e))

-- a field is cut at its last colon
pub colon_head : (field name word : List ℕ) (i j : ℕ) → NoCharPasses (λ d. d == 58) (drop j field) → HasCharAt 58 field i j → name ≡ take i field → word ≡ drop j field → j ≤ length field
    → head_of field ≡ head_with field name (type_of_word word)
unfolding head_of
colon_head field name word i j h at front back le =
    let next : j ≡ i + 1 = at.ends in
    let lt : i < length field = omega (arith, next, le) in
    let byte = at.byte (omega arith) in
    let tail = last_colon field i lt byte (rw next at h) in
    let cut : length field - (length field - (i + 1)) ≡ i + 1 = omega (arith, lt) in
    let before : length field - (length field - (i + 1)) - 1 ≡ i = omega (arith, lt) in
    let first : before_last is_colon field ≡ name = rw (tail, before) (sym front) in
    let last : after_last is_colon field ≡ word = rw (tail, cut, ← next) (sym back) in
    rw (colon_in field i lt byte, last) (cut_head field name (type_of_word word) first)

-- ---- what a field reads as, by its word

abbrev named : List ℕ → ColumnType → Head
named name t = record { name = name; dtype = t }

module _ (field name word : List ℕ) (cut : head_of field ≡ head_with field name (type_of_word word)) where
  by_type : (o : Option FlatType) (t : ColumnType) → Some t ≡ option_map (λ f. Flat f) o → head_with field name o ≡ named name t
  by_type None t e = cc
  by_type (Some f) t e = let same : t ≡ Flat f = cc in rw same

  by_none : (o : Option FlatType) → None ≡ option_map (λ f. Flat f) o → head_with field name o ≡ named field text
  by_none None e = refl
  by_none (Some f) e = cc

  pub typed_head : (t : ColumnType) → Some t ≡ named_type word → head_of field ≡ named name t
  typed_head t e = cut ∙ by_type (type_of_word word) t e

  pub whole_head : None ≡ named_type word → head_of field ≡ named field text
  whole_head e = cut ∙ by_none (type_of_word word) e
