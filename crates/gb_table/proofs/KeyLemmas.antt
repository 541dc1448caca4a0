-- The keys of texts: the words at their ends, and that a key of a short text tells it.
use Rattle.std.proofs.Common.{◌≡◌, ℕ, zero, suc, ◌+◌, ◌-◌, ◌/◌, ◌<◌, ◌≤◌, true, false, nat_le, nat_lt, inl, inr, List, [], ◌∷◌, ◌++◌, length, take, drop, get_or, refl, sym, ap, ap₂, subst, ◌∙◌, arith, ltb-true, bit_xor}
use Rattle.std.specs.Int.{w16, w32, w64, from_le_bytes, to_le_bytes}
use Rattle.std.specs.Str.{IsUtf8}
use Rattle.std.proofs.lemmas.Bool.{and_parts, cases_Bool, cases_lt}
use Rattle.std.proofs.lemmas.Bool.Decides.{nat_tests}
use Rattle.std.proofs.lemmas.List.{drop-drop, length-drop, length-take-le, take-append-drop}
use Rattle.std.proofs.lemmas.Nat.{le_bytes_2, le_bytes_4, le_bytes_8}
use lib.Bits.{xor_assoc, xor_self, xor_zero_r}
use lib.Dec.{ltb}
use lib.Utf8.{encode, encodes, next, scalar, scalars, scalar_cases}
use Rattle.gb_table.specs.TextKey.{end_words, key_of, key_words, outer_words, text_hash}
use Rattle.gb_table.specs.declared.text_key.TextKey.{TextKey}

-- ---- bytes

-- each is below 256
abbrev pub AreBytes : List ℕ → Type 0
AreBytes bytes = (i : ℕ) → get_or bytes i 0 < 256

bytes_none : AreBytes []
bytes_none zero = omega arith
bytes_none (suc i) = omega arith

bytes_cons : (b : ℕ) (bytes : List ℕ) → b < 256 → AreBytes bytes → AreBytes (b ∷ bytes)
bytes_cons b bytes small rest zero = small
bytes_cons b bytes small rest (suc i) = rest i

bytes_append : (xs ys : List ℕ) → AreBytes xs → AreBytes ys → AreBytes (xs ++ ys)
bytes_append [] ys h k = k
bytes_append (x ∷ xs) ys h k = bytes_cons x (xs ++ ys) (h 0) (bytes_append xs ys (λ i. h (suc i)) k)

bytes_taken : (n : ℕ) (xs : List ℕ) → AreBytes xs → AreBytes (take n xs)
bytes_taken zero xs h = bytes_none
bytes_taken (suc n) [] h = bytes_none
bytes_taken (suc n) (x ∷ xs) h = bytes_cons x (take n xs) (h 0) (bytes_taken n xs (λ i. h (suc i)))

bytes_dropped : (n : ℕ) (xs : List ℕ) → AreBytes xs → AreBytes (drop n xs)
bytes_dropped zero xs h = h
bytes_dropped (suc n) [] h = bytes_none
bytes_dropped (suc n) (x ∷ xs) h = bytes_dropped n xs (λ i. h (suc i))

bytes_next : (c : ℕ) (bytes : List ℕ) → AreBytes bytes → AreBytes (next c ∷ bytes)
bytes_next c bytes rest = bytes_cons (next c) bytes (omega arith) rest

bytes_encoded : (c : ℕ) → c < 1114112 → AreBytes (encode c)
unfolding encode
bytes_encoded c high = elim (cases_Bool (ltb c 128)) [
  | inl e ↦ rw e (let low : c < 128 = ltb-true c 128 e in bytes_cons c [] (omega arith) bytes_none)
  | inr e ↦ rw e (elim (cases_Bool (ltb c 2048)) [
    | inl e' ↦ rw e' (let low : c < 2048 = ltb-true c 2048 e' in bytes_cons (192 + c / 64) (next c ∷ []) (omega arith) (bytes_next c [] bytes_none))
    | inr e' ↦ rw e' (elim (cases_Bool (ltb c 65536)) [
      | inl e'' ↦ rw e'' (let low : c < 65536 = ltb-true c 65536 e'' in
          bytes_cons (224 + c / 4096) (next (c / 64) ∷ next c ∷ []) (omega arith) (bytes_next (c / 64) (next c ∷ []) (bytes_next c [] bytes_none)))
      | inr e'' ↦ rw e''
          (bytes_cons (240 + c / 262144) (next (c / 4096) ∷ next (c / 64) ∷ next c ∷ []) (omega arith)
          (bytes_next (c / 4096) (next (c / 64) ∷ next c ∷ []) (bytes_next (c / 64) (next c ∷ []) (bytes_next c [] bytes_none))))
    ])
  ])
]

scalar_high : (c : ℕ) → scalar c ≡ true → c < 1114112
scalar_high c e = elim (scalar_cases c e) [ inl low ↦ omega arith | inr high ↦ high.1 ]

bytes_encodes : (cs : List ℕ) → scalars cs ≡ true → AreBytes (encodes cs)
bytes_encodes [] e = bytes_none
bytes_encodes (c ∷ cs) e =
    let p = and_parts (scalar c) (scalars cs) e in
    bytes_append (encode c) (encodes cs) (bytes_encoded c (scalar_high c p.0)) (bytes_encodes cs p.1)

pub bytes_utf8 : (text : List ℕ) → IsUtf8 text → AreBytes text
bytes_utf8 text u = subst AreBytes u.1.1 (bytes_encodes u.0 u.1.0)

-- ---- the words at the ends of a text

pub words_eight : (text : List ℕ) → 8 ≤ length text → end_words text ≡ outer_words w64 8 text
unfolding end_words
words_eight text low =
    let f : nat_le 8 (length text) ≡ true = grind (arith, nat_tests) in
    rw f refl

pub words_four : (text : List ℕ) → 4 ≤ length text → length text < 8 → end_words text ≡ outer_words w32 4 text
unfolding end_words
words_four text low high =
    let f : nat_le 8 (length text) ≡ false = grind (arith, nat_tests) in
    let g : nat_le 4 (length text) ≡ true = grind (arith, nat_tests) in
    rw (f, g) refl

pub words_two : (text : List ℕ) → 2 ≤ length text → length text < 4 → end_words text ≡ outer_words w16 2 text
unfolding end_words
words_two text low high =
    let f : nat_le 8 (length text) ≡ false = grind (arith, nat_tests) in
    let g : nat_le 4 (length text) ≡ false = grind (arith, nat_tests) in
    let h : nat_le 2 (length text) ≡ true = grind (arith, nat_tests) in
    rw (f, g, h) refl

pub words_one : (text : List ℕ) → length text < 2 → end_words text ≡ (get_or text 0 0, 0)
unfolding end_words
words_one text high =
    let f : nat_le 8 (length text) ≡ false = grind (arith, nat_tests) in
    let g : nat_le 4 (length text) ≡ false = grind (arith, nat_tests) in
    let h : nat_le 2 (length text) ≡ false = grind (arith, nat_tests) in
    rw (f, g, h) refl

first_none : (text : List ℕ) → length text ≡ 0 → get_or text 0 0 ≡ 0
first_none [] none = refl
first_none (b ∷ text) none = absurd (omega arith)

pub words_none : (text : List ℕ) → length text ≡ 0 → end_words text ≡ (0, 0)
words_none text none = words_one text (omega arith) ∙ ap (λ (b : ℕ). (b, 0)) (first_none text none)

-- ---- what the words tell

-- bytes of one length that read as one number are the same
abbrev Tells : ℕ → (List ℕ → ℕ) → Type 0
Tells count read = (xs ys : List ℕ) → length xs ≡ count → length ys ≡ count → AreBytes xs → AreBytes ys → read xs ≡ read ys → xs ≡ ys

eight_tell : Tells 8 (from_le_bytes w64)
eight_tell xs ys l m h k e = sym (le_bytes_8 xs (from_le_bytes w64 xs) l h refl) ∙ ap (to_le_bytes w64) e ∙ le_bytes_8 ys (from_le_bytes w64 ys) m k refl

four_tell : Tells 4 (from_le_bytes w32)
four_tell xs ys l m h k e = sym (le_bytes_4 xs (from_le_bytes w32 xs) l h refl) ∙ ap (to_le_bytes w32) e ∙ le_bytes_4 ys (from_le_bytes w32 ys) m k refl

two_tell : Tells 2 (from_le_bytes w16)
two_tell xs ys l m h k e = sym (le_bytes_2 xs (from_le_bytes w16 xs) l h refl) ∙ ap (to_le_bytes w16) e ∙ le_bytes_2 ys (from_le_bytes w16 ys) m k refl

-- what stands behind the first bytes is among the last ones
behind : (count n : ℕ) (xs : List ℕ) → count ≤ n → n ≤ count + count → drop count xs ≡ drop (count + count - n) (drop (n - count) xs)
behind count n xs low high =
    let at : count ≡ n - count + (count + count - n) = omega arith in
    ap (λ k. drop k xs) at ∙ sym (drop-drop (count + count - n) (n - count) xs)

-- first and last bytes that meet tell all
ends_tell : (count : ℕ) (read : List ℕ → ℕ) → Tells count read → (xs ys : List ℕ) → AreBytes xs → AreBytes ys → length ys ≡ length xs → count ≤ length xs → length xs ≤ count + count →
    read (take count xs) ≡ read (take count ys) → read (drop (length xs - count) xs) ≡ read (drop (length ys - count) ys) → xs ≡ ys
ends_tell count read tells xs ys h k long low high front back =
    let first : take count xs ≡ take count ys =
    tells (take count xs) (take count ys) (length-take-le count xs low) (length-take-le count ys (omega arith)) (bytes_taken count xs h) (bytes_taken count ys k) front in
    let last : drop (length xs - count) xs ≡ drop (length ys - count) ys =
    tells (drop (length xs - count) xs) (drop (length ys - count) ys) (omega (arith, length-drop (length xs - count) xs)) (omega (arith, length-drop (length ys - count) ys))
    (bytes_dropped (length xs - count) xs h) (bytes_dropped (length ys - count) ys k) back in
    let more : count + count - length xs ≡ count + count - length ys = omega arith in
    let rest : drop count xs ≡ drop count ys =
    behind count (length xs) xs low high ∙ ap₂ drop more last ∙ sym (behind count (length ys) ys (omega arith) (omega arith)) in
    sym (take-append-drop count xs) ∙ ap₂ (λ (f r : List ℕ). f ++ r) first rest ∙ take-append-drop count ys

one_tells : (xs ys : List ℕ) → length xs < 2 → length ys ≡ length xs → get_or xs 0 0 ≡ get_or ys 0 0 → xs ≡ ys
one_tells [] [] short long e = refl
one_tells [] (y ∷ ys) short long e = absurd (omega arith)
one_tells (x ∷ xs) [] short long e = absurd (omega arith)
one_tells (x ∷ []) (y ∷ []) short long e = ap (λ z. z ∷ []) e
one_tells (x ∷ []) (y ∷ y' ∷ ys) short long e = absurd (omega arith)
one_tells (x ∷ x' ∷ xs) (y ∷ ys) short long e = absurd (omega arith)

words_tell : (xs ys : List ℕ) → AreBytes xs → AreBytes ys → length ys ≡ length xs → length xs ≤ 16 → end_words xs ≡ end_words ys → xs ≡ ys
words_tell xs ys h k long high e = elim (cases_lt (length xs) 8) [
  | inr eight ↦
      let w : outer_words w64 8 xs ≡ outer_words w64 8 ys = sym (words_eight xs eight) ∙ e ∙ words_eight ys (omega arith) in
      ends_tell 8 (from_le_bytes w64) eight_tell xs ys h k long eight (omega arith) (ap (λ (p : ℕ × ℕ). p.0) w) (ap (λ (p : ℕ × ℕ). p.1) w)
  | inl low8 ↦ elim (cases_lt (length xs) 4) [
    | inr four ↦
        let w : outer_words w32 4 xs ≡ outer_words w32 4 ys = sym (words_four xs four low8) ∙ e ∙ words_four ys (omega arith) (omega arith) in
        ends_tell 4 (from_le_bytes w32) four_tell xs ys h k long four (omega arith) (ap (λ (p : ℕ × ℕ). p.0) w) (ap (λ (p : ℕ × ℕ). p.1) w)
    | inl low4 ↦ elim (cases_lt (length xs) 2) [
      | inr two ↦
          let w : outer_words w16 2 xs ≡ outer_words w16 2 ys = sym (words_two xs two low4) ∙ e ∙ words_two ys (omega arith) (omega arith) in
          ends_tell 2 (from_le_bytes w16) two_tell xs ys h k long two (omega arith) (ap (λ (p : ℕ × ℕ). p.0) w) (ap (λ (p : ℕ × ℕ). p.1) w)
      | inl low2 ↦ one_tells xs ys low2 long (ap (λ (p : ℕ × ℕ). p.0) (sym (words_one xs low2) ∙ e ∙ words_one ys (omega arith)))
    ]
  ]
]

-- ---- under a seed

pub key_long : (seed : ℕ) (text : List ℕ) → 16 < length text → key_words seed text ≡ (text_hash seed text, 0)
unfolding key_words
key_long seed text long =
    let e : nat_lt 16 (length text) ≡ true = grind (arith, nat_tests) in
    rw e refl

pub key_short : (seed : ℕ) (text : List ℕ) → length text ≤ 16 → key_words seed text ≡ (bit_xor (end_words text).0 seed, (end_words text).1)
unfolding key_words
key_short seed text short =
    let e : nat_lt 16 (length text) ≡ false = grind (arith, nat_tests) in
    rw e refl

-- what is joined with one word is told by what comes of it
unjoined : (a s : ℕ) → bit_xor (bit_xor a s) s ≡ a
unjoined a s = xor_assoc a s s ∙ ap (bit_xor a) (xor_self s) ∙ xor_zero_r a

-- a short text is told by its key
pub key_tells : (seed : ℕ) (xs ys : List ℕ) → IsUtf8 xs → IsUtf8 ys → length xs ≤ 16 → key_of seed xs ≡ key_of seed ys → xs ≡ ys
key_tells seed xs ys u v high e =
    let long : length ys ≡ length xs = sym (ap (λ (k : TextKey). k.len) e) in
    let same : key_words seed xs ≡ key_words seed ys = ap (λ (k : TextKey). (k.front, k.back)) e in
    let words = sym (key_short seed xs high) ∙ same ∙ key_short seed ys (omega (arith, long)) in
    let front : (end_words xs).0 ≡ (end_words ys).0 =
    sym (unjoined (end_words xs).0 seed) ∙ ap (λ (p : ℕ × ℕ). bit_xor p.0 seed) words ∙ unjoined (end_words ys).0 seed in
    let back : (end_words xs).1 ≡ (end_words ys).1 = ap (λ (p : ℕ × ℕ). p.1) words in
    words_tell xs ys (bytes_utf8 xs u) (bytes_utf8 ys v) long high (ap₂ (λ (f b : ℕ). (f, b)) front back)
