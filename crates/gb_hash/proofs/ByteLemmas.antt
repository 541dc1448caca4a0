-- Words of eight bytes.
use Rattle.std.proofs.Common.{arith, ap, ◌∙◌, sym}
use Rattle.std.specs.Prelude.{◌≡◌, ◌<◌, ◌≤◌, ◌+◌, ℕ, zero, suc, List, ◌∷◌, length, take, drop, get_or}
use Rattle.std.specs.List.{fold}
use Rattle.std.specs.Int.{w64, from_le_bytes, sum_through, byte_worth, div_ceil}
use Rattle.std.proofs.lemmas.List.{get_or-take, length-drop}
use Rattle.gb_defs.specs.Hash.{words_from, words_of}

sum_alike : (f g : ℕ → ℕ) (k : ℕ) → ((i : ℕ) → i ≤ k → f i ≡ g i) → sum_through f k ≡ sum_through g k
sum_alike f g zero h = h 0 (omega arith)
sum_alike f g (suc k) h =
    let before : sum_through f k ≡ sum_through g k = sum_alike f g k (λ i l. h i (omega arith)) in
    let last : f (suc k) ≡ g (suc k) = h (suc k) (omega arith) in
    omega arith

-- the word of bytes that are alike at the first eight places
word_alike : (xs ys : List ℕ) → ((i : ℕ) → i < 8 → get_or xs i 0 ≡ get_or ys i 0) → from_le_bytes w64 xs ≡ from_le_bytes w64 ys
word_alike xs ys h = sum_alike (λ i. byte_worth i (get_or xs i 0)) (λ i. byte_worth i (get_or ys i 0)) 7 (λ i l. ap (byte_worth i) (h i (omega arith)))

word_taken : (xs : List ℕ) → from_le_bytes w64 (take 8 xs) ≡ from_le_bytes w64 xs
word_taken xs = word_alike (take 8 xs) xs (λ i l. get_or-take 8 xs i 0 l)

words_more : (xs : List ℕ) → 8 ≤ length xs → words_of xs ≡ from_le_bytes w64 (take 8 xs) ∷ words_of (drop 8 xs)
words_more xs h =
    let shorter : length (drop 8 xs) + 8 ≡ length xs = omega (arith, length-drop 8 xs) in
    let more : div_ceil (length xs) 8 ≡ suc (div_ceil (length (drop 8 xs)) 8) = rw (sym shorter) (omega arith) in
    rw (word_taken xs) (ap (λ n. words_from n xs) more)

-- the first word of the bytes into the hash, and then the other words
pub fold_more : (next : ℕ → ℕ → ℕ) (hash more word all : ℕ) (rest first after : List ℕ) → first ≡ take 8 rest → after ≡ drop 8 rest → length after + 8 ≡ length rest
    → word ≡ from_le_bytes w64 first → more ≡ next hash word → fold next hash (words_of rest) ≡ all → fold next more (words_of after) ≡ all
fold_more next hash more word all rest first after f a l w m before =
    let long : 8 ≤ length rest = omega (arith, l) in
    let read : more ≡ next hash (from_le_bytes w64 (take 8 rest)) = m ∙ ap (next hash) (w ∙ ap (from_le_bytes w64) f) in
    let behind : words_of after ≡ words_of (drop 8 rest) = ap words_of a in
    rw (read, behind) (sym (ap (fold next hash) (words_more rest long)) ∙ before)
