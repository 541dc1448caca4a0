-- The parts of chunks that a slice shows.
use Rattle.std.proofs.Common.{◌≡◌, ℕ, zero, suc, ◌+◌, ◌-◌, ◌≤◌, ℤ, Bool, true, false, List, [], ◌∷◌, ◌++◌, length, take, drop, map, refl, sym, ◌∙◌, ap, arith, cond, nat_lt, min, max}
use Rattle.std.specs.List.{filter, flat_map, sum}
use Rattle.std.proofs.lemmas.Bool.Decides.{nat_tests}
use Rattle.std.proofs.lemmas.List.{append-nil, drop_all, length-drop, length-take, map-append}
use Rattle.std.proofs.lemmas.List.Concat.{length-flat_map}
use Rattle.std.proofs.lemmas.List.Elements.{filter-append}
use Rattle.std.proofs.lemmas.List.Sums.{sum-map}
use Rattle.std.proofs.lemmas.Grind.{flat_map-append}
use Rattle.gb_defs.specs.Slot.{Slot}
use Rattle.gb_defs.specs.Slices.{between, or_one, places_in, shown_chunks, slice_end, slice_start}
use Rattle.gb_values.specs.Array.{filled_part}

-- ---- the front of two lists, and what is left of them

take_append : {A : Type 0} (n : ℕ) (xs ys : List A) → take n (xs ++ ys) ≡ take n xs ++ take (n - length xs) ys
take_append zero [] ys = refl
take_append zero (x ∷ xs) ys = let e : 0 - suc (length xs) ≡ 0 = omega arith in rw e refl
take_append (suc n) [] ys = let e : suc n ≡ suc n - 0 = omega arith in ap (λ m. take m ys) e
take_append (suc n) (x ∷ xs) ys =
    let e : suc n - suc (length xs) ≡ n - length xs = omega arith in rw e (ap (λ zs. x ∷ zs) (take_append n xs ys))

drop_append : {A : Type 0} (n : ℕ) (xs ys : List A) → drop n (xs ++ ys) ≡ drop n xs ++ drop (n - length xs) ys
drop_append zero [] ys = refl
drop_append zero (x ∷ xs) ys = let e : 0 - suc (length xs) ≡ 0 = omega arith in rw e refl
drop_append (suc n) [] ys = let e : suc n ≡ suc n - 0 = omega arith in ap (λ m. drop m ys) e
drop_append (suc n) (x ∷ xs) ys = let e : suc n - suc (length xs) ≡ n - length xs = omega arith in rw e (drop_append n xs ys)

take_nil : {A : Type 0} (n : ℕ) → take {A = A} n [] ≡ []
take_nil zero = refl
take_nil (suc n) = refl

pub between_append : {A : Type 0} (from to : ℕ) (xs ys : List A) → between from to (xs ++ ys) ≡ between from to xs ++ between (from - length xs) (to - length xs) ys
between_append from to xs ys =
    let e : (to - from) - length (drop from xs) ≡ (to - length xs) - (from - length xs) = omega (arith, length-drop from xs) in
    ap (take (to - from)) (drop_append from xs ys) ∙ take_append (to - from) (drop from xs) (drop (from - length xs) ys)
    ∙ ap (λ n. between from to xs ++ take n (drop (from - length xs) ys)) e

pub length-between : {A : Type 0} (from to : ℕ) (xs : List A) → length (between from to xs) ≡ min to (length xs) - from
length-between from to xs = omega (arith, length-take (to - from) (drop from xs), length-drop from xs)

between_nil : {A : Type 0} (from to : ℕ) → between {A = A} from to [] ≡ []
between_nil {A} from to = ap (take (to - from)) (drop_all from [] (omega arith)) ∙ take_nil {A = A} (to - from)

-- ---- the parts of chunks

-- the parts of the chunks from one place up to another, without the empty ones
abbrev pub parts : ℕ → ℕ → List (List Slot) → List (List Slot)
parts from to [] = []
parts from to (chunk ∷ chunks) = filled_part from to chunk ++ parts (from - length chunk) (to - length chunk) chunks

abbrev pub shown_parts : List (List Slot) → ℤ → ℕ → List (List Slot)
shown_parts chunks offset len =
    let count = length (flat_map (λ chunk. chunk) chunks) in parts (slice_start count offset) (slice_end count offset len) chunks

empty : {A : Type 0} (xs : List A) → nat_lt 0 (length xs) ≡ false → xs ≡ []
empty [] e = refl
empty (x ∷ xs) e = let some : nat_lt 0 (length (x ∷ xs)) ≡ true = grind (arith, nat_tests) in let never : true ≡ false = sym some ∙ e in cc

-- a list alone, unless it is empty
filled_slots : (b : Bool) (part : List Slot) → nat_lt 0 (length part) ≡ b → flat_map (λ chunk. chunk) (cond b (part ∷ []) []) ≡ part
filled_slots true part e = append-nil part
filled_slots false part e = sym (empty part e)

filled_lengths : (b : Bool) (part : List Slot) → map length (cond b (part ∷ []) []) ≡ cond b (length part ∷ []) []
filled_lengths true part = refl
filled_lengths false part = refl

pub parts_slots : (from to : ℕ) (chunks : List (List Slot)) → flat_map (λ chunk. chunk) (parts from to chunks) ≡ between from to (flat_map (λ chunk. chunk) chunks)
parts_slots from to [] = sym (between_nil from to)
parts_slots from to (chunk ∷ chunks) =
    let rest = parts (from - length chunk) (to - length chunk) chunks in
    let part = between from to chunk in
    flat_map-append (λ c. c) (filled_part from to chunk) rest ∙ ap (λ ss. ss ++ flat_map (λ c. c) rest) (filled_slots (nat_lt 0 (length part)) part refl)
    ∙ ap (λ ss. part ++ ss) (parts_slots (from - length chunk) (to - length chunk) chunks)
    ∙ sym (between_append from to chunk (flat_map (λ c. c) chunks))

pub parts_lengths : (start end at : ℕ) (chunks : List (List Slot)) → map length (parts (start - at) (end - at) chunks) ≡ filter (nat_lt 0) (places_in start end at (map length chunks))
parts_lengths start end at [] = refl
parts_lengths start end at (chunk ∷ chunks) =
    let n = length chunk in
    let part = between (start - at) (end - at) chunk in
    let here : length part ≡ min end (at + n) - max start at = omega (arith, length-between (start - at) (end - at) chunk) in
    let from : (start - at) - n ≡ start - (at + n) = omega arith in
    let to : (end - at) - n ≡ end - (at + n) = omega arith in
    let later = places_in start end (at + n) (map length chunks) in
    map-append length (filled_part (start - at) (end - at) chunk) (parts ((start - at) - n) ((end - at) - n) chunks)
    ∙ ap (λ ns. ns ++ map length (parts ((start - at) - n) ((end - at) - n) chunks)) (filled_lengths (nat_lt 0 (length part)) part ∙ ap (λ k. cond (nat_lt 0 k) (k ∷ []) []) here)
    ∙ ap (λ k. cond (nat_lt 0 (min end (at + n) - max start at)) ((min end (at + n) - max start at) ∷ []) [] ++ map length (parts k ((end - at) - n) chunks)) from
    ∙ ap (λ k. cond (nat_lt 0 (min end (at + n) - max start at)) ((min end (at + n) - max start at) ∷ []) [] ++ map length (parts (start - (at + n)) k chunks)) to
    ∙ ap (λ ns. cond (nat_lt 0 (min end (at + n) - max start at)) ((min end (at + n) - max start at) ∷ []) [] ++ ns) (parts_lengths start end (at + n) chunks)
    ∙ sym (filter-append (nat_lt 0) ((min end (at + n) - max start at) ∷ []) later)

-- the parts of all chunks, where only the last is left
pub parts_end : (done all earlier : List (List Slot)) (last : List Slot) (from to i : ℕ) → length earlier ≤ i → done ++ parts from to (drop i earlier ++ last ∷ []) ≡ all → done ++ filled_part from to last ≡ all
parts_end done all earlier last from to i le so_far =
    ap (λ ps. done ++ ps) (sym (append-nil (filled_part from to last))) ∙ ap (λ es. done ++ parts from to (es ++ last ∷ [])) (sym (drop_all i earlier le)) ∙ so_far

-- ---- what a slice shows

map_or_one : {A B : Type 0} (f : A → B) (x : A) (xs : List A) → map f (or_one x xs) ≡ or_one (f x) (map f xs)
map_or_one f x [] = refl
map_or_one f x (y ∷ ys) = refl

slots_or_one : (chunks : List (List Slot)) → flat_map (λ chunk. chunk) (or_one [] chunks) ≡ flat_map (λ chunk. chunk) chunks
slots_or_one [] = refl
slots_or_one (chunk ∷ chunks) = refl

pub lengths_sum : (chunks : List (List Slot)) → sum (map length chunks) ≡ length (flat_map (λ chunk. chunk) chunks)
lengths_sum chunks = sum-map length chunks ∙ sym (length-flat_map (λ chunk. chunk) chunks)

module _ (chunks : List (List Slot)) (offset : ℤ) (len : ℕ) where
  abbrev count : ℕ
  count = length (flat_map (λ chunk. chunk) chunks)

  abbrev start : ℕ
  start = slice_start count offset

  abbrev end : ℕ
  end = slice_end count offset len

  pub shown_slots : flat_map (λ chunk. chunk) (or_one [] (shown_parts chunks offset len)) ≡ between start end (flat_map (λ chunk. chunk) chunks)
  shown_slots = slots_or_one (shown_parts chunks offset len) ∙ parts_slots start end chunks

  pub shown_lengths : map length (or_one [] (shown_parts chunks offset len)) ≡ shown_chunks (map length chunks) offset len
  shown_lengths =
      let from : start ≡ start - 0 = omega arith in
      let to : end ≡ end - 0 = omega arith in
      map_or_one length [] (shown_parts chunks offset len)
      ∙ ap (λ k. or_one 0 (map length (parts k end chunks))) from ∙ ap (λ k. or_one 0 (map length (parts (start - 0) k chunks))) to
      ∙ ap (or_one 0) (parts_lengths start end 0 chunks)
      ∙ ap (λ n. or_one 0 (filter (nat_lt 0) (places_in (slice_start n offset) (slice_end n offset len) 0 (map length chunks)))) (sym (lengths_sum chunks))
