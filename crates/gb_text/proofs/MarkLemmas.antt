-- Marks of the bytes in front of a text that may end a cell.
use Rattle.std.proofs.Common.{◌≡◌, ◌∙◌, ℕ, zero, suc, inl, inr, ◌+◌, ◌-◌, ◌*◌, ◌/◌, ◌^◌, ◌<◌, Bool, not, leb, List, [], ◌∷◌, ap, arith, drop, get_or, length, map, refl, sym, take}
use lib.Count.{count_trailing_zeros}
use Rattle.std.specs.List.{prefix_len}
use Rattle.std.specs.Simd.Lanes.{mask_l}
use Rattle.std.proofs.lemmas.Bool.{cases_Bool, leb-false}
use Rattle.std.proofs.lemmas.List.{drop-take, length-drop, length-take-le}
use Rattle.std.proofs.lemmas.Nat.{shr-shr, shr_high, shr_le}
use Rattle.std.proofs.lemmas.Simd.{run_in_chunk_fails, trailing_mask_l}
use Rattle.gb_text.specs.Plain.{IsMarked}

abbrev pub may_end : ℕ → Bool
may_end b = leb b 44

-- ---- a mask without its lowest bits

module _ {X : Type 0} (p : X → Bool) where
  halved : (x : X) (xs : List X) → mask_l (map p (x ∷ xs)) / 2 ^ 1 ≡ mask_l (map p xs)
  halved x xs =
      let m = mask_l (map p xs) in
      elim (cases_Bool (p x)) [
        | inl e ↦ rw e (let is : 1 + 2 * m ≡ m * 2 ^ 1 + 1 = omega arith in ap (λ n. n / 2 ^ 1) is ∙ shr_high m 1 1 (omega arith))
        | inr e ↦ rw e (let is : 0 + 2 * m ≡ m * 2 ^ 1 + 0 = omega arith in ap (λ n. n / 2 ^ 1) is ∙ shr_high m 1 0 (omega arith))
      ]

  pub dropped : (k : ℕ) (xs : List X) → mask_l (map p xs) / 2 ^ k ≡ mask_l (map p (drop k xs))
  dropped zero xs =
      let m = mask_l (map p xs) in
      let is : m ≡ m * 2 ^ 0 + 0 = omega arith in
      ap (λ n. n / 2 ^ 0) is ∙ shr_high m 0 0 (omega arith)
  dropped (suc k) [] = omega (arith, shr_le 0 (suc k))
  dropped (suc k) (x ∷ xs) =
      let one : suc k ≡ 1 + k = omega arith in
      ap (λ j. mask_l (map p (x ∷ xs)) / 2 ^ j) one ∙ sym (shr-shr (mask_l (map p (x ∷ xs))) 1 k) ∙ ap (λ m. m / 2 ^ k) (halved x xs) ∙ dropped k xs

  -- where a bit is set, some lane passes
  first_below : (xs : List X) → 0 < mask_l (map p xs) → prefix_len (λ x. not (p x)) xs < length xs
  first_below [] some = absurd (omega (arith, some))
  first_below (x ∷ xs) some = elim (cases_Bool (p x)) [
    | inl e ↦ rw e (omega arith)
    | inr e ↦
        let later : 0 < 0 + 2 * mask_l (map p xs) = rw e at some in
        rw e (omega (arith, first_below xs (omega (arith, later))))
  ]

-- ---- the first mark

pub no_marks : (text : List ℕ) → IsMarked text 0
no_marks text = record { count = 0; few = omega arith; within = omega arith; are = refl }

module _ (text : List ℕ) (marks : ℕ) (m : IsMarked text marks) (some : 0 < marks) where
  abbrev place : ℕ
  place = count_trailing_zeros 64 marks

  long : length (take m.count text) ≡ m.count
  long = length-take-le m.count text m.within

  set : 0 < mask_l (map may_end (take m.count text))
  set = rw m.are at some

  counted : place ≡ prefix_len (λ b. not (may_end b)) (take m.count text)
  counted = ap (count_trailing_zeros 64) m.are ∙ trailing_mask_l may_end 64 (take m.count text) (omega (arith, m.few, long)) set

  place_below : place < m.count
  place_below = omega (arith, first_below may_end (take m.count text) set, counted, long)

  pub place_inside : place < length text
  place_inside = omega (arith, place_below, m.within)

  pub place_few : place < 64
  place_few = omega (arith, place_below, m.few)

  pub place_high : (k : ℕ) → k < place → 44 < get_or text k 0
  place_high k lt = leb-false (get_or text k 0) 44 (run_in_chunk_fails may_end text 0 m.count _ 0 (omega (arith, m.within)) counted k (omega arith) (omega (arith, lt)))

  -- the marks behind it
  pub marked_rest : IsMarked (drop (place + 1) text) (marks / 2 ^ place / 2 ^ 1)
  marked_rest =
      let rest = m.count - (place + 1) in
      let split : m.count ≡ place + 1 + rest = omega (arith, place_below) in
      record {
        count = rest;
        few = omega (arith, m.few);
        within = omega (arith, m.within, length-drop (place + 1) text, place_below);
        are =
            shr-shr marks place 1 ∙ ap (λ n. n / 2 ^ (place + 1)) m.are ∙ dropped may_end (place + 1) (take m.count text)
            ∙ ap (λ n. mask_l (map may_end (drop (place + 1) (take n text)))) split ∙ ap (λ xs. mask_l (map may_end xs)) (drop-take (place + 1) rest text);
      }
