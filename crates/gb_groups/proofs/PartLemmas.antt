-- Parts that are joined one after the other.
use Rattle.std.proofs.Common.{◌≡◌, ◌+◌, ℕ, ◌<◌, ◌≤◌, List, [], ◌∷◌, ◌++◌, length, get_or, take, drop, map, sym, ◌∙◌, ap, ap₂, arith}
use Rattle.std.specs.List.{flat_map}
use Rattle.std.proofs.lemmas.List.{drop_more, flat_map_more, length-append, length-map, map-append, map-id, take_more, take-append-drop}
use Rattle.std.proofs.lemmas.List.Concat.{flat_map-append}
use Rattle.std.proofs.lemmas.Slice.{take-put_mid}
use borrow.Rule.Slice.PartMut.{put_mid}

module _ {P A : Type 0} (items_of : P → List A) where
  -- a part and those before it are no more than all
  pub joined_room : (parts before : List P) (part : P) → map (λ (p : P). p) before ≡ take (length before) parts → length before < length parts → part ≡ get_or parts (length before) part → length (flat_map items_of before) + length (items_of part) ≤ length (flat_map items_of parts)
  joined_room parts before part so_far lt is =
      let n = length before in
      let rest = drop (n + 1) parts in
      let head : flat_map items_of (take n parts) ≡ flat_map items_of before = ap (flat_map items_of) (sym so_far ∙ map-id before) in
      let tail : flat_map items_of (drop n parts) ≡ items_of part ++ flat_map items_of rest = ap (flat_map items_of) (drop_more parts n part lt) ∙ ap (λ p. items_of p ++ flat_map items_of rest) (sym is) in
      let whole : flat_map items_of (take n parts) ++ flat_map items_of (drop n parts) ≡ flat_map items_of parts = sym (flat_map-append items_of (take n parts) (drop n parts)) ∙ ap (flat_map items_of) (take-append-drop n parts) in
      let long : length (flat_map items_of before) + (length (items_of part) + length (flat_map items_of rest)) ≡ length (flat_map items_of parts) =
      sym (length-append (flat_map items_of before) (items_of part ++ flat_map items_of rest) ∙ ap (λ k. length (flat_map items_of before) + k) (length-append (items_of part) (flat_map items_of rest))) ∙ rw (head, tail) at (ap length whole) in
      omega (arith, long)

-- what a function gives of the items of one part more, written behind that of those before it
pub written_more : {P A B : Type 0} (items_of : P → List A) (of : A → B) (parts : List P) (i : ℕ) (part d : P) (room written : List B) (at k n : ℕ)
    → i < length parts → part ≡ get_or parts i d → at ≤ length room → n ≡ length (items_of part)
    → take at room ≡ map of (flat_map items_of (take i parts)) → written ≡ map of (items_of part)
    → take (at + n) (put_mid at k room written) ≡ map of (flat_map items_of (take (i + 1) parts))
written_more items_of of parts i part d room written at k n inside is fits long so_far adds =
    let before = flat_map items_of (take i parts) in
    let count : n ≡ length written = long ∙ sym (ap length adds ∙ length-map (items_of part) of) in
    let more : take (i + 1) parts ≡ take i parts ++ part ∷ [] = take_more parts i d inside ∙ ap (λ p. take i parts ++ p ∷ []) (sym is) in
    let joined : before ++ items_of part ≡ flat_map items_of (take (i + 1) parts) = flat_map_more items_of [] (take i parts) part ∙ ap (flat_map items_of) (sym more) in
    take-put_mid at k room written (at + n) (ap (λ m. at + m) count) fits ∙ (ap₂ ◌++◌ so_far adds ∙ (sym (map-append of before (items_of part)) ∙ ap (map of) joined))
