-- Hashes that are put to others at their places.
use Rattle.std.proofs.Common.{◌≡◌, ◌∙◌, ℕ, zero, suc, ◌+◌, ◌-◌, ◌<◌, ◌≤◌, List, [], ◌∷◌, ◌++◌, length, get_or, take, drop, set, refl, sym, ap, add-one, arith}
use Rattle.std.proofs.lemmas.List.{append-nil, drop_all, take_all}
use borrow.Rule.Slice.PartMut.{put_mid}
use Rattle.gb_row_hash.specs.Hashes.{combine_each}

module _ (f : ℕ → ℕ → ℕ) where
  pub combine_length : (hs rs : List ℕ) → length (combine_each f hs rs) ≡ length rs
  combine_length [] rs = refl
  combine_length (h ∷ hs) [] = refl
  combine_length (h ∷ hs) (r ∷ rs) = ap (λ n. suc n) (combine_length hs rs)

  combine_none : (hs : List ℕ) → combine_each f hs [] ≡ []
  combine_none [] = refl
  combine_none (h ∷ hs) = refl

  -- hashes behind hashes are put to what is behind those that were put before
  combine_behind : (xs ys rs : List ℕ) → combine_each f (xs ++ ys) rs ≡ take (length xs) (combine_each f xs rs) ++ combine_each f ys (drop (length xs) (combine_each f xs rs))
  combine_behind [] ys rs = refl
  combine_behind (x ∷ xs) ys [] = sym (combine_none ys)
  combine_behind (x ∷ xs) ys (r ∷ rs) = ap (λ l. f x r ∷ l) (combine_behind xs ys rs)

  -- only as many are changed as there are hashes
  combine_front : (hs rs : List ℕ) → combine_each f hs rs ≡ combine_each f hs (take (length hs) rs) ++ drop (length hs) rs
  combine_front [] rs = refl
  combine_front (h ∷ hs) [] = refl
  combine_front (h ∷ hs) (r ∷ rs) = ap (λ l. f h r ∷ l) (combine_front hs rs)

  -- the hashes of a part more, put to those of its places
  pub combine_more : (xs ys rs now new : List ℕ) (start end : ℕ) → now ≡ combine_each f xs rs → start ≡ length xs → end ≡ start + length ys
      → new ≡ combine_each f ys (take (end - start) (drop start now)) → put_mid start (end - start) now new ≡ combine_each f (xs ++ ys) rs
  combine_more xs ys rs now new start end so_far at long made =
      let count : end - start ≡ length ys = omega (arith, long) in
      let whole : combine_each f (xs ++ ys) rs ≡ take start now ++ combine_each f ys (drop start now) = rw (so_far, at) (combine_behind xs ys rs) in
      let here : new ≡ combine_each f ys (take (length ys) (drop start now)) = made ∙ ap (λ n. combine_each f ys (take n (drop start now))) count in
      let rest : new ++ drop (end - start) (drop start now) ≡ combine_each f ys (drop start now) = rw (here, count) (sym (combine_front ys (drop start now))) in
      ap (λ l. take start now ++ l) rest ∙ sym whole

  combine_next : (hs rs : List ℕ) (i d new : ℕ) → i < length hs → i < length rs → new ≡ f (get_or hs i d) (get_or rs i d)
      → take (suc i) (set rs i new) ++ combine_each f (drop (suc i) hs) (drop (suc i) (set rs i new)) ≡ take i rs ++ combine_each f (drop i hs) (drop i rs)
  combine_next [] rs i d new low inside is = absurd (omega (arith, low))
  combine_next (h ∷ hs) [] i d new low inside is = absurd (omega (arith, inside))
  combine_next (h ∷ hs) (r ∷ rs) zero d new low inside is = ap (λ n. n ∷ combine_each f hs rs) is
  combine_next (h ∷ hs) (r ∷ rs) (suc i) d new low inside is = ap (λ l. r ∷ l) (combine_next hs rs i d new (omega (arith, low)) (omega (arith, inside)) is)

  -- one hash more: with those that are left the hashes come to the same
  pub combine_one : (hs rs : List ℕ) (i new : ℕ) → i < length hs → i < length rs → new ≡ f (get_or hs i 0) (get_or rs i 0)
      → take (i + 1) (set rs i new) ++ combine_each f (drop (i + 1) hs) (drop (i + 1) (set rs i new)) ≡ take i rs ++ combine_each f (drop i hs) (drop i rs)
  combine_one hs rs i new low inside is = rw add-one (combine_next hs rs i 0 new low inside is)

  -- and none is left
  pub combine_done : (hs rs : List ℕ) (i : ℕ) → length rs ≤ i → take i rs ++ combine_each f (drop i hs) (drop i rs) ≡ rs
  combine_done hs rs i all =
      ap (λ l. take i rs ++ combine_each f (drop i hs) l) (drop_all i rs all) ∙ ap (λ l. take i rs ++ l) (combine_none (drop i hs)) ∙ append-nil (take i rs) ∙ take_all i rs all
