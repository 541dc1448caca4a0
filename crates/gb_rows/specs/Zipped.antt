-- Rows that take an item each, from a row on.
use Rattle.std.specs.Prelude.{◌≡◌, ℕ, zero, suc, ◌+◌, ◌<◌, ◌≤◌, List, [], ◌∷◌, ◌++◌, take, drop, set, get_or, length, refl}
use Rattle.std.proofs.Common.{◌∙◌, add-one, ap, arith, append_assoc, sym}
use Rattle.std.proofs.lemmas.List.{drop_all}

-- what rows come to where each of the first takes an item. Items for which there is no row are left out
abbrev pub zip_onto : {A S : Type 0} → (A → S → S) → List A → List S → List S
zip_onto f [] rows = rows
zip_onto f (x ∷ xs) [] = []
zip_onto f (x ∷ xs) (row ∷ rows) = f x row ∷ zip_onto f xs rows

-- rows took items from the next one on, and those behind them are next: whatever more they take, they come
-- to what they came to where it stood behind these items
pub record IsZipped {A S : Type 0} (f : A → S → S) (items : List A) (before : List S) (next : ℕ) (after : List S) (then : ℕ) : Type 0 where
  pub zipped : (more : List A) → take then after ++ zip_onto f more (drop then after) ≡ take next before ++ zip_onto f (items ++ more) (drop next before)

module _ {A S : Type 0} (f : A → S → S) where
  pub zipped_none : (rows : List S) (next : ℕ) → IsZipped f [] rows next rows next
  zipped_none rows next = record { zipped = λ more. refl }

  pub zipped_more : (front back : List A) (a : List S) (i : ℕ) (b : List S) (j : ℕ) (c : List S) (k : ℕ) → IsZipped f front a i b j → IsZipped f back b j c k → IsZipped f (front ++ back) a i c k
  zipped_more front back a i b j c k x y =
      record { zipped = λ more. y.zipped more ∙ x.zipped (back ++ more) ∙ ap (λ l. take i a ++ zip_onto f l (drop i a)) (sym (append_assoc front back more)) }

  zip_none : (items : List A) → zip_onto f items [] ≡ []
  zip_none [] = refl
  zip_none (x ∷ xs) = refl

  -- no row is left
  pub zipped_past : (x : A) (rows : List S) (k : ℕ) → length rows ≤ k → IsZipped f (x ∷ []) rows k rows k
  zipped_past x rows k h = record { zipped = λ more. let e : drop k rows ≡ [] = search (drop_all, arith) in rw (e, zip_none more) refl }

  zip_at : (x : A) (rows : List S) (k : ℕ) (d : S) → k < length rows → (more : List A)
      → take (suc k) (set rows k (f x (get_or rows k d))) ++ zip_onto f more (drop (suc k) (set rows k (f x (get_or rows k d)))) ≡ take k rows ++ zip_onto f (x ∷ more) (drop k rows)
  zip_at x [] k d h more = absurd (omega (arith, h))
  zip_at x (row ∷ rows) zero d h more = refl
  zip_at x (row ∷ rows) (suc k) d h more = ap (λ l. row ∷ l) (zip_at x rows k d (omega (arith, h)) more)

  -- the next row takes an item
  pub zipped_one : (x : A) (rows : List S) (k : ℕ) (d new : S) → k < length rows → new ≡ f x (get_or rows k d) → IsZipped f (x ∷ []) rows k (set rows k new) (k + 1)
  zipped_one x rows k d new h e = record { zipped = λ more. rw (add-one, e) (zip_at x rows k d h more) }
