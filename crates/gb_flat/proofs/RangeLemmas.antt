-- Ranges of numbers, and what is made of each range of a list, joined.
use Rattle.std.proofs.Common.{◌≡◌, ℕ, ◌+◌, ◌-◌, ◌<◌, ◌≤◌, zero, suc, Bool, List, [], ◌∷◌, ◌++◌, length, get_or, map, filter, take, drop, All, refl, sym, ◌∙◌, ap, subst, arith}
use Rattle.std.specs.List.{flat_map, range_with_len}
use Rattle.std.proofs.lemmas.List.{get_or-map, length-map, map-id}
use Rattle.std.proofs.lemmas.List.Concat.{flat_map-cons}
use Rattle.std.proofs.lemmas.List.Elements.{All-append, filter-append}
use Rattle.std.proofs.lemmas.List.Folds.{flat_map-map}
use Rattle.std.proofs.lemmas.List.FromFn.{fill_by_all, get_or-map-range_with_len, length-map-range_with_len, length-range_with_len, map-range_with_len_more, take-map-range_with_len}
use Rattle.gb_defs.specs.Flat.{range_at}
use Rattle.gb_flat.proofs.ShareLemmas.{range_inside, shares_joined}

-- ---- some numbers of those from a on

take_range : (a n c : ℕ) → c ≤ n → take c (range_with_len a n) ≡ range_with_len a c
take_range a n c le = ap (take c) (sym (map-id (range_with_len a n))) ∙ take-map-range_with_len (λ x. x) a n c le ∙ map-id (range_with_len a c)

drop_range : (a n s : ℕ) → s ≤ n → drop s (range_with_len a n) ≡ range_with_len (a + s) (n - s)
drop_range a n zero le =
    let same : a + 0 ≡ a = omega arith in
    let all : n - 0 ≡ n = omega arith in
    rw (same, all) refl
drop_range a zero (suc s) le = absurd (omega (arith, le))
drop_range a (suc n) (suc s) le =
    let next : a + suc s ≡ a + 1 + s = omega arith in
    let fewer : suc n - suc s ≡ n - s = omega arith in
    rw (next, fewer) (drop_range (a + 1) n s (omega (arith, le)))

pub range_between : (n s c : ℕ) → s + c ≤ n → take c (drop s (range_with_len 0 n)) ≡ range_with_len s c
range_between n s c inside =
    let from : 0 + s ≡ s = omega arith in
    ap (take c) (drop_range 0 n s (omega (arith, inside)) ∙ ap (λ a. range_with_len a (n - s)) from) ∙ take_range s (n - s) c (omega (arith, inside))

-- one number more
pub range_more : (a n : ℕ) → range_with_len a (n + 1) ≡ range_with_len a n ++ (a + n) ∷ []
range_more a n = sym (map-id (range_with_len a (n + 1))) ∙ map-range_with_len_more (λ x. x) a n (a + n) refl ∙ ap (λ xs. xs ++ (a + n) ∷ []) (map-id (range_with_len a n))

-- what is made of each range of numbers, joined
pub ranges_joined : {A Y : Type 0} (h : A → List Y) (f : ℕ → Y) (n m : ℕ) (made : List A) → 1 ≤ m → length made ≡ m →
    ((k : ℕ) (d : A) → k < m → h (get_or made k d) ≡ map f (range_with_len (range_at n m k).0 (range_at n m k).1)) → flat_map h made ≡ map f (range_with_len 0 n)
ranges_joined h f n m made some long each = shares_joined h f (range_with_len 0 n) m made some long (λ k d lt.
    each k d lt ∙ ap (map f) (sym (range_between n (range_at n m k).0 (range_at n m k).1 (range_inside n m k lt)))
    ∙ ap (λ l. map f (take (range_at l m k).1 (drop (range_at l m k).0 (range_with_len 0 n)))) (sym (length-range_with_len 0 n)))

-- ---- shares of a list, one after another

filter_flat_map : {A X : Type 0} (test : X → Bool) (h : A → List X) (xs : List A) → filter test (flat_map h xs) ≡ flat_map (λ x. filter test (h x)) xs
filter_flat_map test h [] = refl
filter_flat_map test h (x ∷ xs) =
    ap (filter test) (flat_map-cons h x xs) ∙ filter-append test (h x) (flat_map h xs) ∙ ap (λ ys. filter test (h x) ++ ys) (filter_flat_map test h xs)
    ∙ sym (flat_map-cons (λ x. filter test (h x)) x xs)

hold_from : {X : Type 0} (P : X → Type 0) (h : ℕ → List X) (a n : ℕ) → ((k : ℕ) → k < a + n → All P (h k)) → All P (flat_map h (range_with_len a n))
hold_from P h a zero each = λ k d lt. absurd (omega (arith, lt))
hold_from P h a (suc n) each =
    rw (flat_map-cons h a (range_with_len (a + 1) n)) (All-append P (h a) _ (each a (omega arith)) (hold_from P h (a + 1) n (λ k lt. each k (omega (arith, lt)))))

module _ {X : Type 0} (xs : List X) (m : ℕ) (some : 1 ≤ m) where
  abbrev share_at : ℕ → List X
  share_at k = take (range_at (length xs) m k).1 (drop (range_at (length xs) m k).0 xs)

  shares_all : flat_map share_at (range_with_len 0 m) ≡ xs
  shares_all =
      sym (flat_map-map (λ s. s) share_at (range_with_len 0 m))
      ∙ shares_joined (λ s. s) (λ x. x) xs m (map share_at (range_with_len 0 m)) some (length-map-range_with_len share_at 0 m) (λ k d lt.
      get_or-map-range_with_len share_at 0 m k k d lt (omega arith) ∙ sym (map-id (share_at k)))
      ∙ map-id xs

  -- what holds in each share holds in all
  pub shares_hold : (P : X → Type 0) → ((k : ℕ) → k < m → All P (share_at k)) → All P xs
  shares_hold P each = subst (All P) shares_all (hold_from P share_at 0 m (λ k lt. each k (omega (arith, lt))))

  -- what passes a test in each share, joined
  pub filtered_joined : {A : Type 0} (h : A → List X) (test : X → Bool) (made : List A) → length made ≡ m →
      ((k : ℕ) (d : A) → k < m → h (get_or made k d) ≡ filter test (share_at k)) → flat_map h made ≡ filter test xs
  filtered_joined h test [] long each = absurd (omega (arith, some, long))
  filtered_joined h test (a ∷ made) long each =
      let passing : ℕ → List X = λ k. filter test (share_at k) in
      let same : map h (a ∷ made) ≡ map passing (range_with_len 0 m) = fill_by_all passing (map h (a ∷ made)) m [] (length-map (a ∷ made) h ∙ long) (λ k lt.
      get_or-map h (a ∷ made) k a [] (omega (arith, lt, long)) ∙ each k a lt) in
      sym (flat_map-map (λ s. s) h (a ∷ made)) ∙ ap (flat_map (λ s. s)) same ∙ flat_map-map (λ s. s) passing (range_with_len 0 m)
      ∙ sym (filter_flat_map test share_at (range_with_len 0 m)) ∙ ap (filter test) shares_all

-- what passes a test in each range of numbers, joined
pub ranges_filtered : {A : Type 0} (h : A → List ℕ) (test : ℕ → Bool) (n m : ℕ) (made : List A) → 1 ≤ m → length made ≡ m →
    ((k : ℕ) (d : A) → k < m → h (get_or made k d) ≡ filter test (range_with_len (range_at n m k).0 (range_at n m k).1)) → flat_map h made ≡ filter test (range_with_len 0 n)
ranges_filtered h test n m made some long each = filtered_joined (range_with_len 0 n) m some h test made long (λ k d lt.
    each k d lt ∙ ap (filter test) (sym (range_between n (range_at n m k).0 (range_at n m k).1 (range_inside n m k lt)))
    ∙ ap (λ l. filter test (take (range_at l m k).1 (drop (range_at l m k).0 (range_with_len 0 n)))) (sym (length-range_with_len 0 n)))
