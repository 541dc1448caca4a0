-- Buffers that are dealt to workers, and the parts of a slice that they fill.
use Rattle.std.proofs.Common.{◌≡◌, ◌∙◌, ℕ, zero, suc, ◌+◌, ◌-◌, ◌*◌, ◌/◌, ◌<◌, ◌≤◌, ◌==◌, false, List, [], ◌∷◌, ◌++◌, length, map, take, drop, slice_index_or, refl, sym, ap, subst, add-one, arith}
use Rattle.std.proofs.lemmas.Bool.Decides.{nat_tests}
use Rattle.std.proofs.lemmas.List.{take-append-drop, drop_at, length-take-le, length-map, length-drop}
use Rattle.std.proofs.lemmas.List.Sums.{sum_by-take-drop}
use Rattle.std.proofs.lemmas.Nat.{le-div}
use Rattle.std.proofs.Math.Nat.{suc-mul, zero-mul}
use Rattle.std.specs.List.{range_with_len, sum_by}
use Rattle.gb_defs.specs.Flat.{range_at, ranges_of, starts_from}
use Rattle.gb_flat.specs.Shares.{DealsOut}
use Rattle.gb_flat.proofs.OffsetLemmas.{starts-append, ranges_within, range_before_last, range_last}

-- ---- starts

length-starts_from : (start : ℕ) (lengths : List ℕ) → length (starts_from start lengths) ≡ length lengths
length-starts_from start [] = refl
length-starts_from start (n ∷ lengths) = ap (λ k. suc k) (length-starts_from (start + n) lengths)

pub first_start : (start : ℕ) (lengths : List ℕ) → 0 < length lengths → slice_index_or (starts_from start lengths) 0 0 ≡ start
first_start start [] some = absurd (omega arith)
first_start start (n ∷ lengths) some = refl

starts-drop : {X : Type 0} (f : X → ℕ) (start : ℕ) (xs : List X) (n : ℕ) → n ≤ length xs → drop n (starts_from start (map f xs)) ≡ starts_from (start + sum_by f (take n xs)) (map f (drop n xs))
starts-drop f start xs n within =
    let parts : starts_from start (map f xs) ≡ starts_from start (map f (take n xs)) ++ starts_from (start + sum_by f (take n xs)) (map f (drop n xs)) =
    ap (λ ys. starts_from start (map f ys)) (sym (take-append-drop n xs)) ∙ starts-append f start (take n xs) (drop n xs)
    in
    let front : length (starts_from start (map f (take n xs))) ≡ n = length-starts_from start (map f (take n xs)) ∙ (length-map (take n xs) f ∙ length-take-le n xs within) in
    ap (λ ys. drop n ys) parts ∙ drop_at (starts_from start (map f (take n xs))) (starts_from (start + sum_by f (take n xs)) (map f (drop n xs))) n front

-- ---- shares

share_inside : (shares later : List (ℕ × ℕ)) (share : ℕ × ℕ) (count : ℕ) → shares ≡ share ∷ later → 0 < length later → DealsOut shares count → share.1 < count
share_inside shares [] share count is some deals = absurd (omega arith)
share_inside shares (next ∷ later) share count is some deals =
    let all : DealsOut (share ∷ next ∷ later) count = subst (λ (ss : List (ℕ × ℕ)). DealsOut ss count) is deals in
    let some_next : 0 < next.1 = all.2.0 in
    let within : next.1 ≤ count - share.1 = all.2.1 in
    omega arith

later_dealt : (shares later : List (ℕ × ℕ)) (share : ℕ × ℕ) (count : ℕ) → shares ≡ share ∷ later → DealsOut shares count → DealsOut later (count - share.1)
later_dealt shares later share count is deals =
    let all : DealsOut (share ∷ later) count = subst (λ (ss : List (ℕ × ℕ)). DealsOut ss count) is deals in
    all.2

-- what is known where the buffers of the first share are cut off
pub record IsCut {X : Type 0} (f : X → ℕ) (base : ℕ) (starts starts' : List ℕ) (xs mine others : List X) (share : ℕ × ℕ) (later : List (ℕ × ℕ)) : Type 0 where
  pub inside : share.1 < length starts
  pub some : 0 < length starts'
  pub next : slice_index_or starts' 0 0 ≡ base + sum_by f mine
  pub starts_are : starts' ≡ starts_from (slice_index_or starts' 0 0) (map f others)
  pub total : sum_by f xs ≡ sum_by f mine + sum_by f others
  pub dealt : DealsOut later (length others)

pub is_cut : {X : Type 0} {f : X → ℕ} {base : ℕ} {starts starts' : List ℕ} {xs mine others : List X} {shares later : List (ℕ × ℕ)} {share : ℕ × ℕ}
    → shares ≡ share ∷ later → false ≡ (length later == 0) → DealsOut shares (length xs) → starts ≡ starts_from base (map f xs)
    → starts' ≡ drop share.1 starts → mine ≡ take share.1 xs → others ≡ drop share.1 xs → IsCut f base starts starts' xs mine others share later
is_cut {X} {f} {base} {starts} {starts'} {xs} {mine} {others} {shares} {later} {share} first not_last deals begin left mine_is others_are =
    let some_later : 0 < length later = grind (arith, nat_tests) in
    let inside : share.1 < length xs = share_inside shares later share (length xs) first some_later deals in
    let after : starts' ≡ starts_from (base + sum_by f mine) (map f others) = rw (left, begin, mine_is, others_are) (starts-drop f base xs share.1 (omega arith)) in
    let count : length xs - share.1 ≡ length others = rw (others_are, length-drop share.1 xs) refl in
    let some_left : 0 < length (map f others) = rw (length-map others f) (omega arith) in
    let next : slice_index_or starts' 0 0 ≡ base + sum_by f mine = rw after (first_start (base + sum_by f mine) (map f others) some_left) in
    record {
      inside = rw (begin, length-starts_from base (map f xs), length-map xs f) inside;
      some = rw (after, length-starts_from (base + sum_by f mine) (map f others)) some_left;
      next = next;
      starts_are = after ∙ ap (λ s. starts_from s (map f others)) (sym next);
      total = rw (mine_is, others_are) (sym (sum_by-take-drop f xs share.1));
      dealt = subst (λ (k : ℕ). DealsOut later k) count (later_dealt shares later share (length xs) first deals);
    }

ranges_dealt : (n m k j : ℕ) → 0 < n / m → m ≤ n → k + suc j ≡ m → DealsOut (map (range_at n m) (range_with_len k (suc j))) (n - k * (n / m))
ranges_dealt n m k zero some few all =
    let within : (k + 1) * (n / m) ≤ n = ranges_within n m (k + 1) (omega arith) (omega arith) in
    let is = range_last n m k (omega arith) in
    let more : (k + 1) * (n / m) ≡ k * (n / m) + n / m = rw add-one (suc-mul k (n / m)) in
    let left : k * (n / m) < n = omega arith in
    subst (λ (r : ℕ × ℕ). DealsOut (r ∷ []) (n - k * (n / m))) (sym is) (omega arith, omega arith, omega arith)
ranges_dealt n m k (suc j) some few all =
    let within : (k + 1) * (n / m) ≤ n = ranges_within n m (k + 1) (omega arith) (omega arith) in
    let is = range_before_last n m k (omega arith) in
    let more : (k + 1) * (n / m) ≡ k * (n / m) + n / m = rw add-one (suc-mul k (n / m)) in
    let later : DealsOut (map (range_at n m) (range_with_len (k + 1) (suc j))) (n - (k + 1) * (n / m)) = ranges_dealt n m (k + 1) j some few (omega arith) in
    let count : n - (k + 1) * (n / m) ≡ (n - k * (n / m)) - n / m = rw more (omega arith) in
    let rest : DealsOut (map (range_at n m) (range_with_len (k + 1) (suc j))) ((n - k * (n / m)) - n / m) = subst (λ (c : ℕ). DealsOut (map (range_at n m) (range_with_len (k + 1) (suc j))) c) count later in
    subst (λ (r : ℕ × ℕ). DealsOut (r ∷ map (range_at n m) (range_with_len (k + 1) (suc j))) (n - k * (n / m))) (sym is) (some, omega arith, rest)

pub ranges_deal : (n m : ℕ) → 0 < m → m ≤ n → DealsOut (ranges_of n m) n
ranges_deal n zero some few = absurd (omega arith)
ranges_deal n (suc m) some few =
    let some_each : 0 < n / suc m = le-div 1 n (suc m) some (omega arith) in
    let none_before : n - 0 * (n / suc m) ≡ n = rw zero-mul (omega arith) in
    subst (λ (c : ℕ). DealsOut (ranges_of n (suc m)) c) none_before (ranges_dealt n (suc m) 0 m some_each few (omega arith))
