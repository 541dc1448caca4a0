-- The runs of rows whose equal slots stand together are their groups.
use Rattle.std.proofs.Common.{◌≡◌, ◌∙◌, ℕ, zero, suc, ◌+◌, ◌-◌, ◌<◌, ◌≤◌, ◌^◌, Bool, true, false, not, cond, ◌&&◌, ◌++◌, inl, inr, nat_lt, List, [], ◌∷◌, length, map, filter, get_or, refl, sym, ap, subst, arith}
use Rattle.std.specs.List.{list_any, range_with_len}
use Rattle.std.specs.List.Sorted.{IsNonDecreasing}
use Rattle.std.proofs.lemmas.Bool.{cases_Bool, cases_eq, cases_lt, le-ltb, lt-ltb, ltb-true, true≢false}
use Rattle.std.proofs.lemmas.List.{get_or-map, length-map}
use Rattle.std.proofs.lemmas.List.Elements.{All-map, filter-append}
use Rattle.std.proofs.lemmas.List.FromFn.{fill_by_all, get_or-range_with_len, length-range_with_len}
use Rattle.std.proofs.lemmas.Simd.{map-map}
use Rattle.gb_defs.specs.Classes.{class, firsts, groups, is_first, rows_below}
use Rattle.gb_defs.specs.Groups.{Slice}
use Rattle.gb_defs.specs.Path.{run_groups}
use Rattle.gb_defs.specs.Rows.{Rows, same_slot_at}
use Rattle.gb_defs.proofs.ClassesLemmas.{filter_agree_on, all_from_below, firsts_ascend, firsts_below, rows_below_all}
use Rattle.gb_defs.proofs.SlotLemmas.{slot_eq_equiv}
use Rattle.gb_flat.proofs.RangeLemmas.{range_more}
use Rattle.gb_groups.specs.Slices.{SlicesFit, length_of, slice_groups, slice_pair, slice_pairs, start_of}
use Rattle.gb_runs.specs.Runs.{AreStarts, StandTogether, begins_run, run_at, run_starts, runs_to, starts_in}

-- ---- numbers that pass a test from one to another

none_pass : (p : ℕ → Bool) (a m : ℕ) → ((k : ℕ) → a ≤ k → k < a + m → p k ≡ false) → filter p (range_with_len a m) ≡ []
none_pass p a zero out = refl
none_pass p a (suc m) out = rw (out a (omega arith) (omega arith)) (none_pass p (a + 1) m (λ k low high. out k (omega (arith, low)) (omega (arith, high))))

-- from the first on
front_passes : (p : ℕ → Bool) (e a m : ℕ) → a ≤ e → e ≤ a + m → ((k : ℕ) → a ≤ k → k < e → p k ≡ true) → ((k : ℕ) → e ≤ k → k < a + m → p k ≡ false) →
    filter p (range_with_len a m) ≡ range_with_len a (e - a)
front_passes p e a zero low high pass out =
    let none : e - a ≡ 0 = omega (arith, low, high) in
    rw none refl
front_passes p e a (suc m) low high pass out = elim (cases_eq a e) [
  | inl here ↦
      let none : e - a ≡ 0 = omega (arith, here) in
      none_pass p a (suc m) (λ k from to. out k (omega (arith, here, from)) to) ∙ ap (range_with_len a) (sym none)
  | inr away ↦
      let more : e - a ≡ suc (e - (a + 1)) = omega (arith, low, away) in
      let rest = front_passes p e (a + 1) m (omega (arith, low, away)) (omega (arith, high)) (λ k from to. pass k (omega (arith, from)) to) (λ k from to. out k from (omega (arith, to))) in
      rw (pass a (omega arith) (omega (arith, low, away)), more, rest) refl
]

-- from some number on
between_pass : (p : ℕ → Bool) (s e a m : ℕ) → a ≤ s → s ≤ e → e ≤ a + m → ((k : ℕ) → a ≤ k → k < s → p k ≡ false) → ((k : ℕ) → s ≤ k → k < e → p k ≡ true) → ((k : ℕ) → e ≤ k → k < a + m → p k ≡ false) →
    filter p (range_with_len a m) ≡ range_with_len s (e - s)
between_pass p s e a zero low mid high before pass after =
    let none : e - s ≡ 0 = omega (arith, low, mid, high) in
    rw none refl
between_pass p s e a (suc m) low mid high before pass after = elim (cases_eq a s) [
  | inl here ↦ rw (← here) (front_passes p e a (suc m) (omega (arith, here, mid)) high (λ k from to. pass k (omega (arith, here, from)) to) after)
  | inr away ↦
      rw (before a (omega arith) (omega (arith, low, away)))
      (between_pass p s e (a + 1) m (omega (arith, low, away)) mid (omega (arith, high)) (λ k from to. before k (omega (arith, from)) to) pass (λ k from to. after k from (omega (arith, to))))
]

-- ---- the next number that passes a test

abbrev head_or : ℕ → List ℕ → ℕ
head_or end [] = end
head_or end (x ∷ xs) = x

-- the first from a on, or the end
abbrev next_from : (ℕ → Bool) → ℕ → ℕ → ℕ
next_from p a m = head_or (a + m) (filter p (range_with_len a m))

record IsNext (p : ℕ → Bool) (a m next : ℕ) : Type 0 where
  pub low : a ≤ next
  pub high : next ≤ a + m
  pub none : (k : ℕ) → a ≤ k → k < next → p k ≡ false
  pub here : next < a + m → p next ≡ true

next_is : (p : ℕ → Bool) (a m : ℕ) → IsNext p a m (next_from p a m)
next_is p a zero = record { low = omega arith; high = omega arith; none = λ k low high. absurd (omega (arith, low, high)); here = λ lt. absurd (omega (arith, lt)) }
next_is p a (suc m) = elim (cases_Bool (p a)) [
  | inl e ↦ rw e (record { low = omega arith; high = omega arith; none = λ k low high. absurd (omega (arith, low, high)); here = λ lt. e })
  | inr e ↦
      let end : a + 1 + m ≡ a + suc m = omega arith in
      let rest = next_is p (a + 1) m in
      let rest' : IsNext p (a + 1) m (head_or (a + suc m) (filter p (range_with_len (a + 1) m))) = rw end at rest in
      rw e (record {
        low = omega (arith, rest'.low);
        high = omega (arith, rest'.high);
        none = λ k low high. elim (cases_eq k a) [ inl here ↦ rw here e | inr away ↦ rest'.none k (omega (arith, low, away)) high ];
        here = λ lt. rest'.here (omega (arith, lt));
      })
]

-- ---- whether some number passes a test

pub any_none : (p : ℕ → Bool) (a m : ℕ) → ((k : ℕ) → a ≤ k → k < a + m → p k ≡ false) → list_any p (range_with_len a m) ≡ false
any_none p a zero out = refl
any_none p a (suc m) out = rw (out a (omega arith) (omega arith)) (any_none p (a + 1) m (λ k low high. out k (omega (arith, low)) (omega (arith, high))))

pub any_some : (p : ℕ → Bool) (k a m : ℕ) → a ≤ k → k < a + m → p k ≡ true → list_any p (range_with_len a m) ≡ true
any_some p k a zero low high e = absurd (omega (arith, low, high))
any_some p k a (suc m) low high e = elim (cases_eq a k) [
  | inl here ↦ rw (here, e) refl
  | inr away ↦
      let rest = any_some p k (a + 1) m (omega (arith, low, away)) (omega (arith, high)) e in
      elim (cases_Bool (p a)) [ inl f ↦ rw f refl | inr f ↦ rw f rest ]
]

not_false : (b : Bool) → not b ≡ false → b ≡ true
not_false true e = refl
not_false false e = cc

-- ---- runs of rows whose equal slots stand together

module _ (rows : Rows) (together : StandTogether rows) where
  abbrev n : ℕ
  n = rows.count

  abbrev agree : ℕ → ℕ → Bool
  agree = same_slot_at rows.slot

  abbrev starts : ℕ → Bool
  starts = begins_run rows.slot

  turned : (i j : ℕ) → agree i j ≡ true → agree j i ≡ true
  turned i j e = sym (slot_eq_equiv.symm (rows.slot i) (rows.slot j)) ∙ e

  -- a row that agrees with an earlier one agrees with the one before it
  follows : (j i : ℕ) → j ≤ i → suc i < n → agree j (suc i) ≡ true → agree i (suc i) ≡ true
  follows j i le lt e =
      let near = together.between j i (suc i) le (omega arith) lt e in
      slot_eq_equiv.congr (rows.slot i) (rows.slot j) (rows.slot (suc i)) (turned j i near) ∙ e

  none_agrees : (i j : ℕ) → j ≤ i → suc i < n → agree i (suc i) ≡ false → agree (suc i) j ≡ false
  none_agrees i j le lt out = elim (cases_Bool (agree (suc i) j)) [
    | inl e ↦ absurd (true≢false (sym (follows j i le lt (turned (suc i) j e)) ∙ out))
    | inr e ↦ e
  ]

  -- what the first row of a class passes: an earlier row agrees with it
  abbrev is_earlier : ℕ → ℕ → Bool
  is_earlier i j = nat_lt j i && agree i j

  -- a run begins exactly where no earlier row agrees
  first_starts : (i : ℕ) → i < n → is_first agree (rows_below n) i ≡ starts i
  unfolding is_first
  first_starts zero lt = ap not (any_none (is_earlier 0) 0 n (λ j low high. rw (le-ltb j 0 (omega arith)) refl))
  first_starts (suc i) lt = elim (cases_Bool (agree i (suc i))) [
    | inl e ↦
        let earlier : is_earlier (suc i) i ≡ true = rw (lt-ltb i (suc i) (omega arith), turned i (suc i) e) refl in
        rw e (ap not (any_some (is_earlier (suc i)) i 0 n (omega arith) (omega (arith, lt)) earlier))
    | inr e ↦
        rw e (ap not (any_none (is_earlier (suc i)) 0 n (λ j low high. elim (cases_Bool (nat_lt j (suc i))) [
          | inl before ↦ rw (before, none_agrees i j (omega (arith, ltb-true j (suc i) before)) lt e) refl
          | inr behind ↦ rw behind refl
        ])))
  ]

  firsts_start : firsts agree (rows_below n) ≡ run_starts rows
  unfolding firsts
  firsts_start = filter_agree_on (is_first agree (rows_below n)) starts (rows_below n) (all_from_below (λ i. is_first agree (rows_below n) i ≡ starts i) n first_starts (rows_below n) (rows_below_all n))

  -- ---- the rows of a run

  -- rows behind a row up to where the next run begins agree with it
  agrees_up : (s : ℕ) (d : ℕ) → s + d < n → ((k : ℕ) → s < k → k ≤ s + d → starts k ≡ false) → agree s (s + d) ≡ true
  agrees_up s zero lt out =
      let same : s + 0 ≡ s = omega arith in
      rw same (slot_eq_equiv.refl (rows.slot s))
  agrees_up s (suc d) lt out =
      let next : s + suc d ≡ suc (s + d) = omega arith in
      let near = agrees_up s d (omega (arith, lt)) (λ k low high. out k low (omega (arith, high))) in
      let goes_on : starts (suc (s + d)) ≡ false = out (suc (s + d)) (omega arith) (omega arith) in
      let same : agree (s + d) (suc (s + d)) ≡ true = not_false _ goes_on in
      rw next (slot_eq_equiv.congr (rows.slot s) (rows.slot (s + d)) (rows.slot (suc (s + d))) near ∙ same)

  not_true : (b : Bool) → not b ≡ true → b ≡ false
  not_true true e = cc
  not_true false e = refl

  begins_apart : (s j : ℕ) → s < n → starts s ≡ true → j < s → agree s j ≡ false
  begins_apart zero j lt begins before = absurd (omega (arith, before))
  begins_apart (suc s) j lt begins before = none_agrees s j (omega (arith, before)) lt (not_true _ begins)

  -- rows from where a later run begins on do not agree with a row
  ends_apart : (s e k : ℕ) → s < e → e ≤ k → k < n → starts e ≡ true → agree s k ≡ false
  ends_apart s zero k before low lt begins = absurd (omega (arith, before))
  ends_apart s (suc q) k before low lt begins = elim (cases_Bool (agree s k)) [
    | inl e ↦
        let near = together.between s q k (omega (arith, before)) (omega (arith, low)) lt e in
        let far = together.between s (suc q) k (omega (arith, before)) low lt e in
        let same : agree q (suc q) ≡ true = sym (slot_eq_equiv.congr (rows.slot s) (rows.slot q) (rows.slot (suc q)) near) ∙ far in
        absurd (true≢false (sym same ∙ not_true _ begins))
    | inr e ↦ e
  ]

  class_run : (s : ℕ) → s < n → starts s ≡ true → class agree (rows_below n) s ≡ range_with_len s (next_from starts (s + 1) (n - (s + 1)) - s)
  unfolding class
  class_run s lt begins =
      let next = next_from starts (s + 1) (n - (s + 1)) in
      let is = next_is starts (s + 1) (n - (s + 1)) in
      let end : s + 1 + (n - (s + 1)) ≡ n = omega (arith, lt) in
      let high : next ≤ n = omega (arith, end, is.high) in
      between_pass (agree s) s next 0 n (omega arith) (omega (arith, is.low)) (omega (arith, high))
      (λ k low less. begins_apart s k lt begins less)
      (λ k low less.
      let up : s + (k - s) ≡ k = omega (arith, low) in
      rw (← up) (agrees_up s (k - s) (omega (arith, up, less, high)) (λ j from to. is.none j (omega (arith, from)) (omega (arith, to, up, less)))))
      (λ k low less. ends_apart s next k (omega (arith, is.low)) low (omega (arith, less)) (is.here (omega (arith, low, less, end))))

-- ---- the numbers that pass a test, and the next behind each

-- the k-th of the numbers found from a up to an end, and what stands behind it
record IsFollowed (p : ℕ → Bool) (a end : ℕ) (found : List ℕ) (k : ℕ) : Type 0 where
  pub low : a ≤ get_or found k 0
  pub high : get_or found k 0 < end
  pub passes : p (get_or found k 0) ≡ true
  pub next : get_or found (k + 1) end ≡ next_from p (get_or found k 0 + 1) (end - (get_or found k 0 + 1))

head_is : (end : ℕ) (xs : List ℕ) → get_or xs 0 end ≡ head_or end xs
head_is end [] = refl
head_is end (x ∷ xs) = refl

abbrev found_from : (ℕ → Bool) → ℕ → ℕ → List ℕ
found_from p a m = filter p (range_with_len a m)

lower : (p : ℕ → Bool) (a end : ℕ) (found : List ℕ) (k : ℕ) → IsFollowed p (a + 1) end found k → IsFollowed p a end found k
lower p a end found k is = record { low = omega (arith, is.low); high = is.high; passes = is.passes; next = is.next }

-- the first number passes too
later : (p : ℕ → Bool) (a end : ℕ) (found : List ℕ) (k : ℕ) → IsFollowed p (a + 1) end found k → IsFollowed p a end (a ∷ found) (suc k)
later p a end found k is =
    let more : suc k + 1 ≡ suc (k + 1) = omega arith in
    record { low = omega (arith, is.low); high = is.high; passes = is.passes; next = rw more is.next }

now : (p : ℕ → Bool) (a m : ℕ) → p a ≡ true → IsFollowed p a (a + 1 + m) (a ∷ found_from p (a + 1) m) 0
now p a m e =
    let left : a + 1 + m - (a + 1) ≡ m = omega arith in
    record {
      low = omega arith;
      high = omega arith;
      passes = e;
      next = rw left (head_is (a + 1 + m) (found_from p (a + 1) m));
    }

now_or_later : (p : ℕ → Bool) (a m end k : ℕ) → p a ≡ true → end ≡ a + suc m → ((j : ℕ) → j < length (found_from p (a + 1) m) → IsFollowed p (a + 1) end (found_from p (a + 1) m) j) →
    k < length (a ∷ found_from p (a + 1) m) → IsFollowed p a end (a ∷ found_from p (a + 1) m) k
now_or_later p a m end zero e is rest lt =
    let next : end ≡ a + 1 + m = omega (arith, is) in
    rw next (now p a m e)
now_or_later p a m end (suc k) e is rest lt = later p a end (found_from p (a + 1) m) k (rest k (omega (arith, lt)))

followed : (p : ℕ → Bool) (a m end : ℕ) → end ≡ a + m → (k : ℕ) → k < length (found_from p a m) → IsFollowed p a end (found_from p a m) k
followed p a zero end is k lt = absurd (omega (arith, lt))
followed p a (suc m) end is k lt =
    let rest = followed p (a + 1) m end (omega (arith, is)) in
    elim (cases_Bool (p a)) [
      | inl e ↦ rw e (now_or_later p a m end k e is rest (rw e at lt))
      | inr e ↦ rw e (lower p a end (found_from p (a + 1) m) k (rest k (rw e at lt)))
    ]

-- ---- runs as groups

module _ (rows : Rows) (together : StandTogether rows) (begins : List ℕ) (are : begins ≡ run_starts rows) where
  run_pair : (k : ℕ) → k < length begins → slice_pair (run_at begins rows.count k) ≡ (get_or begins k 0, class (same_slot_at rows.slot) (rows_below rows.count) (get_or begins k 0))
  run_pair k lt =
      let is : IsFollowed (begins_run rows.slot) 0 rows.count begins k = rw are (followed (begins_run rows.slot) 0 rows.count rows.count (omega arith) k (rw are at lt)) in
      let run = class_run rows together (get_or begins k 0) is.high is.passes in
      ap (λ l. (get_or begins k 0, l)) (ap (λ e. range_with_len (get_or begins k 0) (e - get_or begins k 0)) is.next ∙ sym run)

  pub runs_are_groups : slice_groups (runs_to begins rows.count) false ≡ run_groups rows
  unfolding groups
  runs_are_groups =
      let agree = same_slot_at rows.slot in
      let all = rows_below rows.count in
      let one : ℕ → ℕ × List ℕ = λ i. (i, class agree all i) in
      let shown : ℕ → ℕ × List ℕ = λ k. slice_pair (run_at begins rows.count k) in
      let paired : map one begins ≡ map shown (range_with_len 0 (length begins)) = fill_by_all shown (map one begins) (length begins) (0, []) (length-map begins one) (λ k lt.
      get_or-map one begins k 0 (0, []) lt ∙ sym (run_pair k lt)) in
      let pairs : slice_pairs (runs_to begins rows.count) ≡ groups agree all = map-map slice_pair (run_at begins rows.count) (range_with_len 0 (length begins)) ∙ sym paired ∙ ap (map one) (are ∙ sym (firsts_start rows together)) in
      ap (λ ps. record { pairs = ps; form = Slice false; flagged = true }) pairs

-- ---- first rows of runs

same_at : (xs : List ℕ) (k d e : ℕ) → k < length xs → get_or xs k d ≡ get_or xs k e
same_at [] k d e lt = absurd (omega (arith, lt))
same_at (x ∷ xs) zero d e lt = refl
same_at (x ∷ xs) (suc k) d e lt = same_at xs k d e (omega (arith, lt))

past_end : (xs : List ℕ) (k d : ℕ) → length xs ≤ k → get_or xs k d ≡ d
past_end [] k d le = refl
past_end (x ∷ xs) zero d le = absurd (omega (arith, le))
past_end (x ∷ xs) (suc k) d le = past_end xs k d (omega (arith, le))

-- the next one, or the count, is no less, and no more than the count
record IsUp (count start next : ℕ) : Type 0 where
  pub up : start ≤ next
  pub inside : next ≤ count

next_up : (count : ℕ) (starts : List ℕ) → AreStarts count starts → (k : ℕ) → k < length starts → IsUp count (get_or starts k 0) (get_or starts (k + 1) count)
next_up count starts are k lt = elim (cases_lt (k + 1) (length starts)) [
  | inl more ↦
      let next : get_or starts (k + 1) count ≡ get_or starts (k + 1) 0 = same_at starts (k + 1) count 0 more in
      let low = are.ascend k (k + 1) 0 (omega arith) more in
      let high = are.below (k + 1) 0 more in
      rw next (record { up = low; inside = omega (arith, high) })
  | inr none ↦
      let next : get_or starts (k + 1) count ≡ count = past_end starts (k + 1) count none in
      let high = are.below k 0 lt in
      rw next (record { up = omega (arith, high); inside = omega arith })
]

pub start_up : (count : ℕ) (starts : List ℕ) → AreStarts count starts → (k : ℕ) → k < length starts → get_or starts k 0 ≤ get_or starts (k + 1) count
start_up count starts are k lt = (next_up count starts are k lt).up

pub starts_fit : (rows : Rows) → StandTogether rows → (starts : List ℕ) → starts ≡ run_starts rows → AreStarts rows.count starts
starts_fit rows together starts are =
    let agree = same_slot_at rows.slot in
    let found : firsts agree (rows_below rows.count) ≡ starts = firsts_start rows together ∙ sym are in
    record {
      below = λ k d lt.
          let inside : k < length (firsts agree (rows_below rows.count)) = rw found lt in
          let low = firsts_below agree rows.count k inside in
          let at : get_or starts k d ≡ get_or starts k 0 = same_at starts k d 0 lt in
          rw at (rw found at low);
      ascend = subst IsNonDecreasing found (firsts_ascend agree rows.count);
    }

-- the runs that begin there
pub runs_fit : (count : ℕ) (starts : List ℕ) → count < 2 ^ 32 → AreStarts count starts → SlicesFit (runs_to starts count)
runs_fit count starts few are =
    let places = range_with_len 0 (length starts) in
    let heads : map start_of (runs_to starts count) ≡ starts = map-map start_of (run_at starts count) places ∙ sym (fill_by_all (λ k. get_or starts k 0) starts (length starts) 0 refl (λ k lt. refl)) in
    record {
      ends = All-map (λ slice. start_of slice + length_of slice < 2 ^ 32) (run_at starts count) places (λ k d lt.
          let inside : k < length starts = omega (arith, lt, length-range_with_len 0 (length starts)) in
          let at : get_or places k d ≡ k = get_or-range_with_len 0 (length starts) k d inside ∙ omega arith in
          let is = next_up count starts are k inside in
          rw at (omega (arith, few, is.up, is.inside)));
      ascend = subst IsNonDecreasing (sym heads) are.ascend;
    }

-- ---- one row more

pub starts_more : (rows : Rows) (first place : ℕ) (before after : List ℕ) (begins : Bool) → before ≡ starts_in rows (first, place) → after ≡ before ++ cond begins ((first + place) ∷ []) [] →
    begins ≡ begins_run rows.slot (first + place) → after ≡ starts_in rows (first, place + 1)
starts_more rows first place before after begins so_far more tells =
    more ∙ ap (λ l. l ++ cond begins ((first + place) ∷ []) []) so_far ∙ ap (λ b. starts_in rows (first, place) ++ cond b ((first + place) ∷ []) []) tells
    ∙ sym (ap (filter (begins_run rows.slot)) (range_more first place) ∙ filter-append (begins_run rows.slot) (range_with_len first place) ((first + place) ∷ []))
