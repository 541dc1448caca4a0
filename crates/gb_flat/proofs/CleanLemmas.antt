-- Ranges that part no equal neighbours: where the cuts stand, and what the ranges between them are.
use Rattle.std.proofs.Common.{◌≡◌, ◌∙◌, ℕ, zero, suc, ◌+◌, ◌-◌, ◌*◌, ◌/◌, ◌<◌, ◌≤◌, min, max, inl, inr, nat_lt, Bool, true, false, List, [], ◌∷◌, ◌++◌, All, length, map, filter, take, drop, get_or, refl, sym, ap, ap₂, add-one, append_assoc, drop-cons, length-drop, arith}
use Rattle.std.specs.List.{flat_map, range_with_len, AllByRecursion}
use Rattle.std.proofs.Math.Nat.{div-eq_of_lt, mul-le-mul_right}
use Rattle.std.proofs.lemmas.Bool.{cases_Bool, cases_lt, lt-ltb, le-ltb}
use Rattle.std.proofs.lemmas.List.{append-nil, drop_all, drop-drop, get_or-drop, get_or_read_under, length-append, length-map, take_all, take-append-drop}
use Rattle.std.proofs.lemmas.List.Concat.{flat_map-cons}
use Rattle.std.proofs.lemmas.List.Elements.{All-from_recursion}
use Rattle.std.proofs.lemmas.List.FromFn.{length-map-range_with_len}
use Rattle.std.proofs.lemmas.Nat.{le-div}
use Rattle.gb_defs.specs.Flat.{starts_from}
use Rattle.gb_flat.specs.Clean.{BeginsClean, clean_cut, clean_ranges, even_places, in_range, part_length, ranges_by, same_behind, same_from}
use Rattle.gb_flat.proofs.OffsetLemmas.{ranges_within}

-- ---- the cut near a place

module _ {T : Type 0} (same : T → T → Bool) where
  behind_few : (x : T) (ys : List T) → same_behind same x ys ≤ length ys
  behind_few x [] = omega arith
  behind_few x (y ∷ ys) =
      let rest = behind_few y ys in
      elim (cases_Bool (same x y)) [ inl e ↦ rw e (omega (arith, rest)) | inr e ↦ rw e (omega arith) ]

  from_few : (xs : List T) → 0 < length xs → same_from same xs + 1 ≤ length xs
  from_few [] some = absurd (omega (arith, some))
  from_few (x ∷ xs) some = omega (arith, behind_few x xs)

  from_short : (xs : List T) → length xs ≤ 1 → same_from same xs ≡ 0
  from_short [] short = refl
  from_short (x ∷ []) short = refl
  from_short (x ∷ y ∷ ys) short = absurd (omega (arith, short))

  from_some : (xs : List T) → 0 < same_from same xs → same_from same xs ≡ suc (same_from same (drop 1 xs))
  from_some [] some = absurd (omega (arith, some))
  from_some (x ∷ []) some = absurd (omega (arith, some))
  from_some (x ∷ y ∷ ys) some = elim (cases_Bool (same x y)) [
    | inl e ↦ rw e refl
    | inr e ↦ absurd (omega (arith, rw e at some))
  ]

  behind_differs : (x : T) (ys : List T) (d : T) → same_behind same x ys < length ys → same (get_or (x ∷ ys) (same_behind same x ys) d) (get_or ys (same_behind same x ys) d) ≡ false
  behind_differs x [] d less = absurd (omega (arith, less))
  behind_differs x (y ∷ ys) d less = elim (cases_Bool (same x y)) [
    | inl e ↦ rw e (behind_differs y ys d (omega (arith, rw e at less)))
    | inr e ↦ rw e e
  ]

  from_differs : (xs : List T) (d : T) → same_from same xs + 1 < length xs → same (get_or xs (same_from same xs) d) (get_or xs (same_from same xs + 1) d) ≡ false
  from_differs [] d less = absurd (omega (arith, less))
  from_differs (x ∷ xs) d less = rw add-one (behind_differs x xs d (omega (arith, less)))

  from_equal : (xs : List T) (d : T) → 0 < same_from same xs → same (get_or xs 0 d) (get_or xs 1 d) ≡ true
  from_equal [] d some = absurd (omega (arith, some))
  from_equal (x ∷ []) d some = absurd (omega (arith, some))
  from_equal (x ∷ y ∷ ys) d some = elim (cases_Bool (same x y)) [
    | inl e ↦ e
    | inr e ↦ absurd (omega (arith, rw e at some))
  ]

  two_from : (values : List T) (j : ℕ) (d : T) → suc j < length values → drop j values ≡ get_or values j d ∷ get_or values (suc j) d ∷ drop (suc (suc j)) values
  two_from values j d inside = drop-cons values j d (omega (arith, inside)) ∙ ap (λ (ys : List T). get_or values j d ∷ ys) (drop-cons values (suc j) d inside)

  from_here : (values : List T) (j : ℕ) (d : T) → suc j < length values → same (get_or values j d) (get_or values (suc j) d) ≡ false → same_from same (drop j values) ≡ 0
  from_here values j d inside e = ap (same_from same) (two_from values j d inside) ∙ rw e refl

  from_on : (values : List T) (j : ℕ) (d : T) → suc j < length values → same (get_or values j d) (get_or values (suc j) d) ≡ true → same_from same (drop j values) ≡ suc (same_from same (drop (suc j) values))
  from_on values j d inside e =
      ap (same_from same) (two_from values j d inside)
      ∙ rw e (ap (λ (ys : List T). suc (same_from same ys)) (sym (drop-cons values (suc j) d inside)))

module _ {T : Type 0} (same : T → T → Bool) (values : List T) where
  pub cut_end : (at : ℕ) → length values ≤ at → clean_cut same values at ≡ at
  cut_end at behind =
      let short : length (drop (at - 1) values) ≤ 1 = omega (arith, length-drop (at - 1) values, behind) in
      omega (arith, from_short same (drop (at - 1) values) short)

  pub cut_here : (at : ℕ) (x y : T) → x ≡ get_or values (at - 1) x → y ≡ get_or values at y → 1 ≤ at → at < length values → same x y ≡ false → clean_cut same values at ≡ at
  cut_here at x y x_is y_is behind inside e =
      let before : suc (at - 1) ≡ at = omega (arith, behind) in
      let read : y ≡ get_or values at x = get_or_read_under values at (length values) y x y_is inside refl in
      let differs : same (get_or values (at - 1) x) (get_or values at x) ≡ false = ap₂ same (sym x_is) (sym read) ∙ e in
      omega (arith, from_here same values (at - 1) x (omega (arith, before, inside)) (rw before differs))

  pub cut_on : (at : ℕ) (x y : T) → x ≡ get_or values (at - 1) x → y ≡ get_or values at y → 1 ≤ at → at < length values → same x y ≡ true → clean_cut same values at ≡ clean_cut same values (at + 1)
  cut_on at x y x_is y_is behind inside e =
      let before : suc (at - 1) ≡ at = omega (arith, behind) in
      let next : at + 1 - 1 ≡ suc (at - 1) = omega (arith, behind) in
      let read : y ≡ get_or values at x = get_or_read_under values at (length values) y x y_is inside refl in
      let equal : same (get_or values (at - 1) x) (get_or values at x) ≡ true = ap₂ same (sym x_is) (sym read) ∙ e in
      let step = from_on same values (at - 1) x (omega (arith, before, inside)) (rw before equal) in
      rw (next, step) (omega arith)

  pub cut_within : (at : ℕ) → 1 ≤ at → at ≤ length values → clean_cut same values at ≤ length values
  cut_within at behind inside =
      let left = length-drop (at - 1) values in
      omega (arith, left, from_few same (drop (at - 1) values) (omega (arith, left, behind, inside)))

  -- at a cut that is not the end, the value differs from the one before
  pub cut_clean : (at : ℕ) → 1 ≤ at → clean_cut same values at < length values → BeginsClean same values (clean_cut same values at)
  cut_clean at behind inside some d =
      let rest = drop (at - 1) values in
      let left = length-drop (at - 1) values in
      let differs = from_differs same rest d (omega (arith, left, behind, inside)) in
      let before : at - 1 + same_from same rest ≡ clean_cut same values at - 1 = omega (arith, behind) in
      let here : at - 1 + (same_from same rest + 1) ≡ clean_cut same values at = omega (arith, behind) in
      let first = get_or-drop (at - 1) values (same_from same rest) d ∙ ap (λ i. get_or values i d) before in
      let second = get_or-drop (at - 1) values (same_from same rest + 1) d ∙ ap (λ i. get_or values i d) here in
      ap₂ same (sym first) (sym second) ∙ differs

  passed_by : (at more : ℕ) → 1 ≤ at → at + more ≤ clean_cut same values at → clean_cut same values (at + more) ≡ clean_cut same values at
  passed_by at zero behind low =
      let here : at + 0 ≡ at = omega arith in
      rw here refl
  passed_by at (suc more) behind low =
      let earlier = passed_by at more behind (omega (arith, low)) in
      let some : 0 < same_from same (drop (at + more - 1) values) = omega (arith, earlier, low) in
      let step = from_some same (drop (at + more - 1) values) some ∙ ap (λ (ys : List T). suc (same_from same ys)) (drop-drop 1 (at + more - 1) values) in
      let next : at + suc more - 1 ≡ at + more - 1 + 1 = omega (arith, behind) in
      rw next (omega (arith, earlier, step))

  -- a place that a cut has passed has the same cut
  pub cut_passed : (at place : ℕ) → 1 ≤ at → at ≤ place → place ≤ clean_cut same values at → clean_cut same values place ≡ clean_cut same values at
  cut_passed at place behind up low =
      let is : at + (place - at) ≡ place = omega (arith, up) in
      rw (← is) (passed_by at (place - at) behind (omega (arith, is, low)))

  -- up to a cut each value equals the one before
  pub cut_least : (at place : ℕ) (d : T) → 1 ≤ at → at ≤ place → place < clean_cut same values at → same (get_or values (place - 1) d) (get_or values place d) ≡ true
  cut_least at place d behind up low =
      let rest = drop (place - 1) values in
      let cut = cut_passed at place behind up (omega (arith, low)) in
      let equal = from_equal same rest d (omega (arith, cut, low)) in
      let before : place - 1 + 0 ≡ place - 1 = omega arith in
      let here : place - 1 + 1 ≡ place = omega (arith, behind, up) in
      let first = get_or-drop (place - 1) values 0 d ∙ ap (λ i. get_or values i d) before in
      let second = get_or-drop (place - 1) values 1 d ∙ ap (λ i. get_or values i d) here in
      ap₂ same (sym first) (sym second) ∙ equal

-- ---- ranges between cuts

by_cut : (start cut : ℕ) (cuts : List ℕ) (end : ℕ) → start < cut → ranges_by start (cut ∷ cuts) end ≡ (start, cut - start) ∷ ranges_by cut cuts end
by_cut start cut cuts end less = rw (lt-ltb start cut less) refl

by_passed : (start cut : ℕ) (cuts : List ℕ) (end : ℕ) → cut ≤ start → ranges_by start (cut ∷ cuts) end ≡ ranges_by start cuts end
by_passed start cut cuts end passed = rw (le-ltb start cut passed) refl

by_end : (start end : ℕ) → start < end → ranges_by start [] end ≡ (start, end - start) ∷ []
by_end start end less = rw (lt-ltb start end less) refl

by_none : (start end : ℕ) → end ≤ start → ranges_by start [] end ≡ []
by_none start end passed = rw (le-ltb start end passed) refl

pub ranges_few : (start : ℕ) (cuts : List ℕ) (end : ℕ) → length (ranges_by start cuts end) ≤ length cuts + 1
ranges_few start [] end = elim (cases_lt start end) [
  | inl less ↦ rw (lt-ltb start end less) (omega arith)
  | inr passed ↦ rw (le-ltb start end passed) (omega arith)
]
ranges_few start (cut ∷ cuts) end = elim (cases_lt start cut) [
  | inl less ↦ rw (lt-ltb start cut less) (omega (arith, ranges_few cut cuts end))
  | inr passed ↦ rw (le-ltb start cut passed) (omega (arith, ranges_few start cuts end))
]

pub ranges_filled : (start : ℕ) (cuts : List ℕ) (end : ℕ) → AllByRecursion (λ (range : ℕ × ℕ). 0 < range.1) (ranges_by start cuts end)
ranges_filled start [] end = elim (cases_lt start end) [
  | inl less ↦ rw (lt-ltb start end less) (omega (arith, less), tt)
  | inr passed ↦ rw (le-ltb start end passed) tt
]
ranges_filled start (cut ∷ cuts) end = elim (cases_lt start cut) [
  | inl less ↦ rw (lt-ltb start cut less) (omega (arith, less), ranges_filled cut cuts end)
  | inr passed ↦ rw (le-ltb start cut passed) (ranges_filled start cuts end)
]

pub ranges_cover : {T : Type 0} (values : List T) (start : ℕ) (cuts : List ℕ) → flat_map (in_range values) (ranges_by start cuts (length values)) ≡ drop start values
ranges_cover values start [] = elim (cases_lt start (length values)) [
  | inl less ↦
      let whole = take_all (length values - start) (drop start values) (omega (arith, length-drop start values)) in
      ap (flat_map (in_range values)) (by_end start (length values) less) ∙ flat_map-cons (in_range values) (start, length values - start) [] ∙ append-nil _ ∙ whole
  | inr passed ↦ ap (flat_map (in_range values)) (by_none start (length values) passed) ∙ sym (drop_all start values passed)
]
ranges_cover values start (cut ∷ cuts) = elim (cases_lt start cut) [
  | inl less ↦
      let up : start + (cut - start) ≡ cut = omega (arith, less) in
      let rest : drop cut values ≡ drop (cut - start) (drop start values) = ap (λ i. drop i values) (sym up) ∙ sym (drop-drop (cut - start) start values) in
      ap (flat_map (in_range values)) (by_cut start cut cuts (length values) less)
      ∙ flat_map-cons (in_range values) (start, cut - start) (ranges_by cut cuts (length values))
      ∙ ap (λ ys. take (cut - start) (drop start values) ++ ys) (ranges_cover values cut cuts ∙ rest)
      ∙ take-append-drop (cut - start) (drop start values)
  | inr passed ↦ ap (flat_map (in_range values)) (by_passed start cut cuts (length values) passed) ∙ ranges_cover values start cuts
]

pub ranges_follow : (start : ℕ) (cuts : List ℕ) (end : ℕ) → map (λ (range : ℕ × ℕ). range.0) (ranges_by start cuts end) ≡ starts_from start (map (λ (range : ℕ × ℕ). range.1) (ranges_by start cuts end))
ranges_follow start [] end = elim (cases_lt start end) [
  | inl less ↦ rw (lt-ltb start end less) refl
  | inr passed ↦ rw (le-ltb start end passed) refl
]
ranges_follow start (cut ∷ cuts) end = elim (cases_lt start cut) [
  | inl less ↦
      let up : cut ≡ start + (cut - start) = omega (arith, less) in
      let lengths = map (λ (range : ℕ × ℕ). range.1) (ranges_by cut cuts end) in
      rw (lt-ltb start cut less) (ap (λ (starts : List ℕ). start ∷ starts) (ranges_follow cut cuts end ∙ ap (λ s. starts_from s lengths) up))
  | inr passed ↦ rw (le-ltb start cut passed) (ranges_follow start cuts end)
]

-- a cut inside the values, or at their end, which parts no equal neighbours
record IsGoodCut {T : Type 0} (same : T → T → Bool) (values : List T) (cut : ℕ) : Type 0 where
  pub within : cut ≤ length values
  pub clean : cut < length values → BeginsClean same values cut

ranges_clean : {T : Type 0} (same : T → T → Bool) (values : List T) (start : ℕ) (cuts : List ℕ) → (start < length values → BeginsClean same values start) → AllByRecursion (IsGoodCut same values) cuts →
    AllByRecursion (λ (range : ℕ × ℕ). BeginsClean same values range.0) (ranges_by start cuts (length values))
ranges_clean same values start [] begins good = elim (cases_lt start (length values)) [
  | inl less ↦ rw (lt-ltb start (length values) less) (begins less, tt)
  | inr passed ↦ rw (le-ltb start (length values) passed) tt
]
ranges_clean same values start (cut ∷ cuts) begins good = elim (cases_lt start cut) [
  | inl less ↦ rw (lt-ltb start cut less) (begins (omega (arith, less, good.0.within)), ranges_clean same values cut cuts good.0.clean good.1)
  | inr passed ↦ rw (le-ltb start cut passed) (ranges_clean same values start cuts begins good.1)
]

ranges_inside : {T : Type 0} (same : T → T → Bool) (values : List T) (start : ℕ) (cuts : List ℕ) → AllByRecursion (IsGoodCut same values) cuts →
    AllByRecursion (λ (range : ℕ × ℕ). range.0 + range.1 ≤ length values) (ranges_by start cuts (length values))
ranges_inside same values start [] good = elim (cases_lt start (length values)) [
  | inl less ↦ rw (lt-ltb start (length values) less) (omega (arith, less), tt)
  | inr passed ↦ rw (le-ltb start (length values) passed) tt
]
ranges_inside same values start (cut ∷ cuts) good = elim (cases_lt start cut) [
  | inl less ↦ rw (lt-ltb start cut less) (omega (arith, less, good.0.within), ranges_inside same values cut cuts good.1)
  | inr passed ↦ rw (le-ltb start cut passed) (ranges_inside same values start cuts good.1)
]

-- ---- places near equal parts

-- so many places that far apart, from the k-th on
abbrev pub places_from : ℕ → ℕ → ℕ → List ℕ
places_from each k count = map (λ k. k * each) (range_with_len k count)

none_below : (len each k count : ℕ) → ((i : ℕ) → k ≤ i → i < k + count → len ≤ i * each) → filter (λ at. nat_lt at len) (places_from each k count) ≡ []
none_below len each k zero out = refl
none_below len each k (suc count) out = rw (le-ltb (k * each) len (out k (omega arith) (omega arith))) (none_below len each (k + 1) count (λ i low high. out i (omega (arith, low)) (omega (arith, high))))

some_below : (len each k count more : ℕ) → ((i : ℕ) → k ≤ i → i < k + count → i * each < len) → ((i : ℕ) → k + count ≤ i → i < k + count + more → len ≤ i * each) →
    filter (λ at. nat_lt at len) (places_from each k (count + more)) ≡ places_from each k count
some_below len each k zero more inside out =
    let all : 0 + more ≡ more = omega arith in
    rw all (none_below len each k more (λ i low high. out i (omega (arith, low)) (omega (arith, high))))
some_below len each k (suc count) more inside out =
    let all : suc count + more ≡ suc (count + more) = omega arith in
    let rest = some_below len each (k + 1) count more (λ i low high. inside i (omega (arith, low)) (omega (arith, high))) (λ i low high. out i (omega (arith, low)) (omega (arith, high))) in
    rw (all, lt-ltb (k * each) len (inside k (omega arith) (omega arith))) (ap (λ (places : List ℕ). k * each ∷ places) rest)

pub place_inside : (len n k : ℕ) → k < min n len → k * part_length len n < len
place_inside len n k less = elim (cases_lt len n) [
  | inl short ↦
      let each : part_length len n ≡ 1 = ap (λ q. max q 1) (div-eq_of_lt short) in
      rw each (omega (arith, less))
  | inr long ↦
      let some : 1 ≤ len / n = le-div 1 len n (omega (arith, less)) (omega (arith, long)) in
      let each : part_length len n ≡ len / n = omega (arith, some) in
      let high : (k + 1) * (len / n) ≤ len = ranges_within len n (k + 1) (omega (arith, less)) (omega (arith, less)) in
      rw each (omega (arith, high, some))
]

place_outside : (len n k : ℕ) → min n len ≤ k → k < n → len ≤ k * part_length len n
place_outside len n k low high = elim (cases_lt len n) [
  | inl short ↦
      let each : part_length len n ≡ 1 = ap (λ q. max q 1) (div-eq_of_lt short) in
      rw each (omega (arith, low, short))
  | inr long ↦ absurd (omega (arith, low, high, long))
]

-- the places inside a length are the first so many
places_are : (len n : ℕ) → 1 ≤ n → even_places len n ≡ places_from (part_length len n) 1 (min n len - 1)
places_are len n some =
    let each = part_length len n in
    let count = min n len - 1 in
    let all : n - 1 ≡ count + (n - 1 - count) = omega arith in
    ap (λ m. filter (λ at. nat_lt at len) (places_from each 1 m)) all
    ∙ some_below len each 1 count (n - 1 - count) (λ i low high. place_inside len n i (omega (arith, low, high))) (λ i low high. place_outside len n i (omega (arith, low)) (omega (arith, high, low, some)))

-- ---- what the ranges are

-- the cuts near so many places
abbrev pub cuts_from : {T : Type 0} → (T → T → Bool) → List T → ℕ → ℕ → ℕ → List ℕ
cuts_from same values each k count = map (clean_cut same values) (places_from each k count)

cuts_good : {T : Type 0} (same : T → T → Bool) (values : List T) (each k count : ℕ) → ((i : ℕ) → k ≤ i → i < k + count → 1 ≤ i * each) → ((i : ℕ) → k ≤ i → i < k + count → i * each < length values) →
    AllByRecursion (IsGoodCut same values) (cuts_from same values each k count)
cuts_good same values each k zero behind inside = tt
cuts_good same values each k (suc count) behind inside =
    let first : 1 ≤ k * each = behind k (omega arith) (omega arith) in
    let low : k * each < length values = inside k (omega arith) (omega arith) in
    let good : IsGoodCut same values (clean_cut same values (k * each)) = record {
      within = cut_within same values (k * each) first (omega (arith, low));
      clean = cut_clean same values (k * each) first;
    } in
    (good, cuts_good same values each (k + 1) count (λ i low high. behind i (omega (arith, low)) (omega (arith, high))) (λ i low high. inside i (omega (arith, low)) (omega (arith, high))))

-- what the ranges are that the rule gives
pub record AreClean {T : Type 0} (same : T → T → Bool) (values : List T) (n : ℕ) (ranges : List (ℕ × ℕ)) : Type 0 where
  pub few : length ranges ≤ n
  pub filled : All (λ (range : ℕ × ℕ). 0 < range.1) ranges
  pub follow : map (λ (range : ℕ × ℕ). range.0) ranges ≡ starts_from 0 (map (λ (range : ℕ × ℕ). range.1) ranges)
  pub inside : All (λ (range : ℕ × ℕ). range.0 + range.1 ≤ length values) ranges
  pub cover : flat_map (in_range values) ranges ≡ values
  pub clean : All (λ (range : ℕ × ℕ). BeginsClean same values range.0) ranges

cuts_are : {T : Type 0} (same : T → T → Bool) (values : List T) (n : ℕ) → 1 ≤ n → clean_ranges same values n ≡ ranges_by 0 (cuts_from same values (part_length (length values) n) 1 (min n (length values) - 1)) (length values)
cuts_are same values n some = ap (λ places. ranges_by 0 (map (clean_cut same values) places) (length values)) (places_are (length values) n some)

pub are_clean : {T : Type 0} (same : T → T → Bool) (values : List T) (n : ℕ) (ranges : List (ℕ × ℕ)) → 1 ≤ n → ranges ≡ clean_ranges same values n → AreClean same values n ranges
are_clean same values n ranges some is =
    let each = part_length (length values) n in
    let count = min n (length values) - 1 in
    let cuts = cuts_from same values each 1 count in
    let long : length cuts ≡ count = length-map (places_from each 1 count) (clean_cut same values) ∙ length-map-range_with_len (λ k. k * each) 1 count in
    let good = cuts_good same values each 1 count (λ i low high. behind each i (omega arith) low) (λ i low high. place_inside (length values) n i (omega (arith, high, low))) in
    rw (is, cuts_are same values n some) (record {
      few = omega (arith, long, some, ranges_few 0 cuts (length values));
      filled = All-from_recursion (λ (range : ℕ × ℕ). 0 < range.1) _ (ranges_filled 0 cuts (length values));
      follow = ranges_follow 0 cuts (length values);
      inside = All-from_recursion (λ (range : ℕ × ℕ). range.0 + range.1 ≤ length values) _ (ranges_inside same values 0 cuts good);
      cover = ranges_cover values 0 cuts;
      clean = All-from_recursion (λ (range : ℕ × ℕ). BeginsClean same values range.0) _ (ranges_clean same values 0 cuts (λ less some. absurd (omega (arith, some))) good);
    })
  where
    behind : (each i : ℕ) → 1 ≤ each → 1 ≤ i → 1 ≤ i * each
    behind each i some low = omega (arith, mul-le-mul_right each low)

-- ---- cut by cut

-- what is dealt out before the k-th place, the last range up to `start`
pub record IsDealt {T : Type 0} (same : T → T → Bool) (values : List T) (each most k start : ℕ) (parts : List (ℕ × ℕ)) : Type 0 where
  pub dealt : ranges_by 0 (cuts_from same values each 1 (most - 1)) (length values) ≡ parts ++ ranges_by start (cuts_from same values each k (most - k)) (length values)
  pub passed : (place : ℕ) → k * each ≤ place → place ≤ start → clean_cut same values place ≡ start
  pub within : start ≤ length values
  pub few : length parts + 1 ≤ k

module _ {T : Type 0} (same : T → T → Bool) (values : List T) (each most : ℕ) where
  pub dealt_none : 1 ≤ each → IsDealt same values each most 1 0 []
  dealt_none some = record {
    dealt = refl;
    passed = λ place low high. absurd (omega (arith, some, low, high));
    within = omega arith;
    few = omega arith;
  }

  next_cut : (k : ℕ) → k < most → cuts_from same values each k (most - k) ≡ clean_cut same values (k * each) ∷ cuts_from same values each (k + 1) (most - (k + 1))
  next_cut k less =
      let count : most - k ≡ suc (most - (k + 1)) = omega (arith, less) in
      ap (cuts_from same values each k) count

  pub dealt_cut : (k start cut : ℕ) (parts parts' : List (ℕ × ℕ)) → IsDealt same values each most k start parts → k < most → start < k * each → k * each < length values →
      cut ≡ clean_cut same values (k * each) → parts' ≡ parts ++ (start, cut - start) ∷ [] → IsDealt same values each most (k + 1) cut parts'
  dealt_cut k start cut parts parts' is less up inside cut_is pushed =
      let place = k * each in
      let found = clean_cut same values place in
      let rest = ranges_by cut (cuts_from same values each (k + 1) (most - (k + 1))) (length values) in
      let step : ranges_by start (cuts_from same values each k (most - k)) (length values) ≡ (start, cut - start) ∷ rest =
      ap (λ cuts. ranges_by start cuts (length values)) (next_cut k less ∙ ap (λ (c : ℕ). c ∷ cuts_from same values each (k + 1) (most - (k + 1))) (sym cut_is))
      ∙ by_cut start cut (cuts_from same values each (k + 1) (most - (k + 1))) (length values) (omega (arith, up, cut_is)) in
      record {
        dealt = is.dealt ∙ ap (λ rs. parts ++ rs) step ∙ sym (append_assoc parts ((start, cut - start) ∷ []) rest) ∙ ap (λ ps. ps ++ rest) (sym pushed);
        passed = λ p low high. cut_passed same values place p (omega (arith, up)) (omega (arith, low)) (omega (arith, high, cut_is)) ∙ sym cut_is;
        within = omega (arith, cut_is, cut_within same values place (omega (arith, up)) (omega (arith, inside)));
        few = omega (arith, is.few, ap length pushed, length-append parts ((start, cut - start) ∷ []));
      }

  pub dealt_passed : (k start : ℕ) (parts : List (ℕ × ℕ)) → IsDealt same values each most k start parts → k < most → k * each ≤ start → IsDealt same values each most (k + 1) start parts
  dealt_passed k start parts is less low =
      let same_cut : clean_cut same values (k * each) ≡ start = is.passed (k * each) (omega arith) low in
      let step = ap (λ cuts. ranges_by start cuts (length values)) (next_cut k less) ∙ by_passed start (clean_cut same values (k * each)) (cuts_from same values each (k + 1) (most - (k + 1))) (length values) (omega (arith, same_cut)) in
      record {
        dealt = is.dealt ∙ ap (λ rs. parts ++ rs) step;
        passed = λ p far high. is.passed p (omega (arith, far)) high;
        within = is.within;
        few = omega (arith, is.few);
      }

  no_cuts : (k : ℕ) → most ≤ k → cuts_from same values each k (most - k) ≡ []
  no_cuts k done =
      let count : most - k ≡ 0 = omega (arith, done) in
      ap (cuts_from same values each k) count

  pub dealt_all : (k start : ℕ) (parts : List (ℕ × ℕ)) → IsDealt same values each most k start parts → most ≤ k → length values ≤ start → parts ≡ ranges_by 0 (cuts_from same values each 1 (most - 1)) (length values)
  dealt_all k start parts is done past = sym (is.dealt ∙ ap (λ cuts. parts ++ ranges_by start cuts (length values)) (no_cuts k done) ∙ ap (λ rs. parts ++ rs) (by_none start (length values) past) ∙ append-nil parts)

  pub dealt_rest : (k start : ℕ) (parts parts' : List (ℕ × ℕ)) → IsDealt same values each most k start parts → most ≤ k → start < length values → parts' ≡ parts ++ (start, length values - start) ∷ [] → parts' ≡ ranges_by 0 (cuts_from same values each 1 (most - 1)) (length values)
  dealt_rest k start parts parts' is done left pushed = pushed ∙ sym (is.dealt ∙ ap (λ cuts. parts ++ ranges_by start cuts (length values)) (no_cuts k done) ∙ ap (λ rs. parts ++ rs) (by_end start (length values) left))

-- with the places that the rule names, all is dealt out by the rule
pub dealt_cleanly : {T : Type 0} (same : T → T → Bool) (values : List T) (n each most : ℕ) (parts : List (ℕ × ℕ)) → 1 ≤ n → each ≡ part_length (length values) n → most ≡ min n (length values) →
    parts ≡ ranges_by 0 (cuts_from same values each 1 (most - 1)) (length values) → parts ≡ clean_ranges same values n
dealt_cleanly same values n each most parts some each_is most_is are =
    are ∙ ap₂ (λ e m. ranges_by 0 (cuts_from same values e 1 (m - 1)) (length values)) each_is most_is ∙ sym (cuts_are same values n some)
