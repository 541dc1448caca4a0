-- Rows that are numbered part by part.
use Rattle.std.proofs.Common.{◌≡◌, ℕ, zero, suc, cond, ◌+◌, ◌<◌, ◌≤◌, ◌==◌, Bool, true, false, not, ◌&&◌, ◌||◌, inl, inr, List, [], ◌∷◌, ◌++◌, length, get_or, map, take, filter, refl, sym, ◌∙◌, ap, ap₂, arith, nat_lt, append-nil, eq-eqb, zip}
use Rattle.std.specs.Cmp.{IsEquivalence}
use Rattle.std.specs.List.{AllByRecursion, flat_map, list_any, range_with_len}
use Rattle.std.specs.List.Sorted.{IsStrictlyIncreasing}
use Rattle.std.proofs.lemmas.Bool.{cases_Bool, eqb-true, lt-ltb, le-ltb}
use Rattle.std.proofs.lemmas.List.{get_or-map, get_or-take, get_or_default, length-take, take_all, take_more}
use Rattle.std.proofs.lemmas.List.FromFn.{get_or-map-range_with_len, length-map-range_with_len}
use Rattle.std.proofs.lemmas.List.Elements.{All-from_recursion, filter-append, filter_passes, recursion_from_All}
use Rattle.std.proofs.lemmas.List.Kept.{AllPairs-from_increasing, IsStrictlyIncreasing-filter}
use Rattle.std.proofs.lemmas.List.Folds.{list_any-append}
use Rattle.gb_defs.specs.Classes.{class, firsts, groups, is_first}
use Rattle.gb_defs.proofs.ClassesLemmas.{all_append, all_filter, all_from_below, any_agree_on, filter_agree_on, firsts_push, map_agree_on}
use Rattle.gb_defs.specs.Groups.{first_of, rows_of_pair}
use Rattle.gb_groups.specs.Numbers.{lists_by, rows_of}
use Rattle.gb_groups.proofs.NumberLemmas.{map_range_same, rows_by}
use Rattle.gb_paths.specs.Numbers.{pairs_by}
use Rattle.gb_paths.specs.Numbering.{AreNumbersOf, AreParts, number_in}

-- ---- first rows of rows and of later ones

filter_both : (p q : ℕ → Bool) (xs : List ℕ) → filter (λ x. p x && q x) xs ≡ filter p (filter q xs)
filter_both p q [] = refl
filter_both p q (x ∷ xs) = elim (cases_Bool (q x)) [
  | inl e ↦ elim (cases_Bool (p x)) [
    | inl f ↦ rw (e, f) (ap (λ ys. x ∷ ys) (filter_both p q xs))
    | inr f ↦ rw (e, f) (filter_both p q xs)
  ]
  | inr e ↦ elim (cases_Bool (p x)) [
    | inl f ↦ rw (e, f) (filter_both p q xs)
    | inr f ↦ rw (e, f) (filter_both p q xs)
  ]
]

module _ (agree : ℕ → ℕ → Bool) (cut : ℕ) where
  abbrev Below : List ℕ → Type 0
  Below xs = AllByRecursion (λ x. x < cut) xs

  abbrev Above : List ℕ → Type 0
  Above ys = AllByRecursion (λ y. cut ≤ y) ys

  -- no later row is before one
  none_before : (x : ℕ) → x < cut → (ys : List ℕ) → Above ys → list_any (λ j. nat_lt j x && agree x j) ys ≡ false
  none_before x low [] above = refl
  none_before x low (y ∷ ys) above = rw (le-ltb y x (omega (arith, low, above.0))) (none_before x low ys above.1)

  -- every earlier row is before one
  all_before : (y : ℕ) → cut ≤ y → (xs : List ℕ) → Below xs → list_any (λ j. nat_lt j y && agree y j) xs ≡ list_any (agree y) xs
  all_before y high [] below = refl
  all_before y high (x ∷ xs) below = rw (lt-ltb x y (omega (arith, high, below.0))) (ap (λ b. agree y x || b) (all_before y high xs below.1))

  or_false : (a : Bool) → (a || false) ≡ a
  or_false true = refl
  or_false false = refl

  not_or : (a b : Bool) → not (a || b) ≡ not a && not b
  not_or true b = refl
  not_or false b = refl

  module _ (xs ys : List ℕ) (below : Below xs) (above : Above ys) where
    first_earlier : (x : ℕ) → x < cut → is_first agree (xs ++ ys) x ≡ is_first agree xs x
    unfolding is_first
    first_earlier x low =
        ap not (list_any-append (λ j. nat_lt j x && agree x j) xs ys ∙ ap (λ b. list_any (λ j. nat_lt j x && agree x j) xs || b) (none_before x low ys above) ∙ or_false _)

    first_later : (y : ℕ) → cut ≤ y → is_first agree (xs ++ ys) y ≡ not (list_any (agree y) xs) && is_first agree ys y
    unfolding is_first
    first_later y high =
        ap not (list_any-append (λ j. nat_lt j y && agree y j) xs ys ∙ ap (λ b. b || list_any (λ j. nat_lt j y && agree y j) ys) (all_before y high xs below))
        ∙ not_or (list_any (agree y) xs) _

    each_earlier : (zs : List ℕ) → Below zs → AllByRecursion (λ x. is_first agree (xs ++ ys) x ≡ is_first agree xs x) zs
    each_earlier [] low = tt
    each_earlier (z ∷ zs) low = (first_earlier z low.0, each_earlier zs low.1)

    each_later : (zs : List ℕ) → Above zs → AllByRecursion (λ y. is_first agree (xs ++ ys) y ≡ not (list_any (agree y) xs) && is_first agree ys y) zs
    each_later [] high = tt
    each_later (z ∷ zs) high = (first_later z high.0, each_later zs high.1)

    -- those of the later rows that agree with no earlier row stand behind those of the earlier ones
    pub firsts_append : firsts agree (xs ++ ys) ≡ firsts agree xs ++ filter (λ y. not (list_any (agree y) xs)) (firsts agree ys)
    unfolding firsts
    firsts_append =
        filter-append (is_first agree (xs ++ ys)) xs ys
        ∙ ap₂ (λ (a b : List ℕ). a ++ b) (filter_agree_on _ (is_first agree xs) xs (each_earlier xs below))
        (filter_agree_on _ (λ y. not (list_any (agree y) xs) && is_first agree ys y) ys (each_later ys above) ∙ filter_both (λ y. not (list_any (agree y) xs)) (is_first agree ys) ys)

-- ---- what agrees with a row agrees with a first row

module _ (agree : ℕ → ℕ → Bool) (equiv : IsEquivalence agree) where
  same_any : (i n : ℕ) → agree i n ≡ true → (xs : List ℕ) → list_any (agree i) xs ≡ list_any (agree n) xs
  same_any i n here [] = refl
  same_any i n here (x ∷ xs) = ap₂ (λ (a b : Bool). a || b) (equiv.congr i n x here) (same_any i n here xs)

  or_right : (a : Bool) → (a || true) ≡ true
  or_right true = refl
  or_right false = refl

  found_push : (xs : List ℕ) (n i : ℕ) → AllByRecursion (λ j. j < n) xs → list_any (agree i) xs ≡ list_any (agree i) (firsts agree xs)
      → list_any (agree i) (xs ++ n ∷ []) ≡ list_any (agree i) (firsts agree (xs ++ n ∷ []))
  found_push xs n i below so_far =
      let longer = list_any-append (agree i) xs (n ∷ []) in
      elim (cases_Bool (list_any (agree n) xs)) [
        | inl known ↦
            let same : firsts agree (xs ++ n ∷ []) ≡ firsts agree xs = firsts_push agree xs n below ∙ rw known (append-nil (firsts agree xs)) in
            elim (cases_Bool (agree i n)) [
              | inl here ↦ longer ∙ rw here (or_right (list_any (agree i) xs)) ∙ sym (same_any i n here xs ∙ known) ∙ so_far ∙ ap (list_any (agree i)) (sym same)
              | inr away ↦ longer ∙ rw away (or_false' (list_any (agree i) xs)) ∙ so_far ∙ ap (list_any (agree i)) (sym same)
            ]
        | inr new ↦
            let more : firsts agree (xs ++ n ∷ []) ≡ firsts agree xs ++ n ∷ [] = firsts_push agree xs n below ∙ rw new refl in
            longer ∙ ap (λ b. b || (agree i n || false)) so_far ∙ sym (ap (list_any (agree i)) more ∙ list_any-append (agree i) (firsts agree xs) (n ∷ []))
      ]
    where
      or_false' : (a : Bool) → (a || false) ≡ a
      or_false' true = refl
      or_false' false = refl

  firsts_none : firsts agree [] ≡ []
  unfolding firsts
  firsts_none = refl

  found_front : (rows : List ℕ) → IsStrictlyIncreasing rows → (i n : ℕ) → n ≤ length rows → list_any (agree i) (take n rows) ≡ list_any (agree i) (firsts agree (take n rows))
  found_front rows up i zero le = ap (list_any (agree i)) (sym firsts_none)
  found_front rows up i (suc n) le =
      let lt : n < length rows = omega (arith, le) in
      let before : AllByRecursion (λ j. j < get_or rows n 0) (take n rows) = recursion_from_All (λ j. j < get_or rows n 0) (take n rows) (λ k d inside.
      let low : k < n = omega (arith, inside, length-take n rows) in
      rw (get_or-take n rows k d low, get_or_default rows n 0 d lt) (AllPairs-from_increasing rows up k n d low lt)) in
      let next : suc n ≡ n + 1 = omega arith in
      rw (next, take_more rows n 0 lt) (found_push (take n rows) (get_or rows n 0) i before (found_front rows up i n (omega (arith, le))))

  pub found_all : (rows : List ℕ) → IsStrictlyIncreasing rows → (i : ℕ) → list_any (agree i) rows ≡ list_any (agree i) (firsts agree rows)
  found_all rows up i = let all = take_all (length rows) rows (omega arith) in rw (all) at (found_front rows up i (length rows) (omega arith))

-- ---- first rows of first rows

any_some : {A : Type 0} (t q : A → Bool) (xs : List A) → list_any t xs ≡ false → list_any t (filter q xs) ≡ false
any_some t q [] none = refl
any_some t q (x ∷ xs) none = elim (cases_Bool (t x)) [
  | inl yes' ↦ cc (rw yes' at none)
  | inr no' ↦ elim (cases_Bool (q x)) [
    | inl e ↦ rw (e, no') (any_some t q xs (rw no' at none))
    | inr e ↦ rw e (any_some t q xs (rw no' at none))
  ]
]

all_kept : (p : ℕ → Bool) (xs : List ℕ) → AllByRecursion (λ x. p x ≡ true) xs → filter p xs ≡ xs
all_kept p [] h = refl
all_kept p (x ∷ xs) h = rw h.0 (ap (λ ys. x ∷ ys) (all_kept p xs h.1))

not_true : (b : Bool) → not b ≡ true → b ≡ false
not_true true h = cc
not_true false h = refl

module _ (agree : ℕ → ℕ → Bool) where
  -- those before a first row that agree with it
  abbrev pub before_it : ℕ → ℕ → Bool
  before_it x j = nat_lt j x && agree x j

  kept_first : (rows zs : List ℕ) → AllByRecursion (λ x. is_first agree rows x ≡ true) zs → AllByRecursion (λ x. is_first agree (firsts agree rows) x ≡ true) zs
  unfolding is_first firsts
  kept_first rows [] h = tt
  kept_first rows (z ∷ zs) h = (rw (any_some (before_it z) (is_first agree rows) rows (not_true _ h.0)) refl, kept_first rows zs h.1)

  passed : (rows : List ℕ) → AllByRecursion (λ x. is_first agree rows x ≡ true) (firsts agree rows)
  unfolding firsts
  passed rows = recursion_from_All (λ x. is_first agree rows x ≡ true) (filter (is_first agree rows) rows) (filter_passes (is_first agree rows) rows)

  pub opened : (xs : List ℕ) → firsts agree xs ≡ filter (is_first agree xs) xs
  unfolding firsts
  opened xs = refl

  pub firsts_again : (rows : List ℕ) → firsts agree (firsts agree rows) ≡ firsts agree rows
  firsts_again rows = opened (firsts agree rows) ∙ all_kept (is_first agree (firsts agree rows)) (firsts agree rows) (kept_first rows (firsts agree rows) (passed rows))

  pub firsts_low : (P : ℕ → Type 0) (rows : List ℕ) → AllByRecursion P rows → AllByRecursion P (firsts agree rows)
  unfolding firsts
  firsts_low P rows h = all_filter P (is_first agree rows) rows h

  module _ (equiv : IsEquivalence agree) where
    -- what is asked of first rows alone
    new_alike : (part : List ℕ) → IsStrictlyIncreasing part → (ys : List ℕ) →
        filter (λ y. not (list_any (agree y) part)) ys ≡ filter (λ y. not (list_any (agree y) (firsts agree part))) ys
    new_alike part up [] = refl
    new_alike part up (y ∷ ys) =
        rw (found_all agree equiv part up y) (ap (λ zs. cond (not (list_any (agree y) (firsts agree part))) (y ∷ zs) zs) (new_alike part up ys))

    pub above_all : (from : ℕ) (parts : List (List ℕ)) → AreParts from parts → (f : List ℕ → List ℕ) → ((P : ℕ → Type 0) (part : List ℕ) → AllByRecursion P part → AllByRecursion P (f part))
        → AllByRecursion (λ row. from ≤ row) (flat_map f parts)
    above_all from [] are f low = tt
    above_all from (part ∷ parts) are f low =
        all_append (λ row. from ≤ row) (f part) (flat_map f parts) (low (λ row. from ≤ row) part are.low)
        (weaker from are.next are.onward (flat_map f parts) (above_all are.next parts are.later f low))
      where
        weaker : (a b : ℕ) → a ≤ b → (xs : List ℕ) → AllByRecursion (λ row. b ≤ row) xs → AllByRecursion (λ row. a ≤ row) xs
        weaker a b le [] h = tt
        weaker a b le (x ∷ xs) h = (omega (arith, le, h.0), weaker a b le xs h.1)

    -- the first rows of all rows are those of the first rows of the parts
    pub firsts_parts : (from : ℕ) (parts : List (List ℕ)) → AreParts from parts → firsts agree (flat_map (λ part. part) parts) ≡ firsts agree (flat_map (firsts agree) parts)
    firsts_parts from [] are = refl
    firsts_parts from (part ∷ parts) are =
        let rest = flat_map (λ p. p) parts in
        let some = flat_map (firsts agree) parts in
        let all_above = above_all are.next parts are.later (λ p. p) (λ P p h. h) in
        let some_above = above_all are.next parts are.later (firsts agree) firsts_low in
        firsts_append agree are.next part rest are.high all_above
        ∙ ap (λ ys. firsts agree part ++ ys) (new_alike part are.rises (firsts agree rest) ∙ ap (filter (λ y. not (list_any (agree y) (firsts agree part)))) (firsts_parts are.next parts are.later))
        ∙ ap (λ xs. xs ++ filter (λ y. not (list_any (agree y) (firsts agree part))) (firsts agree some)) (sym (firsts_again part))
        ∙ sym (firsts_append agree are.next (firsts agree part) some (firsts_low (λ row. row < are.next) part are.high) some_above)

-- ---- the number of a row

range_moved : {X : Type 0} (g : ℕ → X) (a n : ℕ) → map g (range_with_len (a + 1) n) ≡ map (λ k. g (suc k)) (range_with_len a n)
range_moved g a zero = refl
range_moved g a (suc n) = let next : a + 1 ≡ suc a = omega arith in ap₂ (λ (k : ℕ) ys. g k ∷ ys) next (range_moved g (a + 1) n)

pub map_places : {X : Type 0} (f : ℕ → X) (xs : List ℕ) → map (λ k. f (get_or xs k 0)) (range_with_len 0 (length xs)) ≡ map f xs
map_places f [] = refl
map_places f (x ∷ xs) = ap (λ ys. f x ∷ ys) (range_moved (λ k. f (get_or (x ∷ xs) k 0)) 0 (length xs) ∙ map_places f xs)

pub any_at : {A : Type 0} (p : A → Bool) (xs : List A) (i : ℕ) (d : A) → i < length xs → p (get_or xs i d) ≡ true → list_any p xs ≡ true
any_at p [] i d lt h = absurd (omega (arith, lt))
any_at p (x ∷ xs) zero d lt h = rw h refl
any_at p (x ∷ xs) (suc i) d lt h = rw (any_at p xs i d (omega (arith, lt)) h) (or_right' (p x))
  where
    or_right' : (b : Bool) → (b || true) ≡ true
    or_right' true = refl
    or_right' false = refl

none_at : (p : ℕ → Bool) (xs : List ℕ) → list_any p xs ≡ false → (i : ℕ) → i < length xs → p (get_or xs i 0) ≡ false
none_at p xs none i lt = elim (cases_Bool (p (get_or xs i 0))) [
  | inl yes' ↦ let some : list_any p xs ≡ true = any_at p xs i 0 lt yes' in cc
  | inr no' ↦ no'
]

module _ (agree : ℕ → ℕ → Bool) (equiv : IsEquivalence agree) where
  pub same_number : (i n : ℕ) → agree i n ≡ true → (first : List ℕ) → number_in agree first i ≡ number_in agree first n
  same_number i n here [] = refl
  same_number i n here (f ∷ fs) = ap₂ (λ (b : Bool) (k : ℕ). cond b 0 (suc k)) (equiv.congr i n f here) (same_number i n here fs)

  pub number_finds : (first : List ℕ) (row : ℕ) → list_any (agree row) first ≡ true → (number_in agree first row < length first) × (agree row (get_or first (number_in agree first row) 0) ≡ true)
  number_finds [] row some = cc
  number_finds (f ∷ fs) row some = elim (cases_Bool (agree row f)) [
    | inl e ↦ rw e (omega arith, e)
    | inr e ↦ let found = number_finds fs row (rw e at some) in rw e (omega (arith, found.0), found.1)
  ]

  number_skips : (x : ℕ) (first : List ℕ) (k : ℕ) → k < length first → ((j : ℕ) → j < k → agree x (get_or first j 0) ≡ false) → agree x (get_or first k 0) ≡ true → number_in agree first x ≡ k
  number_skips x [] k lt other here = absurd (omega (arith, lt))
  number_skips x (f ∷ fs) zero lt other here = rw here refl
  number_skips x (f ∷ fs) (suc k) lt other here =
      rw (other 0 (omega arith)) (ap suc (number_skips x fs k (omega (arith, lt)) (λ j low. other (suc j) (omega (arith, low))) here))

  module _ (rows : List ℕ) (up : IsStrictlyIncreasing rows) where
    abbrev pub first : List ℕ
    first = firsts agree rows

    first_up : IsStrictlyIncreasing first
    first_up = rw (opened agree rows) (IsStrictlyIncreasing-filter (is_first agree rows) rows up)

    apart : (j k : ℕ) → j < k → k < length first → agree (get_or first k 0) (get_or first j 0) ≡ false
    unfolding is_first
    apart j k lt inside =
        let x = get_or first k 0 in
        let low : get_or first j 0 < x = AllPairs-from_increasing first first_up j k 0 lt inside in
        let each = All-from_recursion (λ y. is_first agree first y ≡ true) first (kept_first agree rows first (passed agree rows)) in
        let none = none_at (before_it agree x) first (not_true _ (each k 0 inside)) j (omega (arith, lt, inside)) in
        rw (lt-ltb _ _ low) at none

    pub number_at : (k : ℕ) → k < length first → number_in agree first (get_or first k 0) ≡ k
    number_at k lt = number_skips (get_or first k 0) first k lt (λ j low. apart j k low lt) (equiv.refl (get_or first k 0))

    pub found_first : (i : ℕ) (d : ℕ) → i < length rows → list_any (agree (get_or rows i d)) first ≡ true
    found_first i d lt = sym (found_all agree equiv rows up (get_or rows i d)) ∙ any_at (agree (get_or rows i d)) rows i d lt (equiv.refl (get_or rows i d))

    -- the rows of a number are the class of its first row
    numbered_alike : (k : ℕ) → k < length first → (row : ℕ) → list_any (agree row) first ≡ true → (number_in agree first row == k) ≡ agree (get_or first k 0) row
    numbered_alike k lt row known = elim (cases_Bool (agree (get_or first k 0) row)) [
      | inl yes' ↦
          let same : number_in agree first row ≡ k = sym (same_number (get_or first k 0) row yes' first) ∙ number_at k lt in
          eq-eqb (number_in agree first row) k same ∙ sym yes'
      | inr no' ↦ elim (cases_Bool (number_in agree first row == k)) [
        | inl e ↦
            let same : number_in agree first row ≡ k = eqb-true _ _ e in
            let here : agree row (get_or first k 0) ≡ true = rw same at ((number_finds first row known).1) in
            let there : agree (get_or first k 0) row ≡ true = equiv.symm (get_or first k 0) row ∙ here in cc
        | inr e ↦ e ∙ sym no'
      ]
    ]

    class_numbered : (k : ℕ) → k < length first → filter (λ row. number_in agree first row == k) rows ≡ class agree rows (get_or first k 0)
    unfolding class
    class_numbered k lt = filter_agree_on (λ row. number_in agree first row == k) (agree (get_or first k 0)) rows
        (recursion_from_All (λ row. (number_in agree first row == k) ≡ agree (get_or first k 0) row) rows (λ i d inside. numbered_alike k lt (get_or rows i d) (found_first i d inside)))

    zip_classes : (fs : List ℕ) → zip fs (map (class agree rows) fs) ≡ map (λ i. (i, class agree rows i)) fs
    zip_classes [] = refl
    zip_classes (f ∷ fs) = ap (λ ps. (f, class agree rows f) ∷ ps) (zip_classes fs)

    -- so that the numbers of the rows tell the groups
    pub groups_numbered : zip first (lists_by rows (map (number_in agree first) rows) (length first)) ≡ groups agree rows
    unfolding groups
    groups_numbered =
        let h : ℕ → List ℕ = λ k. class agree rows (get_or first k 0) in
        ap (zip first)
        (map_range_same (rows_of rows (map (number_in agree first) rows)) h (length first) [] (λ k lt. rows_by (number_in agree first) rows k ∙ class_numbered k lt)
        ∙ map_places (class agree rows) first)
        ∙ zip_classes first

  -- a row has the number of the first row of its part
  pub number_through : (part : List ℕ) → IsStrictlyIncreasing part → (all : List ℕ) (i : ℕ) (d : ℕ) → i < length part
      → number_in agree all (get_or part i d) ≡ number_in agree all (get_or (firsts agree part) (number_in agree (firsts agree part) (get_or part i d)) 0)
  number_through part up all i d lt =
      let row = get_or part i d in
      same_number row _ ((number_finds (firsts agree part) row (found_first part up i d lt)).1) all

-- ---- numbers from groups

firsts_in_pairs : {X : Type 0} (fs : List ℕ) (xs : List X) → length xs ≡ length fs → map (λ (p : ℕ × X). p.0) (zip fs xs) ≡ fs
firsts_in_pairs [] xs same = refl
firsts_in_pairs (f ∷ fs) [] same = absurd (omega (arith, same))
firsts_in_pairs (f ∷ fs) (x ∷ xs) same = ap (λ ys. f ∷ ys) (firsts_in_pairs fs xs (omega (arith, same)))

seconds_in_pairs : {X : Type 0} (fs : List ℕ) (xs : List X) → length xs ≡ length fs → map (λ (p : ℕ × X). p.1) (zip fs xs) ≡ xs
seconds_in_pairs [] [] same = refl
seconds_in_pairs [] (x ∷ xs) same = absurd (omega (arith, same))
seconds_in_pairs (f ∷ fs) [] same = absurd (omega (arith, same))
seconds_in_pairs (f ∷ fs) (x ∷ xs) same = ap (λ ys. x ∷ ys) (seconds_in_pairs fs xs (omega (arith, same)))

-- the lists of groups by numbers
pub pairs_lists : (rows numbers first : List ℕ) → map rows_of_pair (pairs_by rows numbers first) ≡ lists_by rows numbers (length first)
pairs_lists rows numbers first = seconds_in_pairs first (lists_by rows numbers (length first)) (length-map-range_with_len (rows_of rows numbers) 0 (length first))

-- and their first rows
pub pairs_firsts : (rows numbers first : List ℕ) → map first_of (pairs_by rows numbers first) ≡ first
pairs_firsts rows numbers first = firsts_in_pairs first (lists_by rows numbers (length first)) (length-map-range_with_len (rows_of rows numbers) 0 (length first))

-- numbers are what is known of the rows of each
numbers_by : (f : ℕ → ℕ) (groups : ℕ) (rows numbers : List ℕ) → length numbers ≡ length rows → AllByRecursion (λ number. number < groups) numbers
    → ((k : ℕ) → k < groups → AllByRecursion (λ row. f row ≡ k) (rows_of rows numbers k)) → numbers ≡ map f rows
unfolding rows_of
numbers_by f groups [] [] same known each = refl
numbers_by f groups [] (number ∷ numbers) same known each = absurd (omega (arith, same))
numbers_by f groups (row ∷ rows) [] same known each = absurd (omega (arith, same))
numbers_by f groups (row ∷ rows) (number ∷ numbers) same known each =
    let mine : AllByRecursion (λ r. f r ≡ number) (row ∷ rows_of rows numbers number) = rw (eq-eqb number number refl) at (each number known.0) in
    ap₂ (λ (k : ℕ) ks. k ∷ ks) (sym mine.0) (numbers_by f groups rows numbers (omega (arith, same)) known.1 (λ k lt. elim (cases_Bool (number == k)) [
      | inl e ↦ (rw e at (each k lt)).1
      | inr e ↦ rw e at (each k lt)
    ]))

module _ (agree : ℕ → ℕ → Bool) (equiv : IsEquivalence agree) (rows numbers given : List ℕ) (up : IsStrictlyIncreasing rows)
    (same : length numbers ≡ length rows) (known : AllByRecursion (λ number. number < length given) numbers)
    (are : zip given (lists_by rows numbers (length given)) ≡ groups agree rows) where
  firsts_of_groups : (fs : List ℕ) → map (λ (p : ℕ × List ℕ). p.0) (map (λ i. (i, class agree rows i)) fs) ≡ fs
  firsts_of_groups [] = refl
  firsts_of_groups (f ∷ fs) = ap (λ ys. f ∷ ys) (firsts_of_groups fs)

  classes_of_groups : (fs : List ℕ) → map (λ (p : ℕ × List ℕ). p.1) (map (λ i. (i, class agree rows i)) fs) ≡ map (class agree rows) fs
  classes_of_groups [] = refl
  classes_of_groups (f ∷ fs) = ap (λ ys. class agree rows f ∷ ys) (classes_of_groups fs)

  groups_opened : groups agree rows ≡ map (λ i. (i, class agree rows i)) (firsts agree rows)
  unfolding groups
  groups_opened = refl

  as_many_lists : length (lists_by rows numbers (length given)) ≡ length given
  as_many_lists = length-map-range_with_len (rows_of rows numbers) 0 (length given)

  given_firsts : given ≡ firsts agree rows
  given_firsts =
      sym (firsts_in_pairs given _ as_many_lists) ∙ ap (map (λ (p : ℕ × List ℕ). p.0)) (are ∙ groups_opened) ∙ firsts_of_groups (firsts agree rows)

  given_lists : lists_by rows numbers (length given) ≡ map (class agree rows) (firsts agree rows)
  given_lists =
      sym (seconds_in_pairs given _ as_many_lists) ∙ ap (map (λ (p : ℕ × List ℕ). p.1)) (are ∙ groups_opened) ∙ classes_of_groups (firsts agree rows)

  list_at : (k : ℕ) → k < length given → rows_of rows numbers k ≡ class agree rows (get_or (firsts agree rows) k 0)
  list_at k lt =
      sym (get_or-map-range_with_len (rows_of rows numbers) 0 (length given) k k [] lt (omega arith))
      ∙ ap (λ (ls : List (List ℕ)). get_or ls k []) given_lists
      ∙ get_or-map (class agree rows) (firsts agree rows) k 0 [] (rw given_firsts at lt)

  class_agrees : (i : ℕ) → AllByRecursion (λ row. agree i row ≡ true) (class agree rows i)
  unfolding class
  class_agrees i = recursion_from_All (λ row. agree i row ≡ true) (filter (agree i) rows) (filter_passes (agree i) rows)

  all_numbered : (i k : ℕ) → number_in agree (firsts agree rows) i ≡ k → (xs : List ℕ) → AllByRecursion (λ row. agree i row ≡ true) xs → AllByRecursion (λ row. number_in agree (firsts agree rows) row ≡ k) xs
  all_numbered i k is [] h = tt
  all_numbered i k is (x ∷ xs) h = (sym (same_number agree equiv i x h.0 (firsts agree rows)) ∙ is, all_numbered i k is xs h.1)

  -- rows in groups by their numbers have the numbers of their first rows
  pub numbers_told : AreNumbersOf agree rows given numbers
  numbers_told = record {
    first_is = given_firsts;
    numbers_are = numbers_by (number_in agree given) (length given) rows numbers same known (λ k lt.
        let inside : k < length (firsts agree rows) = rw given_firsts at lt in
        let i = get_or (firsts agree rows) k 0 in
        let all = all_numbered i k (number_at agree equiv rows up k inside) (class agree rows i) (class_agrees i) in
        rw (given_firsts, list_at k lt) all);
  }

-- ---- numbers are those of groups

module _ (agree : ℕ → ℕ → Bool) (equiv : IsEquivalence agree) (rows : List ℕ) (up : IsStrictlyIncreasing rows) where
  known_all : (all : List ℕ) (xs : List ℕ) → AllByRecursion (λ row. list_any (agree row) all ≡ true) xs → AllByRecursion (λ number. number < length all) (map (number_in agree all) xs)
  known_all all [] h = tt
  known_all all (x ∷ xs) h = ((number_finds agree equiv all x h.0).0, known_all all xs h.1)

  pub all_found : AllByRecursion (λ row. list_any (agree row) (firsts agree rows) ≡ true) rows
  all_found = recursion_from_All (λ row. list_any (agree row) (firsts agree rows) ≡ true) rows (λ i d lt. found_first agree equiv rows up i d lt)

  -- each row has the number of a group
  pub numbers_known : (first numbers : List ℕ) → AreNumbersOf agree rows first numbers → AllByRecursion (λ number. number < length first) numbers
  numbers_known first numbers are = rw (are.numbers_are, are.first_is) (known_all (firsts agree rows) rows all_found)

-- ---- rows have one number where they agree

module _ (agree : ℕ → ℕ → Bool) (equiv : IsEquivalence agree) (rows first numbers : List ℕ) (up : IsStrictlyIncreasing rows) (are : AreNumbersOf agree rows first numbers) where
  number_read : (i : ℕ) → i < length rows → get_or numbers i 0 ≡ number_in agree first (get_or rows i 0)
  number_read i lt = ap (λ ns. get_or ns i 0) are.numbers_are ∙ get_or-map (number_in agree first) rows i 0 0 lt

  row_found : (i : ℕ) → i < length rows → list_any (agree (get_or rows i 0)) first ≡ true
  row_found i lt = rw are.first_is (All-from_recursion (λ row. list_any (agree row) (firsts agree rows) ≡ true) rows (all_found agree equiv rows up) i 0 lt)

  pub one_number : (i j : ℕ) → i < length rows → j < length rows → (get_or numbers i 0 == get_or numbers j 0) ≡ agree (get_or rows i 0) (get_or rows j 0)
  one_number i j lt lt' =
      let x = get_or rows i 0 in
      let y = get_or rows j 0 in
      rw (number_read i lt, number_read j lt') (elim (cases_Bool (agree x y)) [
        | inl yes' ↦ eq-eqb _ _ (same_number agree equiv x y yes' first) ∙ sym yes'
        | inr no' ↦ elim (cases_Bool (number_in agree first x == number_in agree first y)) [
          | inl e ↦
              let same : number_in agree first x ≡ number_in agree first y = eqb-true _ _ e in
              let mine : agree x (get_or first (number_in agree first y) 0) ≡ true = rw same at ((number_finds agree equiv first x (row_found i lt)).1) in
              let its = (number_finds agree equiv first y (row_found j lt')).1 in
              let here : agree x y ≡ true = equiv.symm x y ∙ equiv.congr y (get_or first (number_in agree first y) 0) x its ∙ equiv.symm (get_or first (number_in agree first y) 0) x ∙ mine in cc
          | inr e ↦ e ∙ sym no'
        ]
      ])

-- ---- numbers of some rows that agree alike

module _ (a b : ℕ → ℕ → Bool) (n : ℕ) (alike : (i j : ℕ) → i < n → j < n → a i j ≡ b i j) (rows : List ℕ) (below : AllByRecursion (λ row. row < n) rows) where
  first_same : (i : ℕ) → i < n → is_first a rows i ≡ is_first b rows i
  unfolding is_first
  first_same i lt =
      ap not (any_agree_on (λ j. nat_lt j i && a i j) (λ j. nat_lt j i && b i j) rows
      (all_from_below (λ j. (nat_lt j i && a i j) ≡ (nat_lt j i && b i j)) n (λ j lt'. ap (λ t. nat_lt j i && t) (alike i j lt lt')) rows below))

  firsts_same : firsts a rows ≡ firsts b rows
  unfolding firsts
  firsts_same = filter_agree_on (is_first a rows) (is_first b rows) rows (all_from_below (λ i. is_first a rows i ≡ is_first b rows i) n first_same rows below)

  number_same : (row : ℕ) → row < n → (fs : List ℕ) → AllByRecursion (λ f. f < n) fs → number_in a fs row ≡ number_in b fs row
  number_same row lt [] low = refl
  number_same row lt (f ∷ fs) low = ap₂ (λ (t : Bool) (k : ℕ). cond t 0 (suc k)) (alike row f lt low.0) (number_same row lt fs low.1)

  pub members_alike : (first numbers : List ℕ) → AreNumbersOf a rows first numbers → AreNumbersOf b rows first numbers
  members_alike first numbers are =
      let low : AllByRecursion (λ f. f < n) first = rw are.first_is (firsts_low a (λ row. row < n) rows below) in
      record {
        first_is = are.first_is ∙ firsts_same;
        numbers_are = are.numbers_are ∙ map_agree_on (number_in a first) (number_in b first) rows
            (all_from_below (λ i. number_in a first i ≡ number_in b first i) n (λ i lt. number_same i lt first low) rows below);
      }
