-- Rows that each tell the first row of their group, and the numbers of the groups.
use Rattle.std.proofs.Common.{◌≡◌, ◌≢◌, ℕ, zero, suc, cond, ◌+◌, ◌<◌, ◌≤◌, ◌==◌, Bool, true, false, not, ◌&&◌, ◌||◌, inl, inr, List, [], ◌∷◌, ◌++◌, drop, length, get_or, map, filter, refl, set, sym, subst, take, ◌∙◌, ap, ap₂, arith, eq-eqb, append-nil}
use Rattle.std.specs.Cmp.{IsEquivalence, on_equiv}
use Rattle.std.specs.List.{AllByRecursion, list_any, range_with_len}
use Rattle.std.specs.List.Sorted.{IsStrictlyIncreasing}
use Rattle.std.proofs.lemmas.Bool.{cases_Bool, eqb-false, eqb-true, le-ltb}
use Rattle.std.proofs.lemmas.Cmp.{nat_eq_equiv}
use Rattle.std.proofs.lemmas.List.{get_or-set_other, get_or-set_same, length-set, map-append, take_more}
use Rattle.std.proofs.lemmas.List.Elements.{All-from_recursion, filter_passes, recursion_from_All}
use Rattle.std.proofs.lemmas.List.FromFn.{fill_by_all, get_or-map-range_with_len, get_or-range_with_len, length-map-range_with_len, length-range_with_len}
use Rattle.std.proofs.lemmas.List.Kept.{AllPairs-from_increasing, IsStrictlyIncreasing-filter}
use Rattle.std.proofs.lemmas.Simd.{map-map}
use Rattle.gb_defs.specs.Classes.{firsts, is_first, rows_below}
use Rattle.gb_defs.specs.Hash.{partition_of}
use Rattle.gb_defs.specs.Partitions.{in_partition}
use Rattle.gb_defs.proofs.ClassesLemmas.{all_filter, firsts_few, firsts_push, map_agree_on, rows_below_all, rows_below_more}
use Rattle.gb_paths.specs.Leaders.{AreLeaders, leader_in, led, put_at, put_parts, same_leader}
use Rattle.gb_paths.specs.declared.leaders.LedRows.{LedRows}
use Rattle.gb_paths.specs.Partitions.{rows_by_partition}
use Rattle.gb_paths.specs.Numbering.{AreNumbersOf, number_in}
use Rattle.gb_paths.proofs.NextLemmas.{next_new, next_old}
use Rattle.gb_paths.proofs.NumberingLemmas.{all_found, any_at, before_it, found_all, members_alike, numbers_known, opened, same_number}

-- ---- the first row that agrees

module _ (agree : ℕ → ℕ → Bool) where
  -- it is found among those that pass a test, where it passes
  pub leader_kept : (row : ℕ) (q : ℕ → Bool) (rows : List ℕ) → list_any (agree row) rows ≡ true → q (leader_in agree rows row) ≡ true
      → leader_in agree (filter q rows) row ≡ leader_in agree rows row
  leader_kept row q [] some kept = cc
  leader_kept row q (x ∷ xs) some kept = elim (cases_Bool (agree row x)) [
    | inl yes' ↦ let passes : q x ≡ true = rw yes' at kept in rw (passes, yes') refl
    | inr no' ↦ elim (cases_Bool (q x)) [
      | inl e ↦ rw (e, no') (leader_kept row q xs (rw no' at some) (rw no' at kept))
      | inr e ↦ rw (e, no') (leader_kept row q xs (rw no' at some) (rw no' at kept))
    ]
  ]

  pub leader_agrees : (row : ℕ) (rows : List ℕ) → list_any (agree row) rows ≡ true → agree row (leader_in agree rows row) ≡ true
  leader_agrees row [] some = cc
  leader_agrees row (x ∷ xs) some = elim (cases_Bool (agree row x)) [
    | inl yes' ↦ rw yes' yes'
    | inr no' ↦ rw no' (leader_agrees row xs (rw no' at some))
  ]

  -- it is the row at the number among first rows
  pub leader_at : (row : ℕ) (rows : List ℕ) → list_any (agree row) rows ≡ true → get_or rows (number_in agree rows row) 0 ≡ leader_in agree rows row
  leader_at row [] some = cc
  leader_at row (x ∷ xs) some = elim (cases_Bool (agree row x)) [
    | inl yes' ↦ rw yes' refl
    | inr no' ↦ rw no' (leader_at row xs (rw no' at some))
  ]

  low_none : (x : ℕ) (ys : List ℕ) → AllByRecursion (λ y. x ≤ y) ys → list_any (before_it agree x) ys ≡ false
  low_none x [] low = refl
  low_none x (y ∷ ys) low = rw (le-ltb y x low.0) (low_none x ys low.1)

above_first : (x : ℕ) (xs : List ℕ) → IsStrictlyIncreasing (x ∷ xs) → AllByRecursion (λ y. x ≤ y) (x ∷ xs)
above_first x xs up = recursion_from_All (λ y. x ≤ y) (x ∷ xs) each
  where
    each : (k : ℕ) (d : ℕ) → k < length (x ∷ xs) → x ≤ get_or (x ∷ xs) k d
    each zero d lt = omega arith
    each (suc k) d lt = let less = AllPairs-from_increasing (x ∷ xs) up 0 (suc k) d (omega arith) lt in omega (arith, less)

rises_behind : (x : ℕ) (xs : List ℕ) → IsStrictlyIncreasing (x ∷ xs) → IsStrictlyIncreasing xs
rises_behind x xs up k lt = let e : suc k + 1 ≡ suc (k + 1) = omega arith in rw e at (up (suc k) (omega (arith, lt)))

module _ (agree : ℕ → ℕ → Bool) (equiv : IsEquivalence agree) where
  pub same_leader_of : (row other : ℕ) → agree row other ≡ true → (rows : List ℕ) → leader_in agree rows row ≡ leader_in agree rows other
  same_leader_of row other here [] = refl
  same_leader_of row other here (x ∷ xs) = ap₂ (λ (b : Bool) (r : ℕ). cond b x r) (equiv.congr row other x here) (same_leader_of row other here xs)

  none_before_leader : (row : ℕ) (rows : List ℕ) → IsStrictlyIncreasing rows → list_any (agree row) rows ≡ true → list_any (before_it agree (leader_in agree rows row)) rows ≡ false
  none_before_leader row [] up some = cc
  none_before_leader row (x ∷ xs) up some = elim (cases_Bool (agree row x)) [
    | inl yes' ↦
        let is : leader_in agree (x ∷ xs) row ≡ x = rw yes' refl in
        subst (λ l. list_any (before_it agree l) (x ∷ xs) ≡ false) (sym is) (low_none agree x (x ∷ xs) (above_first x xs up))
    | inr no' ↦
        let is : leader_in agree (x ∷ xs) row ≡ leader_in agree xs row = rw no' refl in
        let later : list_any (agree row) xs ≡ true = rw no' at some in
        let apart : agree (leader_in agree xs row) x ≡ false = sym (equiv.congr row (leader_in agree xs row) x (leader_agrees agree row xs later)) ∙ no' in
        let rest = none_before_leader row xs (rises_behind x xs up) later in
        subst (λ l. list_any (before_it agree l) (x ∷ xs) ≡ false) (sym is) (rw (apart, rest) (or_none _ (and_false _) refl))
  ]
    where
      and_false : (b : Bool) → (b && false) ≡ false
      and_false true = refl
      and_false false = refl

      or_none : {b : Bool} (a : Bool) → a ≡ false → b ≡ false → (a || b) ≡ false
      or_none a e f = rw (e, f) refl

  leader_first : (row : ℕ) (rows : List ℕ) → IsStrictlyIncreasing rows → list_any (agree row) rows ≡ true → is_first agree rows (leader_in agree rows row) ≡ true
  unfolding is_first
  leader_first row rows up some = ap not (none_before_leader row rows up some)

  -- the first row that agrees is so among first rows too
  pub leader_firsts : (row : ℕ) (rows : List ℕ) → IsStrictlyIncreasing rows → list_any (agree row) rows ≡ true → leader_in agree (firsts agree rows) row ≡ leader_in agree rows row
  leader_firsts row rows up some = ap (λ xs. leader_in agree xs row) (opened agree rows) ∙ leader_kept agree row (is_first agree rows) rows some (leader_first row rows up some)

  leader_low : (row : ℕ) (rows : List ℕ) → IsStrictlyIncreasing rows → (k : ℕ) (d : ℕ) → k < length rows → agree row (get_or rows k d) ≡ true → leader_in agree rows row ≤ get_or rows k d
  leader_low row [] up k d lt here = absurd (omega (arith, lt))
  leader_low row (x ∷ xs) up zero d lt here = rw here (omega arith)
  leader_low row (x ∷ xs) up (suc k) d lt here = elim (cases_Bool (agree row x)) [
    | inl yes' ↦ rw yes' (All-from_recursion (λ y. x ≤ y) (x ∷ xs) (above_first x xs up) (suc k) d lt)
    | inr no' ↦ rw no' (leader_low row xs (rises_behind x xs up) k d (omega (arith, lt)) here)
  ]

  -- ---- the first row that agrees with each of all rows

  module _ (n : ℕ) where
    abbrev all : List ℕ
    all = rows_below n

    abbrev pub leader_of : ℕ → ℕ
    leader_of row = leader_in agree all row

    abbrev pub leaders_of : List ℕ
    leaders_of = map leader_of all

    all_up : IsStrictlyIncreasing all
    all_up k lt =
        let long = length-range_with_len 0 n in
        rw (get_or-range_with_len 0 n k 0 (omega (arith, lt, long)), get_or-range_with_len 0 n (k + 1) 0 (omega (arith, lt, long))) (omega arith)

    row_is : (row : ℕ) → row < n → get_or all row 0 ≡ row
    row_is row lt = get_or-range_with_len 0 n row 0 lt ∙ omega arith

    any_row : (row : ℕ) → row < n → list_any (agree row) all ≡ true
    any_row row lt =
        let long = length-range_with_len 0 n in
        any_at (agree row) all row 0 (omega (arith, lt, long)) (rw (row_is row lt) (equiv.refl row))

    leader_below : (row : ℕ) → row < n → leader_of row ≤ row
    leader_below row lt =
        let long = length-range_with_len 0 n in
        let is = row_is row lt in
        rw is at (leader_low row all all_up row 0 (omega (arith, lt, long)) (rw is (equiv.refl row)))

    leader_own : (row : ℕ) → row < n → leader_of (leader_of row) ≡ leader_of row
    leader_own row lt = sym (same_leader_of row (leader_of row) (leader_agrees agree row all (any_row row lt)) all)

    read_leader : (row : ℕ) → row < n → get_or leaders_of row 0 ≡ leader_of row
    read_leader row lt = get_or-map-range_with_len leader_of 0 n row row 0 lt (omega arith)

    pub are_leaders : AreLeaders leaders_of
    are_leaders = record {
      low = λ row lt. let inside : row < n = omega (arith, lt, length-map-range_with_len leader_of 0 n) in rw (read_leader row inside) (leader_below row inside);
      own = λ row lt.
          let inside : row < n = omega (arith, lt, length-map-range_with_len leader_of 0 n) in
          let below = leader_below row inside in
          rw (read_leader row inside, read_leader (leader_of row) (omega (arith, inside, below))) (leader_own row inside);
    }

    -- rows agree where they have one first row
    pub leaders_alike : (row other : ℕ) → row < n → other < n → same_leader leaders_of row other ≡ agree row other
    leaders_alike row other lt lt' =
        rw (read_leader row lt, read_leader other lt') (elim (cases_Bool (agree row other)) [
          | inl yes' ↦ eq-eqb _ _ (same_leader_of row other yes' all) ∙ sym yes'
          | inr no' ↦ elim (cases_Bool (leader_of row == leader_of other)) [
            | inl e ↦
                let same : leader_of row ≡ leader_of other = eqb-true _ _ e in
                let mine : agree row (leader_of other) ≡ true = rw same at (leader_agrees agree row all (any_row row lt)) in
                let its : agree other (leader_of other) ≡ true = leader_agrees agree other all (any_row other lt') in
                let here : agree row other ≡ true =
                equiv.symm row other ∙ equiv.congr other (leader_of other) row its ∙ equiv.symm (leader_of other) row ∙ mine in cc
            | inr e ↦ e ∙ sym no'
          ]
        ])

-- ---- numbers of all rows that agree alike

pub numbers_alike : (a b : ℕ → ℕ → Bool) (n : ℕ) → ((i j : ℕ) → i < n → j < n → a i j ≡ b i j) → (first numbers : List ℕ) → AreNumbersOf a (rows_below n) first numbers → AreNumbersOf b (rows_below n) first numbers
numbers_alike a b n alike = members_alike a b n alike (rows_below n) (rows_below_all n)

-- ---- numbers of one row more

module _ (leaders : List ℕ) where
  pub same_equiv : IsEquivalence (same_leader leaders)
  same_equiv = record {
    refl = λ x. eq-eqb (get_or leaders x 0) (get_or leaders x 0) refl;
    symm = λ x y. on_leaders.symm x y;
    congr = λ x y z here. on_leaders.congr x y z here;
  }
    where
      on_leaders : IsEquivalence (same_leader leaders)
      on_leaders = on_equiv (λ row. get_or leaders row 0) nat_eq_equiv

  pub numbers_all : (n : ℕ) (first numbers : List ℕ) → AreNumbersOf (same_leader leaders) (rows_below n) first numbers → AllByRecursion (λ number. number < length first) numbers
  numbers_all n first numbers are' = numbers_known (same_leader leaders) same_equiv (rows_below n) (all_up (same_leader leaders) same_equiv n) first numbers are'

  module _ (are : AreLeaders leaders) (row : ℕ) (lt : row < length leaders) (first numbers : List ℕ) (so_far : AreNumbersOf (same_leader leaders) (rows_below row) first numbers) where
    abbrev same : ℕ → ℕ → Bool
    same = same_leader leaders

    abbrev leader : ℕ
    leader = get_or leaders row 0

    -- a row that leads its group agrees with none before
    none_leads : leader ≡ row → (xs : List ℕ) → AllByRecursion (λ j. j < row) xs → list_any (same row) xs ≡ false
    none_leads is [] below = refl
    none_leads is (x ∷ xs) below = elim (cases_Bool (same row x)) [
      | inl e ↦
          let there : get_or leaders row 0 ≡ get_or leaders x 0 = eqb-true _ _ e in
          absurd (omega (arith, there, is, below.0, are.low x (omega (arith, below.0, lt))))
      | inr e ↦ rw e (none_leads is xs below.1)
    ]

    not_own : leader ≢ row → (leader < row) × (same row leader ≡ true)
    not_own other = (omega (arith, other, are.low row lt), eq-eqb _ _ (sym (are.own row lt)))

    pub next_leads : leader ≡ row → AreNumbersOf same (rows_below (row + 1)) (first ++ row ∷ []) (numbers ++ length first ∷ [])
    next_leads is = next_new same same_equiv row first numbers so_far (none_leads is (rows_below row) (rows_below_all row))

    pub next_led : leader ≢ row → AreNumbersOf same (rows_below (row + 1)) first (numbers ++ get_or numbers leader 0 ∷ [])
    next_led other =
        let is = not_own other in
        let some : list_any (same row) (rows_below row) ≡ true =
        any_at (same row) (rows_below row) leader 0 (omega (arith, is.0, length-range_with_len 0 row)) (rw (get_or-range_with_len 0 row leader 0 is.0 ∙ zero_more leader) is.1) in
        let mine : get_or numbers leader 0 ≡ number_in same first row =
        ap (λ ns. get_or ns leader 0) so_far.numbers_are ∙ get_or-map-range_with_len (number_in same first) 0 row leader leader 0 is.0 (omega arith)
        ∙ sym (same_number same same_equiv row leader is.1 first) in
        next_old same same_equiv row first numbers so_far (get_or numbers leader 0) mine some
      where
        zero_more : (k : ℕ) → 0 + k ≡ k
        zero_more k = omega arith

    -- in one form
    pub next_numbers : AreNumbersOf same (rows_below (row + 1)) (first ++ cond (leader == row) (row ∷ []) [])
        (numbers ++ cond (leader == row) (length first) (get_or numbers leader 0) ∷ [])
    next_numbers = elim (cases_Bool (leader == row)) [
      | inl e ↦ rw e (next_leads (eqb-true _ _ e))
      | inr e ↦ rw (e, append-nil first) (next_led (eqb-false _ _ e))
    ]

    pub first_few : length first ≤ row
    first_few = rw so_far.first_is (firsts_few same row)

-- no rows have no numbers
pub no_numbers : (agree : ℕ → ℕ → Bool) → AreNumbersOf agree [] [] []
unfolding firsts
no_numbers agree = record { first_is = refl; numbers_are = refl }

-- ---- values put into places

pub put_more : (places values : List ℕ) (k : ℕ) (xs : List ℕ) → k < length places → k < length values →
    set (put_at xs (take k places) (take k values)) (get_or places k 0) (get_or values k 0) ≡ put_at xs (take (k + 1) places) (take (k + 1) values)
put_more [] values k xs lt lt' = absurd (omega (arith, lt))
put_more (place ∷ places) [] k xs lt lt' = absurd (omega (arith, lt'))
put_more (place ∷ places) (value ∷ values) zero xs lt lt' = refl
put_more (place ∷ places) (value ∷ values) (suc k) xs lt lt' =
    let e : suc k + 1 ≡ suc (k + 1) = omega arith in
    rw e (put_more places values k (set xs place value) (omega (arith, lt)) (omega (arith, lt')))

-- they are read there: what was right stays so, and what is put is right
module _ (f : ℕ → ℕ) where
  pub put_length : (xs places values : List ℕ) → length (put_at xs places values) ≡ length xs
  put_length xs [] values = refl
  put_length xs (place ∷ places) [] = refl
  put_length xs (place ∷ places) (value ∷ values) = put_length (set xs place value) places values ∙ length-set xs place value

  pub put_kept : (xs places : List ℕ) → (row : ℕ) → row < length xs → get_or xs row 0 ≡ f row → get_or (put_at xs places (map f places)) row 0 ≡ f row
  put_kept xs [] row inside right = right
  put_kept xs (place ∷ places) row inside right =
      put_kept (set xs place (f place)) places row (omega (arith, inside, length-set xs place (f place))) (elim (cases_Bool (row == place)) [
        | inl e ↦ let same : row ≡ place = eqb-true _ _ e in rw same (get_or-set_same xs place (f place) 0 (rw same at inside))
        | inr e ↦ get_or-set_other xs place row (f place) 0 (eqb-false _ _ e) ∙ right
      ])

  pub put_right : (xs places : List ℕ) → AllByRecursion (λ place. place < length xs) places → AllByRecursion (λ row. get_or (put_at xs places (map f places)) row 0 ≡ f row) places
  put_right xs [] inside = tt
  put_right xs (place ∷ places) inside =
      let long = length-set xs place (f place) in (
        put_kept (set xs place (f place)) places place (omega (arith, long, inside.0)) (get_or-set_same xs place (f place) 0 inside.0),
        put_right (set xs place (f place)) places (longer (length xs) (length (set xs place (f place))) (sym long) places inside.1),
      )
    where
      longer : (a b : ℕ) → a ≡ b → (ps : List ℕ) → AllByRecursion (λ p. p < a) ps → AllByRecursion (λ p. p < b) ps
      longer a b e ps h = subst (λ n. AllByRecursion (λ p. p < n) ps) e h

-- ---- parts of all rows

module _ (agree : ℕ → ℕ → Bool) (equiv : IsEquivalence agree) (n : ℕ) (q : ℕ → Bool) (closed : (i j : ℕ) → i < n → j < n → agree i j ≡ true → q i ≡ q j) where
  abbrev passing : List ℕ
  passing = filter q (rows_below n)

  part_up : IsStrictlyIncreasing passing
  part_up = IsStrictlyIncreasing-filter q (rows_below n) (all_up agree equiv n)

  -- rows that agree are of one part
  part_leader : (row : ℕ) → row < n → q row ≡ true → leader_in agree passing row ≡ leader_of agree equiv n row
  part_leader row lt passes =
      let some = any_row agree equiv n row lt in
      let low : leader_of agree equiv n row < n = omega (arith, lt, leader_below agree equiv n row lt) in
      leader_kept agree row q (rows_below n) some (sym (closed row (leader_of agree equiv n row) lt low (leader_agrees agree row (rows_below n) some)) ∙ passes)

  module _ (first : List ℕ) (first_is : first ≡ firsts agree passing) where
    row_led : (row : ℕ) → row < n → q row ≡ true → list_any (agree row) (firsts agree passing) ≡ true → get_or first (number_in agree first row) 0 ≡ leader_of agree equiv n row
    row_led row lt passes found =
        let some : list_any (agree row) first ≡ true = rw first_is found in
        leader_at agree row first some ∙ ap (λ fs. leader_in agree fs row) first_is
        ∙ leader_firsts agree equiv row passing part_up (found_all agree equiv passing part_up row ∙ found)
        ∙ part_leader row lt passes

    rows_led : (xs : List ℕ) → AllByRecursion (λ row. row < n) xs → AllByRecursion (λ row. q row ≡ true) xs → AllByRecursion (λ row. list_any (agree row) (firsts agree passing) ≡ true) xs
        → AllByRecursion (λ row. get_or first (number_in agree first row) 0 ≡ leader_of agree equiv n row) xs
    rows_led [] low passes found = tt
    rows_led (x ∷ xs) low passes found = (row_led x low.0 passes.0 found.0, rows_led xs low.1 passes.1 found.1)

  -- the first rows of the numbers of a part are those of all rows
  pub part_led : (first numbers : List ℕ) → AreNumbersOf agree passing first numbers → map (λ number. get_or first number 0) numbers ≡ map (leader_of agree equiv n) passing
  part_led first numbers are =
      ap (map (λ number. get_or first number 0)) are.numbers_are
      ∙ map-map (λ number. get_or first number 0) (number_in agree first) passing
      ∙ map_agree_on (λ row. get_or first (number_in agree first row) 0) (leader_of agree equiv n) passing
      (rows_led first are.first_is passing (all_filter (λ row. row < n) q (rows_below n) (rows_below_all n))
      (recursion_from_All (λ row. q row ≡ true) passing (filter_passes q (rows_below n)))
      (all_found agree equiv passing part_up))

-- ---- leaders of several parts

abbrev pub IsRight : (ℕ → ℕ) → LedRows → Type 0
IsRight f part = part.leaders.items ≡ map f part.rows.items

abbrev pub IsInside : ℕ → LedRows → Type 0
IsInside n part = AllByRecursion (λ row. row < n) part.rows.items

abbrev pub IsPut : (ℕ → ℕ) → List ℕ → LedRows → Type 0
IsPut f xs part = AllByRecursion (λ row. get_or xs row 0 ≡ f row) part.rows.items

module _ (f : ℕ → ℕ) where
  pub parts_length : (parts : List LedRows) (xs : List ℕ) → length (put_parts xs parts) ≡ length xs
  parts_length [] xs = refl
  parts_length (part ∷ parts) xs = parts_length parts (put_at xs part.rows.items part.leaders.items) ∙ put_length f xs part.rows.items part.leaders.items

  parts_kept : (parts : List LedRows) (xs : List ℕ) → AllByRecursion (IsRight f) parts → (row : ℕ) → row < length xs → get_or xs row 0 ≡ f row → get_or (put_parts xs parts) row 0 ≡ f row
  parts_kept [] xs right row lt is = is
  parts_kept (part ∷ parts) xs right row lt is =
      let mine : get_or (put_at xs part.rows.items part.leaders.items) row 0 ≡ f row = rw right.0 (put_kept f xs part.rows.items row lt is) in
      parts_kept parts (put_at xs part.rows.items part.leaders.items) right.1 row (omega (arith, lt, put_length f xs part.rows.items part.leaders.items)) mine

  stay_put : (parts : List LedRows) (xs : List ℕ) → AllByRecursion (IsRight f) parts → (rows : List ℕ) → AllByRecursion (λ row. row < length xs) rows
      → AllByRecursion (λ row. get_or xs row 0 ≡ f row) rows → AllByRecursion (λ row. get_or (put_parts xs parts) row 0 ≡ f row) rows
  stay_put parts xs right [] inside is = tt
  stay_put parts xs right (row ∷ rows) inside is = (parts_kept parts xs right row inside.0 is.0, stay_put parts xs right rows inside.1 is.1)

  pub parts_put : (parts : List LedRows) (xs : List ℕ) → AllByRecursion (IsRight f) parts → AllByRecursion (IsInside (length xs)) parts → AllByRecursion (IsPut f (put_parts xs parts)) parts
  parts_put [] xs right inside = tt
  parts_put (part ∷ parts) xs right inside =
      let next = put_at xs part.rows.items part.leaders.items in
      let long : length xs ≡ length next = sym (put_length f xs part.rows.items part.leaders.items) in
      let mine : AllByRecursion (λ row. get_or next row 0 ≡ f row) part.rows.items = rw right.0 (put_right f xs part.rows.items inside.0) in (
        stay_put parts next right.1 part.rows.items (subst (λ n. IsInside n part) long inside.0) mine,
        parts_put parts next right.1 (subst (λ n. AllByRecursion (IsInside n) parts) long inside.1),
      )

  put_parts_more : (parts : List LedRows) (part : LedRows) (xs : List ℕ) → put_parts xs (parts ++ part ∷ []) ≡ put_at (put_parts xs parts) part.rows.items part.leaders.items
  put_parts_more [] part xs = refl
  put_parts_more (p ∷ parts) part xs = put_parts_more parts part (put_at xs p.rows.items p.leaders.items)

  pub parts_more : (parts : List LedRows) (k : ℕ) (d : LedRows) (xs : List ℕ) → k < length parts
      → put_at (put_parts xs (take k parts)) (get_or parts k d).rows.items (get_or parts k d).leaders.items ≡ put_parts xs (take (k + 1) parts)
  parts_more parts k d xs lt = sym (ap (put_parts xs) (take_more parts k d lt) ∙ put_parts_more (take k parts) (get_or parts k d) xs)

-- ---- by partitions

module _ (f : ℕ → ℕ) where
  abbrev pub with_leaders : List ℕ → List ℕ × List ℕ
  with_leaders rows = (rows, map f rows)

  module _ (part : LedRows) (parts : List LedRows) (rows : List ℕ) (lists : List (List ℕ)) (are : map led (part ∷ parts) ≡ map with_leaders (rows ∷ lists)) where
    first_with : led part ≡ with_leaders rows
    first_with = ap (λ (ls : List (List ℕ × List ℕ)). get_or ls 0 (led part)) are

    later_with : map led parts ≡ map with_leaders lists
    later_with = ap (λ (ls : List (List ℕ × List ℕ)). drop 1 ls) are

  pub led_right : (parts : List LedRows) (lists : List (List ℕ)) → map led parts ≡ map with_leaders lists → AllByRecursion (IsRight f) parts
  led_right [] lists are = tt
  led_right (part ∷ parts) [] are = cc
  led_right (part ∷ parts) (rows ∷ lists) are =
      let first = first_with part parts rows lists are in
      (ap (λ p. p.1) first ∙ ap (map f) (sym (ap (λ p. p.0) first)), led_right parts lists (later_with part parts rows lists are))

  pub led_lists : (parts : List LedRows) (lists : List (List ℕ)) → map led parts ≡ map with_leaders lists → map (λ part. part.rows.items) parts ≡ lists
  led_lists [] [] are = refl
  led_lists [] (rows ∷ lists) are = cc
  led_lists (part ∷ parts) [] are = cc
  led_lists (part ∷ parts) (rows ∷ lists) are =
      ap₂ (λ (r : List ℕ) rs. r ∷ rs) (ap (λ p. p.0) (first_with part parts rows lists are)) (led_lists parts lists (later_with part parts rows lists are))

passed_all : (P : ℕ → Type 0) (q : ℕ → Bool) (xs : List ℕ) → AllByRecursion P (filter q xs) → AllByRecursion (λ x. q x ≡ true → P x) xs
passed_all P q [] h = tt
passed_all P q (x ∷ xs) h = elim (cases_Bool (q x)) [
  | inl yes' ↦ let both = rw yes' at h in (λ passes. both.0, passed_all P q xs both.1)
  | inr no' ↦ let rest = rw no' at h in (λ passes. cc, passed_all P q xs rest)
]

lists_all : (P : ℕ → Type 0) (parts : List LedRows) → AllByRecursion (λ part. AllByRecursion P part.rows.items) parts → AllByRecursion (λ rows. AllByRecursion P rows) (map (λ part. part.rows.items) parts)
lists_all P [] h = tt
lists_all P (part ∷ parts) h = (h.0, lists_all P parts h.1)

-- leaders that are right at the rows of each partition are so at all rows
pub all_led : (hash : ℕ → ℕ) (n count : ℕ) (f : ℕ → ℕ) (leaders : List ℕ) (parts : List LedRows) → map (λ part. part.rows.items) parts ≡ rows_by_partition hash n (rows_below count)
    → AllByRecursion (λ row. partition_of (hash row) n < n) (rows_below count) → length leaders ≡ count → AllByRecursion (IsPut f leaders) parts → leaders ≡ map f (rows_below count)
all_led hash n count f leaders parts are within long put =
    fill_by_all f leaders count 0 long right
  where
    right : (k : ℕ) → k < count → get_or leaders k 0 ≡ f k
    right k lt =
        let p = partition_of (hash k) n in
        let is : get_or (rows_below count) k 0 ≡ k = get_or-range_with_len 0 count k 0 lt ∙ omega arith in
        let here : k < length (rows_below count) = omega (arith, lt, length-range_with_len 0 count) in
        let inside : p < n = rw is at (All-from_recursion (λ row. partition_of (hash row) n < n) (rows_below count) within k 0 here) in
        let lists = rows_by_partition hash n (rows_below count) in
        let each : AllByRecursion (λ rows. AllByRecursion (λ row. get_or leaders row 0 ≡ f row) rows) lists = rw are at (lists_all (λ row. get_or leaders row 0 ≡ f row) parts put) in
        let many = length-map-range_with_len (λ q. filter (in_partition hash n q) (rows_below count)) 0 n in
        let mine : AllByRecursion (λ row. get_or leaders row 0 ≡ f row) (filter (in_partition hash n p) (rows_below count)) =
        subst (AllByRecursion (λ row. get_or leaders row 0 ≡ f row)) (get_or-map-range_with_len (λ q. filter (in_partition hash n q) (rows_below count)) 0 n p p [] inside (omega arith))
        (All-from_recursion (λ rows. AllByRecursion (λ row. get_or leaders row 0 ≡ f row) rows) lists each p [] (omega (arith, inside, many))) in
        let passing = All-from_recursion (λ row. in_partition hash n p row ≡ true → get_or leaders row 0 ≡ f row) (rows_below count)
        (passed_all (λ row. get_or leaders row 0 ≡ f row) (in_partition hash n p) (rows_below count) mine) k 0 here in
        (rw is at passing) (eq-eqb p p refl)

lists_low : (hash : ℕ → ℕ) (n count : ℕ) (ps : List ℕ) → AllByRecursion (λ rows. AllByRecursion (λ row. row < count) rows) (map (λ p. filter (in_partition hash n p) (rows_below count)) ps)
lists_low hash n count [] = tt
lists_low hash n count (p ∷ ps) = (all_filter (λ row. row < count) (in_partition hash n p) (rows_below count) (rows_below_all count), lists_low hash n count ps)

parts_all : (P : ℕ → Type 0) (parts : List LedRows) → AllByRecursion (λ rows. AllByRecursion P rows) (map (λ part. part.rows.items) parts) → AllByRecursion (λ part. AllByRecursion P part.rows.items) parts
parts_all P [] h = tt
parts_all P (part ∷ parts) h = (h.0, parts_all P parts h.1)

-- the rows of partitions are among all rows
pub parts_inside : (hash : ℕ → ℕ) (n count : ℕ) (parts : List LedRows) → map (λ part. part.rows.items) parts ≡ rows_by_partition hash n (rows_below count) → AllByRecursion (IsInside count) parts
parts_inside hash n count parts are = parts_all (λ row. row < count) parts (rw are (lists_low hash n count (range_with_len 0 n)))
