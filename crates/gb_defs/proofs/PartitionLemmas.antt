-- The groups of the partitions, and what they are in the order of their first rows.
use Rattle.std.proofs.Common.{◌≡◌, ℕ, ◌+◌, ◌<◌, ◌≤◌, zero, suc, Bool, true, not, ◌&&◌, cond, inl, inr, List, [], ◌∷◌, ◌++◌, map, filter, refl, sym, ◌∙◌, ap, arith, nat_lt, eqb, zero-add}
use Rattle.std.specs.Prelude.{flat_map}
use Rattle.std.specs.List.{list_any, range_with_len, AllByRecursion}
use Rattle.std.proofs.lemmas.Bool.{cases_Bool, cases_lt, cases_order, and_parts, eq-eqb, le-ltb, lt-ltb, ne_eqb}
use Rattle.std.proofs.lemmas.List.{append-nil, map-append}
use Rattle.std.proofs.lemmas.List.Elements.{All-filter, All-from_recursion, filter-append, recursion_from_All}
use Rattle.gb_defs.specs.Classes.{class, is_first, firsts, groups, rows_below}
use Rattle.gb_defs.specs.Hash.{partition_of}
use Rattle.gb_defs.proofs.ClassesLemmas.{all_filters, all_from_below, classes_alike, filter_agree_on, firsts_alike, firsts_inside, rows_below_all}
use Rattle.gb_defs.specs.Partitions.{by_partition, in_partition, partition_groups}

-- one filter after another
filter_filter : (p q : ℕ → Bool) (xs : List ℕ) → filter p (filter q xs) ≡ filter q (filter p xs)
filter_filter p q [] = refl
filter_filter p q (x ∷ xs) = elim (cases_Bool (p x)) [
  | inl a ↦ elim (cases_Bool (q x)) [ inl b ↦ rw (a, b, a, filter_filter p q xs) | inr b ↦ rw (a, b, filter_filter p q xs) ]
  | inr a ↦ elim (cases_Bool (q x)) [ inl b ↦ rw (a, b, a, filter_filter p q xs) | inr b ↦ rw (a, b, filter_filter p q xs) ]
]

-- what does not pass p is not needed where p implies q, for rows below n
filter_within : (n : ℕ) (p q : ℕ → Bool) → ((x : ℕ) → x < n → p x ≡ true → q x ≡ true) → (xs : List ℕ) → AllByRecursion (λ x. x < n) xs → filter p (filter q xs) ≡ filter p xs
filter_within n p q h [] below = refl
filter_within n p q h (x ∷ xs) below = elim (cases_Bool (p x)) [
  | inl a ↦ rw (h x below.0 a, a, filter_within n p q h xs below.1)
  | inr a ↦ elim (cases_Bool (q x)) [ inl b ↦ rw (b, a, filter_within n p q h xs below.1) | inr b ↦ rw (b, a, filter_within n p q h xs below.1) ]
]

any_within : (n : ℕ) (p q : ℕ → Bool) → ((x : ℕ) → x < n → p x ≡ true → q x ≡ true) → (xs : List ℕ) → AllByRecursion (λ x. x < n) xs → list_any p (filter q xs) ≡ list_any p xs
any_within n p q h [] below = refl
any_within n p q h (x ∷ xs) below = elim (cases_Bool (p x)) [
  | inl a ↦ rw (h x below.0 a, a)
  | inr a ↦ elim (cases_Bool (q x)) [ inl b ↦ rw (b, a, any_within n p q h xs below.1) | inr b ↦ rw (b, a, any_within n p q h xs below.1) ]
]

-- two tests that agree where q passes keep the same of what passes q
filter_agree_where : (n : ℕ) (p r q : ℕ → Bool) → ((x : ℕ) → x < n → q x ≡ true → p x ≡ r x) → (xs : List ℕ) → AllByRecursion (λ x. x < n) xs → filter p (filter q xs) ≡ filter r (filter q xs)
filter_agree_where n p r q h [] below = refl
filter_agree_where n p r q h (x ∷ xs) below = elim (cases_Bool (q x)) [
  | inl b ↦ rw (b, h x below.0 b, filter_agree_where n p r q h xs below.1)
  | inr b ↦ rw (b, filter_agree_where n p r q h xs below.1)
]

map_agree_where : {X : Type 0} (n : ℕ) (f g : ℕ → X) (q : ℕ → Bool) → ((x : ℕ) → x < n → q x ≡ true → f x ≡ g x) → (xs : List ℕ) → AllByRecursion (λ x. x < n) xs → map f (filter q xs) ≡ map g (filter q xs)
map_agree_where n f g q h [] below = refl
map_agree_where n f g q h (x ∷ xs) below = elim (cases_Bool (q x)) [
  | inl b ↦ rw (b, h x below.0 b, map_agree_where n f g q h xs below.1)
  | inr b ↦ rw (b, map_agree_where n f g q h xs below.1)
]

-- ---- the groups of some rows below n, where rows that agree are of them together

module _ (agree : ℕ → ℕ → Bool) (n : ℕ) (q : ℕ → Bool) (together : (i j : ℕ) → i < n → j < n → agree i j ≡ true → q i ≡ true → q j ≡ true) where
  module _ (rows : List ℕ) (below : AllByRecursion (λ j. j < n) rows) where
    class_of_some : (i : ℕ) → i < n → q i ≡ true → class agree (filter q rows) i ≡ class agree rows i
    unfolding class
    class_of_some i lt h = filter_within n (agree i) q (λ j inside e. together i j lt inside e h) rows below

    first_of_some : (i : ℕ) → i < n → q i ≡ true → is_first agree (filter q rows) i ≡ is_first agree rows i
    unfolding is_first
    first_of_some i lt h =
        ap not (any_within n (λ j. nat_lt j i && agree i j) q (λ j inside e. together i j lt inside (and_parts (nat_lt j i) (agree i j) e).1 h) rows below)

    firsts_of_some : firsts agree (filter q rows) ≡ filter q (firsts agree rows)
    unfolding firsts
    firsts_of_some = filter_agree_where n (is_first agree (filter q rows)) (is_first agree rows) q first_of_some rows below ∙ filter_filter (is_first agree rows) q rows

    firsts_within : AllByRecursion (λ j. j < n) (firsts agree rows)
    unfolding firsts
    firsts_within = recursion_from_All (λ j. j < n) _ (All-filter (is_first agree rows) (λ j. j < n) rows (All-from_recursion (λ j. j < n) rows below))

    -- they are the groups whose first row is of them
    pub groups_of_some : groups agree (filter q rows) ≡ map (λ i. (i, class agree rows i)) (filter q (firsts agree rows))
    unfolding groups
    groups_of_some = ap (map (λ i. (i, class agree (filter q rows) i))) firsts_of_some
        ∙ map_agree_where n (λ i. (i, class agree (filter q rows) i)) (λ i. (i, class agree rows i)) q (λ i lt h. ap (λ c. (i, c)) (class_of_some i lt h)) (firsts agree rows) firsts_within

-- ---- all partitions, one after another

pub map_flat_map : {A B C : Type 0} (f : B → C) (g : A → List B) (xs : List A) → map f (flat_map g xs) ≡ flat_map (λ x. map f (g x)) xs
map_flat_map f g [] = refl
map_flat_map f g (x ∷ xs) = map-append f (g x) (flat_map g xs) ∙ ap (λ ys. map f (g x) ++ ys) (map_flat_map f g xs)

pub flat_map_same : {X : Type 0} (f g : ℕ → List X) → ((p : ℕ) → f p ≡ g p) → (ps : List ℕ) → flat_map f ps ≡ flat_map g ps
flat_map_same f g h [] = refl
flat_map_same f g h (p ∷ ps) = rw (h p, flat_map_same f g h ps)

-- the groups of each partition make the groups by partition
pub partitions_united : (agree : ℕ → ℕ → Bool) (hash : ℕ → ℕ) (n count : ℕ) → ((i j : ℕ) → i < count → j < count → agree i j ≡ true → hash i ≡ hash j) →
    flat_map (λ p. groups agree (filter (in_partition hash n p) (rows_below count))) (range_with_len 0 n) ≡ partition_groups agree hash n (rows_below count)
unfolding partition_groups by_partition
partitions_united agree hash n count alike =
    let rows = rows_below count in
    let one : ℕ → ℕ × List ℕ = λ i. (i, class agree rows i) in
    flat_map_same _ _ (λ p. groups_of_some agree count (in_partition hash n p) (λ i j low high same here. ap (λ h. eqb (partition_of h n) p) (sym (alike i j low high same)) ∙ here) rows (rows_below_all count)) (range_with_len 0 n)
    ∙ sym (map_flat_map one (λ p. filter (in_partition hash n p) (firsts agree rows)) (range_with_len 0 n))

-- ---- one row stands in one partition

module _ (t : ℕ → Bool) (k : ℕ) (one : (x : ℕ) → t x ≡ true → x ≡ k) where
  -- what passes the test is in the list of its partition alone
  filter_one : (q : ℕ → Bool) (xs : List ℕ) → filter t (filter q xs) ≡ cond (q k) (filter t xs) []
  filter_one q [] = elim (cases_Bool (q k)) [ inl e ↦ rw e | inr e ↦ rw e ]
  filter_one q (x ∷ xs) = elim (cases_Bool (t x)) [
    | inl a ↦ elim (cases_Bool (q k)) [
      | inl b ↦ rw (ap q (one x a) ∙ b, a, filter_one q xs, b)
      | inr b ↦ rw (ap q (one x a) ∙ b, filter_one q xs, b)
    ]
    | inr a ↦ elim (cases_Bool (q x)) [ inl b ↦ rw (b, a, filter_one q xs) | inr b ↦ rw (b, a, filter_one q xs) ]
  ]

  filter_flat_map : (g : ℕ → List ℕ) (ps : List ℕ) → filter t (flat_map g ps) ≡ flat_map (λ p. filter t (g p)) ps
  filter_flat_map g [] = refl
  filter_flat_map g (p ∷ ps) = filter-append t (g p) (flat_map g ps) ∙ ap (λ xs. filter t (g p) ++ xs) (filter_flat_map g ps)

  -- the lists of m partitions from a on, where k stands in one of them or in none
  one_list : (f : ℕ → ℕ) (list : List ℕ) (a m : ℕ) → flat_map (λ p. cond (eqb (f k) p) list []) (range_with_len a m) ≡ cond (not (nat_lt (f k) a) && nat_lt (f k) (a + m)) list []
  one_list f list a zero = elim (cases_lt (f k) a) [
    | inl low ↦ rw (lt-ltb (f k) a low)
    | inr high ↦ let far : a + 0 ≤ f k = omega (arith, high) in rw (le-ltb (f k) a high, le-ltb (f k) (a + 0) far)
  ]
  one_list f list a (suc m) =
      let on : a + 1 + m ≡ a + suc m = omega arith in
      elim (cases_order (f k) a) [
        | inl here ↦
            let low : f k < a + 1 = omega (arith, here) in
            let inside : f k < a + suc m = omega (arith, here) in
            let reached : a ≤ f k = omega (arith, here) in
            rw (eq-eqb (f k) a here, one_list f list (a + 1) m, lt-ltb (f k) (a + 1) low, lt-ltb (f k) (a + suc m) inside, le-ltb (f k) a reached, append-nil)
        | inr apart ↦ elim apart [
          | inl below ↦
              let low : f k < a + 1 = omega (arith, below) in
              rw (ne_eqb (f k) a (λ e. omega (arith, below, e)), one_list f list (a + 1) m, lt-ltb (f k) (a + 1) low, lt-ltb (f k) a below)
          | inr above ↦
              let high : a + 1 ≤ f k = omega (arith, above) in
              let reached : a ≤ f k = omega (arith, above) in
              rw (ne_eqb (f k) a (λ e. omega (arith, above, e)), one_list f list (a + 1) m, on, le-ltb (f k) (a + 1) high, le-ltb (f k) a reached)
        ]
      ]

  filter_absent : (f : ℕ → ℕ) (n : ℕ) (rows : List ℕ) → n ≤ f k → AllByRecursion (λ i. f i < n) rows → filter t rows ≡ []
  filter_absent f n [] out h = refl
  filter_absent f n (x ∷ xs) out h = elim (cases_Bool (t x)) [
    | inl a ↦ absurd (omega (arith, out, h.0, ap f (one x a)))
    | inr a ↦ rw (a, filter_absent f n xs out h.1)
  ]

  -- what passes the test is there as often as among the rows
  pub picked_once : (hash : ℕ → ℕ) (n : ℕ) (rows : List ℕ) → AllByRecursion (λ i. partition_of (hash i) n < n) rows → filter t (by_partition hash n rows) ≡ filter t rows
  unfolding by_partition
  picked_once hash n rows within =
      let reached : 0 ≤ partition_of (hash k) n = omega arith in
      filter_flat_map (λ p. filter (in_partition hash n p) rows) (range_with_len 0 n)
      ∙ flat_map_same _ _ (λ p. filter_one (in_partition hash n p) rows) (range_with_len 0 n)
      ∙ one_list (λ i. partition_of (hash i) n) (filter t rows) 0 n
      ∙ elim (cases_lt (partition_of (hash k) n) n) [
        | inl inside ↦ rw (zero-add n, le-ltb (partition_of (hash k) n) 0 reached, lt-ltb (partition_of (hash k) n) n inside)
        | inr outside ↦ rw (zero-add n, le-ltb (partition_of (hash k) n) 0 reached, le-ltb (partition_of (hash k) n) n outside) (sym (filter_absent (λ i. partition_of (hash i) n) n rows outside within))
      ]

-- ---- rows that agree alike, and whose hashes are the same

module _ (h k : ℕ → ℕ) (n count : ℕ) (same : (i : ℕ) → i < count → h i ≡ k i) where
  by_partition_alike : (xs : List ℕ) → AllByRecursion (λ i. i < count) xs → by_partition h n xs ≡ by_partition k n xs
  unfolding by_partition
  by_partition_alike xs below = flat_map_same _ _ (λ p.
      let each = all_from_below (λ i. in_partition h n p i ≡ in_partition k n p i) count (λ i lt. ap (λ x. eqb (partition_of x n) p) (same i lt)) xs below in
      filter_agree_on (in_partition h n p) (in_partition k n p) xs each) (range_with_len 0 n)

  by_partition_below : (xs : List ℕ) → AllByRecursion (λ i. i < count) xs → AllByRecursion (λ i. i < count) (by_partition h n xs)
  unfolding by_partition
  by_partition_below xs below = all_filters (λ i. i < count) (in_partition h n) xs below (range_with_len 0 n)

  pub partition_groups_alike : (a b : ℕ → ℕ → Bool) → ((i j : ℕ) → i < count → j < count → a i j ≡ b i j) →
      partition_groups a h n (rows_below count) ≡ partition_groups b k n (rows_below count)
  unfolding partition_groups
  partition_groups_alike a b alike =
      let rows = rows_below count in
      let inside = firsts_inside a b count alike in
      classes_alike a b count alike (by_partition h n (firsts a rows)) (by_partition_below (firsts a rows) inside)
      ∙ ap (map (λ i. (i, class b rows i))) (by_partition_alike (firsts a rows) inside ∙ ap (by_partition k n) (firsts_alike a b count alike))
