-- The groups of rows by codes are the lists of rows by the numbers of their codes.
use Rattle.std.proofs.Common.{◌≡◌, ◌∙◌, ℕ, zero, suc, pos, ◌+◌, ◌<◌, ◌≤◌, eqb, Bool, true, false, not, cond, ◌&&◌, ◌||◌, inl, inr, nat_le, nat_lt, List, [], ◌∷◌, ◌++◌, All, IsTrue, ◌↔◌, length, map, filter, take, zip, get_or, refl, sym, ap, subst, arith}
use Rattle.std.specs.List.{flat_map, list_any, range_with_len, AllByRecursion, IsDistinct}
use Rattle.std.specs.List.Sorted.{IsNonDecreasing}
use Rattle.std.proofs.lemmas.Bool.{and_parts, cases_Bool, cases_eq, cases_lt, eq-eqb, le-leb, le-ltb, leb-true, lt-ltb, ne_eqb, true≢false}
use Rattle.std.proofs.lemmas.Bool.Decides.{Decides-int_eq}
use Rattle.std.proofs.lemmas.List.{append-nil, append_assoc, get_or-map, length-append, length-map, map-append, map-id}
use Rattle.std.proofs.lemmas.List.Elements.{All-filter, All-from_recursion, filter-append, filter_passes}
use Rattle.std.proofs.lemmas.List.FromFn.{fill_by_all, length-map-range_with_len, map-range_with_len_more}
use Rattle.std.proofs.lemmas.List.Concat.{flat_map-cons}
use Rattle.std.proofs.lemmas.Simd.{map-map}
use Rattle.std.proofs.lemmas.Map.Made.{length-le_from_is_member}
use Rattle.gb_defs.specs.Classes.{class, firsts, groups, is_first, rows_below}
use Rattle.gb_defs.specs.Groups.{Grouping, first_of, idx_groups}
use Rattle.gb_defs.specs.Path.{Perfect, ascends, by_code, code_groups, path_groups}
use Rattle.gb_defs.specs.Rows.{same_slot_at}
use Rattle.gb_defs.specs.Slot.{Slot, Nil, Num, Bytes, Items, is_nil, slot_at, slot_eq}
use Rattle.gb_defs.proofs.ClassesLemmas.{all_from_below, filter_agree_on, firsts_ascend, rows_below_all}
use Rattle.gb_defs.proofs.PartitionLemmas.{flat_map_same, map_flat_map}
use Rattle.gb_defs.proofs.SlotLemmas.{Decides-slot_eq, slot_eq_equiv}
use Rattle.gb_groups.specs.Numbers.{lists_by, rows_of}
use Rattle.gb_groups.specs.Order.{IsByFirst}
use Rattle.gb_groups.proofs.FirstLemmas.{grouped_by_first, tied_one}
use Rattle.gb_groups.proofs.NumberLemmas.{map_range_same, rows_by}
use Rattle.gb_groups.proofs.OnceLemmas.{tied}
use Rattle.gb_cols.specs.Codes.{IsCodeBelow}
use Rattle.gb_runs.specs.Codes.{AreCodes, group_count, head_or_zero, heads_of, number_of, numbers_of, rows_in}
use Rattle.gb_runs.proofs.RunLemmas.{any_none, any_some}

-- ---- of each class that a test tells, the first row is a first row

module _ (agree : ℕ → ℕ → Bool) (n : ℕ) (p : ℕ → Bool) (tells : (i j : ℕ) → i < n → j < n → p i ≡ true → agree i j ≡ p j) where
  abbrev is_head : ℕ → Bool
  is_head = is_first agree (rows_below n)

  abbrev is_earlier : ℕ → ℕ → Bool
  is_earlier i j = nat_lt j i && agree i j

  heads_none : (i : ℕ) → i < n → p i ≡ true → ((j : ℕ) → j < i → p j ≡ false) → is_head i ≡ true
  unfolding is_first
  heads_none i lt passes none = ap not (any_none (is_earlier i) 0 n (λ j low high. elim (cases_lt j i) [
    | inl before ↦ rw (lt-ltb j i before, tells i j lt (omega (arith, high)) passes, none j before) refl
    | inr behind ↦ rw (le-ltb j i behind) refl
  ]))

  heads_some : (i j : ℕ) → i < n → p i ≡ true → j < i → p j ≡ true → is_head i ≡ false
  unfolding is_first
  heads_some i j lt passes before other =
      let earlier : is_earlier i j ≡ true = rw (lt-ltb j i before, tells i j lt (omega (arith, before, lt)) passes, other) refl in
      ap not (any_some (is_earlier i) j 0 n (omega arith) (omega (arith, before, lt)) earlier)

  -- behind a row that passes no first row does
  none_behind : (j a m : ℕ) → j < a → a + m ≤ n → p j ≡ true → filter p (filter is_head (range_with_len a m)) ≡ []
  none_behind j a zero before inside passes = refl
  none_behind j a (suc m) before inside passes =
      let rest = none_behind j (a + 1) m (omega (arith, before)) (omega (arith, inside)) passes in
      elim (cases_Bool (p a)) [
        | inl e ↦ rw (heads_some a j (omega (arith, inside)) e before passes) rest
        | inr e ↦ elim (cases_Bool (is_head a)) [ inl h ↦ rw (h, e) rest | inr h ↦ rw h rest ]
      ]

  first_passes : (a m : ℕ) → a + m ≤ n → ((j : ℕ) → j < a → p j ≡ false) → filter p (filter is_head (range_with_len a m)) ≡ take 1 (filter p (range_with_len a m))
  first_passes a zero inside none = refl
  first_passes a (suc m) inside none = elim (cases_Bool (p a)) [
    | inl e ↦ rw (heads_none a (omega (arith, inside)) e none, e) (ap (λ l. a ∷ l) (none_behind a (a + 1) m (omega arith) (omega (arith, inside)) e))
    | inr e ↦
        let rest = first_passes (a + 1) m (omega (arith, inside)) (λ j lt. elim (cases_eq j a) [ inl here ↦ rw here e | inr away ↦ none j (omega (arith, lt, away)) ]) in
        elim (cases_Bool (is_head a)) [ inl h ↦ rw (h, e) rest | inr h ↦ rw (h, e) rest ]
  ]

  pub first_that_passes : filter p (firsts agree (rows_below n)) ≡ take 1 (filter p (rows_below n))
  unfolding firsts
  first_that_passes = first_passes 0 n (omega arith) (λ j lt. absurd (omega (arith, lt)))

-- ---- the groups of a test

-- a list with its first row
abbrev headed : List ℕ → ℕ × List ℕ
headed list = (head_or_zero list, list)

module _ (agree : ℕ → ℕ → Bool) (n : ℕ) (p : ℕ → Bool) (tells : (i j : ℕ) → i < n → j < n → p i ≡ true → agree i j ≡ p j) where
  abbrev one : ℕ → ℕ × List ℕ
  one i = (i, class agree (rows_below n) i)

  class_passes : (i : ℕ) → i < n → p i ≡ true → class agree (rows_below n) i ≡ filter p (rows_below n)
  unfolding class
  class_passes i lt passes = filter_agree_on (agree i) p (rows_below n) (all_from_below (λ j. agree i j ≡ p j) n (λ j inside. tells i j lt inside passes) (rows_below n) (rows_below_all n))

  passing : All (λ i. (i < n) × (p i ≡ true)) (filter p (rows_below n))
  passing k d lt = (All-filter p (λ i. i < n) (rows_below n) (All-from_recursion (λ i. i < n) (rows_below n) (rows_below_all n)) k d lt, filter_passes p (rows_below n) k d lt)

  one_list : (list : List ℕ) → list ≡ filter p (rows_below n) → 0 < length list → map one (take 1 list) ≡ headed list ∷ []
  one_list [] is some = absurd (omega (arith, some))
  one_list (h ∷ t) is some =
      let here : All (λ i. (i < n) × (p i ≡ true)) (h ∷ t) = subst (λ (l : List ℕ). All (λ i. (i < n) × (p i ≡ true)) l) (sym is) passing in
      let at = here 0 h (omega arith) in
      ap (λ l. (h, l) ∷ []) (class_passes h at.0 at.1 ∙ sym is)

  pub test_groups : 0 < length (filter p (rows_below n)) → map one (filter p (firsts agree (rows_below n))) ≡ headed (filter p (rows_below n)) ∷ []
  test_groups some = ap (map one) (first_that_passes agree n p tells) ∙ one_list (filter p (rows_below n)) refl some

  pub test_empty : filter p (rows_below n) ≡ [] → map one (filter p (firsts agree (rows_below n))) ≡ []
  test_empty none = ap (map one) (first_that_passes agree n p tells ∙ ap (take 1) none)

-- ---- rows by the code that they hold

pos_same : {a b : ℕ} → pos a ≡ pos b → a ≡ b
pos_same e = cc

int_code : (a b : ℕ) → slot_eq (Num (pos a)) (Num (pos b)) ≡ eqb a b
int_code a b = elim (cases_eq a b) [
  | inl same ↦ rw same ((Decides-int_eq (pos b) (pos b)).1 refl ∙ sym (eq-eqb b b refl))
  | inr away ↦ elim (cases_Bool (slot_eq (Num (pos a)) (Num (pos b)))) [
    | inl e ↦ absurd (away (pos_same ((Decides-int_eq (pos a) (pos b)).0 e)))
    | inr e ↦ e ∙ sym (ne_eqb a b away)
  ]
]

-- the number of a slot tells whether it holds a code, and whether it holds none
number_tells : (count : ℕ) (slot : Slot) → IsCodeBelow count slot → (code : ℕ) → code < count → slot_eq slot (Num (pos code)) ≡ eqb (number_of count slot) code
number_tells count Nil is code lt = sym (ne_eqb count code (λ e. omega (arith, e, lt)))
number_tells count (Num n) is code lt = rw is.1 (int_code is.0 code)
number_tells count (Bytes bytes) is code lt = absurd is
number_tells count (Items parts) is code lt = absurd is

none_tells : (count : ℕ) (slot : Slot) → IsCodeBelow count slot → is_nil slot ≡ eqb (number_of count slot) count
none_tells count Nil is = sym (eq-eqb count count refl)
none_tells count (Num n) is = rw is.1 (sym (ne_eqb is.0 count (λ e. omega (arith, e, is.2))))
none_tells count (Bytes bytes) is = absurd is
none_tells count (Items parts) is = absurd is

nil_agrees : (a b : Slot) → is_nil a ≡ true → slot_eq a b ≡ is_nil b
nil_agrees Nil Nil e = refl
nil_agrees Nil (Num b) e = refl
nil_agrees Nil (Bytes b) e = refl
nil_agrees Nil (Items b) e = refl
nil_agrees (Num a) b e = cc
nil_agrees (Bytes a) b e = cc
nil_agrees (Items a) b e = cc

code_agrees : (a b : Slot) (code : ℕ) → slot_eq a (Num (pos code)) ≡ true → slot_eq a b ≡ slot_eq b (Num (pos code))
code_agrees a b code e =
    let is : a ≡ Num (pos code) = (Decides-slot_eq a (Num (pos code))).0 e in
    rw is (slot_eq_equiv.symm (Num (pos code)) b)

headed_zip : (lists : List (List ℕ)) → zip (heads_of lists) lists ≡ map headed lists
headed_zip [] = refl
headed_zip (list ∷ lists) = ap (λ l. headed list ∷ l) (headed_zip lists)

any_kept : (p : ℕ → Bool) (xs : List ℕ) → list_any p xs ≡ true → 0 < length (filter p xs)
any_kept p [] e = cc
any_kept p (x ∷ xs) e = elim (cases_Bool (p x)) [
  | inl h ↦ rw h (omega arith)
  | inr h ↦ rw h (any_kept p xs (rw h at e))
]

none_kept : (p : ℕ → Bool) (xs : List ℕ) → list_any p xs ≡ false → filter p xs ≡ []
none_kept p [] e = refl
none_kept p (x ∷ xs) e = elim (cases_Bool (p x)) [
  | inl h ↦ absurd (true≢false (rw h at e))
  | inr h ↦ rw h (none_kept p xs (rw h at e))
]

-- a test of slots, by their places
any_from : (p : Slot → Bool) (slots front : List Slot) (a : ℕ) → a ≡ length front → list_any p slots ≡ list_any (λ row. p (slot_at (front ++ slots) row)) (range_with_len a (length slots))
any_from p [] front a is = refl
any_from p (slot ∷ slots) front a is =
    let here : slot_at (front ++ slot ∷ slots) a ≡ slot = ap (slot_at (front ++ slot ∷ slots)) is ∙ get_or_behind front slot slots in
    let next : a + 1 ≡ length (front ++ slot ∷ []) = omega (arith, is, length-append front (slot ∷ [])) in
    let rest = any_from p slots (front ++ slot ∷ []) (a + 1) next in
    let same : (front ++ slot ∷ []) ++ slots ≡ front ++ slot ∷ slots = append_assoc front (slot ∷ []) slots in
    rw here (ap (λ b. p slot || b) (rest ∙ ap (λ ss. list_any (λ row. p (slot_at ss row)) (range_with_len (a + 1) (length slots))) same))
  where
    get_or_behind : (front : List Slot) (slot : Slot) (slots : List Slot) → slot_at (front ++ slot ∷ slots) (length front) ≡ slot
    get_or_behind [] slot slots = refl
    get_or_behind (f ∷ front) slot slots = get_or_behind front slot slots

any_at : (p : Slot → Bool) (slots : List Slot) → list_any p slots ≡ list_any (λ row. p (slot_at slots row)) (rows_below (length slots))
any_at p slots = any_from p slots [] 0 refl

any_turned : (a : Slot) (slots : List Slot) → list_any (λ slot. slot_eq slot a) slots ≡ list_any (slot_eq a) slots
any_turned a [] = refl
any_turned a (slot ∷ slots) = rw (slot_eq_equiv.symm slot a, any_turned a slots) refl

singles : {X : Type 0} (f : ℕ → List X) (g : ℕ → X) (a m : ℕ) → ((k : ℕ) → a ≤ k → k < a + m → f k ≡ g k ∷ []) → flat_map f (range_with_len a m) ≡ map g (range_with_len a m)
singles f g a zero each = refl
singles f g a (suc m) each =
    flat_map-cons f a (range_with_len (a + 1) m)
    ∙ ap (λ l. l ++ flat_map f (range_with_len (a + 1) m)) (each a (omega arith) (omega arith))
    ∙ ap (λ l. g a ∷ l) (singles f g (a + 1) m (λ k low high. each k (omega (arith, low)) (omega (arith, high))))

last_number : (m : ℕ) → range_with_len 0 (m + 1) ≡ range_with_len 0 m ++ m ∷ []
last_number m = sym (map-id (range_with_len 0 (m + 1))) ∙ map-range_with_len_more (λ x. x) 0 m m (omega arith) ∙ ap (λ xs. xs ++ m ∷ []) (map-id (range_with_len 0 m))

abbrev code_slot : ℕ → Slot
code_slot code = Num (pos code)

codes_apart : (a m : ℕ) → IsDistinct slot_eq (map code_slot (range_with_len a m))
unfolding IsDistinct
codes_apart a zero = tt
codes_apart a (suc m) = (apart_behind a (a + 1) m (omega arith), codes_apart (a + 1) m)
  where
    apart_behind : (code a m : ℕ) → code < a → AllByRecursion (λ y. slot_eq (code_slot code) y ≡ false) (map code_slot (range_with_len a m))
    apart_behind code a zero before = tt
    apart_behind code a (suc m) before = (int_code code a ∙ ne_eqb code a (λ e. omega (arith, e, before)), apart_behind code (a + 1) m (omega (arith, before)))

-- ---- slots of which each holds a code or none, and each code is held

module _ (slots : List Slot) (count : ℕ) (are : AreCodes count slots) where
  abbrev n : ℕ
  n = length slots

  abbrev agree : ℕ → ℕ → Bool
  agree = same_slot_at (slot_at slots)

  abbrev number : ℕ → ℕ
  number row = number_of count (slot_at slots row)

  -- the rows with a number
  abbrev list_of : ℕ → List ℕ
  list_of k = filter (λ row. eqb (number row) k) (rows_below n)

  abbrev has_code : ℕ → ℕ → Bool
  has_code code row = slot_eq (slot_at slots row) (Num (pos code))

  abbrev has_none : ℕ → Bool
  has_none row = is_nil (slot_at slots row)

  abbrev one_of : ℕ → ℕ × List ℕ
  one_of i = (i, class agree (rows_below n) i)

  numbered : numbers_of count slots ≡ map number (rows_below n)
  numbered = fill_by_all number (numbers_of count slots) n 0 (length-map slots (number_of count)) (λ k lt. get_or-map (number_of count) slots k Nil 0 lt)

  lists_are : (groups : ℕ) → lists_by (rows_below n) (numbers_of count slots) groups ≡ map list_of (range_with_len 0 groups)
  lists_are groups = map_range_same (rows_of (rows_below n) (numbers_of count slots)) list_of groups [] (λ k lt. ap (λ ns. rows_of (rows_below n) ns k) numbered ∙ rows_by number (rows_below n) k)

  coded : (code : ℕ) → code < count → filter (has_code code) (rows_below n) ≡ list_of code
  coded code lt = filter_agree_on (has_code code) (λ row. eqb (number row) code) (rows_below n)
      (all_from_below (λ row. has_code code row ≡ eqb (number row) code) n (λ row inside. number_tells count (slot_at slots row) (are.codes row Nil inside) code lt) (rows_below n) (rows_below_all n))

  uncoded : filter has_none (rows_below n) ≡ list_of count
  uncoded = filter_agree_on has_none (λ row. eqb (number row) count) (rows_below n)
      (all_from_below (λ row. has_none row ≡ eqb (number row) count) n (λ row inside. none_tells count (slot_at slots row) (are.codes row Nil inside)) (rows_below n) (rows_below_all n))

  any_row : (p : Slot → Bool) → list_any p slots ≡ list_any (λ row. p (slot_at slots row)) (rows_below n)
  any_row p = any_at p slots

  code_held : (code : ℕ) → code < count → 0 < length (filter (has_code code) (rows_below n))
  code_held code lt = any_kept (has_code code) (rows_below n) (sym (any_row (λ slot. slot_eq slot (Num (pos code)))) ∙ any_turned (Num (pos code)) slots ∙ are.used code lt)

  code_pairs : (code : ℕ) → code < count → map one_of (filter (has_code code) (firsts agree (rows_below n))) ≡ headed (list_of code) ∷ []
  code_pairs code lt =
      test_groups agree n (has_code code) (λ i j low high passes. code_agrees (slot_at slots i) (slot_at slots j) code passes) (code_held code lt)
      ∙ ap (λ l. headed l ∷ []) (coded code lt)

  none_groups : map one_of (filter has_none (firsts agree (rows_below n))) ≡ cond (list_any is_nil slots) (headed (list_of count) ∷ []) []
  none_groups =
      let tells : (i j : ℕ) → i < n → j < n → has_none i ≡ true → agree i j ≡ has_none j = λ i j low high passes. nil_agrees (slot_at slots i) (slot_at slots j) passes in
      elim (cases_Bool (list_any is_nil slots)) [
        | inl e ↦ rw e (test_groups agree n has_none tells (any_kept has_none (rows_below n) (sym (any_row is_nil) ∙ e)) ∙ ap (λ l. headed l ∷ []) uncoded)
        | inr e ↦ rw e (test_empty agree n has_none tells (none_kept has_none (rows_below n) (sym (any_row is_nil) ∙ e)))
      ]

  abbrev lists : List (List ℕ)
  lists = lists_by (rows_below n) (numbers_of count slots) (group_count count slots)

  -- the lists of all codes, and behind them that of the rows that hold none
  lists_by_code : map headed lists ≡ map (λ k. headed (list_of k)) (range_with_len 0 count) ++ cond (list_any is_nil slots) (headed (list_of count) ∷ []) []
  lists_by_code =
      let shown : ℕ → ℕ × List ℕ = λ k. headed (list_of k) in
      let all : map headed lists ≡ map shown (range_with_len 0 (group_count count slots)) = ap (map headed) (lists_are (group_count count slots)) ∙ map-map headed list_of (range_with_len 0 (group_count count slots)) in
      all ∙ elim (cases_Bool (list_any is_nil slots)) [
        | inl e ↦ rw e (ap (map shown) (last_number count) ∙ map-append shown (range_with_len 0 count) (count ∷ []))
        | inr e ↦
            let none : count + 0 ≡ count = omega arith in
            rw (e, none) (sym (append-nil (map shown (range_with_len 0 count))))
      ]

  pub groups_are_lists : code_groups (rows_in slots) count ≡ zip (heads_of lists) lists
  groups_are_lists =
      let fs = firsts agree (rows_below n) in
      let held : ℕ → List ℕ = λ code. filter (has_code code) fs in
      map-append one_of (flat_map held (range_with_len 0 count)) (filter has_none fs)
      ∙ ap (λ l. l ++ map one_of (filter has_none fs)) (map_flat_map one_of held (range_with_len 0 count) ∙ singles (λ code. map one_of (held code)) (λ k. headed (list_of k)) 0 count (λ k low high. code_pairs k (omega (arith, high))))
      ∙ ap (λ l. map (λ k. headed (list_of k)) (range_with_len 0 count) ++ l) none_groups
      ∙ sym lists_by_code ∙ sym (headed_zip lists)

  -- ---- what the lists are made by

  number_known : (k : ℕ) → k < n → number k < group_count count slots
  number_known k lt = known (slot_at slots k) (are.codes k Nil lt) (λ e. any_row is_nil ∙ any_some has_none k 0 n (omega arith) (omega (arith, lt)) e)
    where
      known : (slot : Slot) → IsCodeBelow count slot → (is_nil slot ≡ true → list_any is_nil slots ≡ true) → number_of count slot < group_count count slots
      known Nil is nil = let e = nil refl in rw e (omega arith)
      known (Num m) is nil = rw is.1 (omega (arith, is.2))
      known (Bytes bytes) is nil = absurd is
      known (Items parts) is nil = absurd is

  pub numbers_known : All (λ number. number < group_count count slots) (numbers_of count slots)
  numbers_known k d lt =
      let inside : k < n = omega (arith, lt, length-map slots (number_of count)) in
      let at : get_or (numbers_of count slots) k d ≡ number k = get_or-map (number_of count) slots k Nil d inside in
      rw at (number_known k inside)

  -- the codes are no more than the slots
  pub codes_few : count ≤ n
  codes_few =
      let all : list_any_held = λ q held. held_slot q 0 count (omega arith) held in
      let many = length-map-range_with_len code_slot 0 count in
      omega (arith, many, length-le_from_is_member slot_eq_equiv (map code_slot (range_with_len 0 count)) slots (codes_apart 0 count) all)
    where
      list_any_held : Type 0
      list_any_held = (q : Slot) → list_any (slot_eq q) (map code_slot (range_with_len 0 count)) ≡ true → list_any (slot_eq q) slots ≡ true

      held_slot : (q : Slot) (a m : ℕ) → a + m ≤ count → list_any (slot_eq q) (map code_slot (range_with_len a m)) ≡ true → list_any (slot_eq q) slots ≡ true
      held_slot q a zero inside held = cc
      held_slot q a (suc m) inside held = elim (cases_Bool (slot_eq q (code_slot a))) [
        | inl e ↦
            let is : q ≡ code_slot a = (Decides-slot_eq q (code_slot a)).0 e in
            rw is (are.used a (omega (arith, inside)))
        | inr e ↦ held_slot q (a + 1) m (omega (arith, inside)) (rw e at held)
      ]

-- ---- whether numbers ascend

ascends_tail : (x : ℕ) (xs : List ℕ) → IsNonDecreasing (x ∷ xs) → IsNonDecreasing xs
ascends_tail x xs up i j d le lt = up (suc i) (suc j) d (omega (arith, le)) (omega (arith, lt))

told_from : (xs : List ℕ) → IsNonDecreasing xs → ascends xs ≡ true
told_from [] up = refl
told_from (x ∷ []) up = refl
told_from (x ∷ y ∷ xs) up =
    let near : x ≤ y = up 0 1 0 (omega arith) (omega arith) in
    rw (le-leb x y near) (told_from (y ∷ xs) (ascends_tail x (y ∷ xs) up))

from_told : (xs : List ℕ) → ascends xs ≡ true → IsNonDecreasing xs
from_told [] e i j d le lt = absurd (omega (arith, lt))
from_told (x ∷ []) e zero zero d le lt = omega arith
from_told (x ∷ []) e i (suc j) d le lt = absurd (omega (arith, lt))
from_told (x ∷ []) e (suc i) zero d le lt = absurd (omega (arith, le))
from_told (x ∷ y ∷ xs) e zero zero d le lt = omega arith
from_told (x ∷ y ∷ xs) e zero (suc j) d le lt =
    let parts = and_parts (nat_le x y) (ascends (y ∷ xs)) e in
    let rest = from_told (y ∷ xs) parts.1 0 j d (omega arith) (omega (arith, lt)) in
    omega (arith, rest, leb-true x y parts.0)
from_told (x ∷ y ∷ xs) e (suc i) zero d le lt = absurd (omega (arith, le))
from_told (x ∷ y ∷ xs) e (suc i) (suc j) d le lt =
    let parts = and_parts (nat_le x y) (ascends (y ∷ xs)) e in
    from_told (y ∷ xs) parts.1 i j d (omega (arith, le)) (omega (arith, lt))

pub flag_is : (flag : Bool) (xs : List ℕ) → (IsTrue flag ↔ IsNonDecreasing xs) → flag ≡ ascends xs
flag_is true xs tells = sym (told_from xs (tells.0 refl))
flag_is false xs tells = elim (cases_Bool (ascends xs)) [
  | inl e ↦ absurd (true≢false (sym (tells.1 (from_told xs e))))
  | inr e ↦ sym e
]

-- the groups that lists by code are
pub coded_groups : (slots : List Slot) (count : ℕ) → AreCodes count slots → (first : List ℕ) (all : List (List ℕ)) (flag : Bool) →
    all ≡ lists_by (rows_below (length slots)) (numbers_of count slots) (group_count count slots) → first ≡ heads_of all → (IsTrue flag ↔ IsNonDecreasing first) →
    idx_groups (zip first all) flag ≡ path_groups Perfect (rows_in slots) count 0 false
coded_groups slots count are first all flag listed heads tells =
    let pairs : zip first all ≡ code_groups (rows_in slots) count =
    ap (λ f. zip f all) heads ∙ ap (λ l. zip (heads_of l) l) listed ∙ sym (groups_are_lists slots count are) in
    let firsts' : first ≡ map first_of (code_groups (rows_in slots) count) =
    heads ∙ sym (map-map first_of headed all) ∙ ap (map first_of) (sym (headed_zip all) ∙ ap (λ f. zip f all) (sym heads) ∙ pairs) in
    ap (λ ps. idx_groups ps flag) pairs ∙ ap (idx_groups (code_groups (rows_in slots) count)) (flag_is flag first tells ∙ ap ascends firsts')

-- ---- in the order of first rows

-- what passes a test that only k passes
module _ (t : ℕ → Bool) (k : ℕ) (only : (x : ℕ) → t x ≡ true → x ≡ k) where
  tested_list : (q : ℕ → Bool) (xs : List ℕ) → filter t (filter q xs) ≡ cond (q k) (filter t xs) []
  tested_list q [] = elim (cases_Bool (q k)) [ inl e ↦ rw e refl | inr e ↦ rw e refl ]
  tested_list q (x ∷ xs) = elim (cases_Bool (t x)) [
    | inl a ↦ elim (cases_Bool (q k)) [
      | inl b ↦ rw (ap q (only x a) ∙ b, a, tested_list q xs, b) refl
      | inr b ↦ rw (ap q (only x a) ∙ b, tested_list q xs, b) refl
    ]
    | inr a ↦ elim (cases_Bool (q x)) [ inl b ↦ rw (b, a, tested_list q xs) refl | inr b ↦ rw (b, a, tested_list q xs) refl ]
  ]

  tested_lists : (q : ℕ → ℕ → Bool) (xs : List ℕ) (codes : List ℕ) → filter t (flat_map (λ code. filter (q code) xs) codes) ≡ flat_map (λ code. cond (q code k) (filter t xs) []) codes
  tested_lists q xs [] = refl
  tested_lists q xs (code ∷ codes) =
      ap (filter t) (flat_map-cons (λ code. filter (q code) xs) code codes) ∙ filter-append t (filter (q code) xs) (flat_map (λ code. filter (q code) xs) codes)
      ∙ ap (λ l. l ++ filter t (flat_map (λ code. filter (q code) xs) codes)) (tested_list (q code) xs)
      ∙ ap (λ l. cond (q code k) (filter t xs) [] ++ l) (tested_lists q xs codes)
      ∙ sym (flat_map-cons (λ code. cond (q code k) (filter t xs) []) code codes)

abbrev nothing : List ℕ
nothing = []

either_empty : (b : Bool) → cond b nothing nothing ≡ []
either_empty true = refl
either_empty false = refl

no_lists : (b : ℕ → Bool) (codes : List ℕ) → flat_map (λ code. cond (b code) nothing nothing) codes ≡ []
no_lists b [] = refl
no_lists b (code ∷ codes) = flat_map-cons (λ code. cond (b code) nothing nothing) code codes ∙ ap (λ l. l ++ flat_map (λ code. cond (b code) nothing nothing) codes) (either_empty (b code)) ∙ no_lists b codes

no_code : (b : ℕ → Bool) (list : List ℕ) (a m : ℕ) → ((code : ℕ) → a ≤ code → code < a + m → b code ≡ false) → flat_map (λ code. cond (b code) list []) (range_with_len a m) ≡ []
no_code b list a zero out = refl
no_code b list a (suc m) out =
    flat_map-cons (λ code. cond (b code) list []) a (range_with_len (a + 1) m)
    ∙ ap (λ c. cond c list [] ++ flat_map (λ code. cond (b code) list []) (range_with_len (a + 1) m)) (out a (omega arith) (omega arith))
    ∙ no_code b list (a + 1) m (λ code low high. out code (omega (arith, low)) (omega (arith, high)))

one_code : (own : ℕ) (list : List ℕ) (a m : ℕ) → a ≤ own → own < a + m → flat_map (λ code. cond (eqb own code) list []) (range_with_len a m) ≡ list
one_code own list a zero low high = absurd (omega (arith, low, high))
one_code own list a (suc m) low high =
    flat_map-cons (λ code. cond (eqb own code) list []) a (range_with_len (a + 1) m) ∙ elim (cases_eq own a) [
      | inl here ↦
          rw (eq-eqb own a here) (ap (λ l. list ++ l) (no_code (λ code. eqb own code) list (a + 1) m (λ code from to. ne_eqb own code (λ e. omega (arith, e, here, from)))) ∙ append-nil list)
      | inr away ↦ rw (ne_eqb own a away) (one_code own list (a + 1) m (omega (arith, low, away)) (omega (arith, high)))
    ]

module _ (slots : List Slot) (count : ℕ) (codes : All (IsCodeBelow count) slots) where
  abbrev fs : List ℕ
  fs = firsts (same_slot_at (slot_at slots)) (rows_below (length slots))

  firsts_low : (k d : ℕ) → k < length fs → get_or fs k d < length slots
  unfolding firsts
  firsts_low k d lt = All-filter _ (λ i. i < length slots) (rows_below (length slots)) (All-from_recursion (λ i. i < length slots) (rows_below (length slots)) (rows_below_all (length slots))) k d lt

  -- a row of a list of those that only k passes
  module _ (t : ℕ → Bool) (k : ℕ) (only : (x : ℕ) → t x ≡ true → x ≡ k) where
    known_row : (list : List ℕ) → filter t fs ≡ list → 0 < length list → k < length slots
    known_row [] is some = absurd (omega (arith, some))
    known_row (x ∷ list) is some =
        let held : All (λ i. i < length slots) (x ∷ list) = subst (λ (l : List ℕ). All (λ i. i < length slots) l) is (All-filter t (λ i. i < length slots) fs firsts_low) in
        let passes : All (λ i. t i ≡ true) (x ∷ list) = subst (λ (l : List ℕ). All (λ i. t i ≡ true) l) is (filter_passes t fs) in
        let same = only x (passes 0 0 (omega arith)) in
        let low = held 0 0 (omega arith) in
        omega (arith, same, low)

    -- a row has its code's list, or that of the rows with none
    held_once : (slot : Slot) → IsCodeBelow count slot → (list : List ℕ) → flat_map (λ code. cond (slot_eq slot (Num (pos code))) list []) (range_with_len 0 count) ++ cond (is_nil slot) list [] ≡ list
    held_once Nil is list = ap (λ l. l ++ list) (no_code (λ code. slot_eq Nil (Num (pos code))) list 0 count (λ code low high. refl))
    held_once (Num n) is list =
        let coded : flat_map (λ code. cond (slot_eq (Num n) (Num (pos code))) list []) (range_with_len 0 count) ≡ list =
        flat_map_same _ _ (λ code. ap (λ b. cond b list []) (ap (λ m. slot_eq (Num m) (Num (pos code))) is.1 ∙ int_code is.0 code)) (range_with_len 0 count) ∙ one_code is.0 list 0 count (omega arith) (omega (arith, is.2)) in
        append-nil _ ∙ coded
    held_once (Bytes bytes) is list = absurd is
    held_once (Items parts) is list = absurd is

    pub coded_once : filter t (by_code (slot_at slots) count fs) ≡ filter t fs
    coded_once =
        let list = filter t fs in
        let lists = flat_map (λ code. cond (slot_eq (slot_at slots k) (Num (pos code))) list []) (range_with_len 0 count) in
        filter-append t (flat_map (λ code. filter (λ i. slot_eq (slot_at slots i) (Num (pos code))) fs) (range_with_len 0 count)) (filter (λ i. is_nil (slot_at slots i)) fs)
        ∙ ap (λ l. l ++ filter t (filter (λ i. is_nil (slot_at slots i)) fs)) (tested_lists t k only (λ code i. slot_eq (slot_at slots i) (Num (pos code))) fs (range_with_len 0 count))
        ∙ ap (λ l. lists ++ l) (tested_list t k only (λ i. is_nil (slot_at slots i)) fs)
        ∙ whole list refl
      where
        whole : (list : List ℕ) → filter t fs ≡ list → flat_map (λ code. cond (slot_eq (slot_at slots k) (Num (pos code))) list []) (range_with_len 0 count) ++ cond (is_nil (slot_at slots k)) list [] ≡ list
        whole [] is = ap (λ l. l ++ cond (is_nil (slot_at slots k)) [] []) (no_lists (λ code. slot_eq (slot_at slots k) (Num (pos code))) (range_with_len 0 count)) ∙ either_empty (is_nil (slot_at slots k))
        whole (x ∷ list) is = held_once (slot_at slots k) (codes k Nil (known_row (x ∷ list) is (omega arith))) (x ∷ list)

firsts_told : (agree : ℕ → ℕ → Bool) (n : ℕ) → ascends (map first_of (groups agree (rows_below n))) ≡ true
unfolding groups
firsts_told agree n =
    let fs = firsts agree (rows_below n) in
    ap ascends (map-map first_of (λ i. (i, class agree (rows_below n) i)) fs ∙ map-id fs) ∙ told_from fs (firsts_ascend agree n)

-- the groups by codes, put in the order of their first rows
pub sorted_codes : (slots : List Slot) (count : ℕ) → AreCodes count slots → (before after : Grouping) → before ≡ path_groups Perfect (rows_in slots) count 0 false →
    IsByFirst before.pairs after.pairs → after.flagged ≡ true → after.form ≡ before.form → after ≡ path_groups Perfect (rows_in slots) count 0 true
sorted_codes slots count are before after made sorted flagged form =
    let agree = same_slot_at (slot_at slots) in
    let rows = rows_below (length slots) in
    let order = by_code (slot_at slots) count (firsts agree rows) in
    let found = grouped_by_first agree (length slots) order (λ k. coded_once slots count are.codes (tied k) k (tied_one k)) _ before after made sorted flagged form in
    found ∙ ap (idx_groups (groups agree rows)) (sym (firsts_told agree (length slots)))
