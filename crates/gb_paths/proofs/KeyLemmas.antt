-- Rows that are numbered by a table of the groups' keys.
use Rattle.std.proofs.Common.{◌≡◌, ℕ, ◌+◌, ◌<◌, ◌≤◌, Bool, inl, inr, List, [], ◌∷◌, ◌++◌, length, get_or, map, take, refl, sym, ◌∙◌, ap, arith, IsTrue, All}
use Rattle.std.specs.List.{AllByRecursion}
use Rattle.std.specs.List.Sorted.{IsNonDecreasing, IsStrictlyIncreasing}
use Rattle.std.specs.Bool.{Decides}
use Rattle.std.specs.Cmp.{on_equiv}
use Rattle.std.proofs.lemmas.List.{get_or-map, get_or-take, get_or_default, length-append, length-map, length-take, map-append, take_more, take_all}
use Rattle.std.proofs.lemmas.Bool.{cases_order}
use Rattle.std.proofs.lemmas.List.Elements.{All-filter, All-nil, All-push, All-take, All-weaker, recursion_from_All}
use Rattle.std.proofs.lemmas.List.Sums.{count_by-le-length, length-filter}
use Rattle.std.proofs.lemmas.List.Kept.{AllPairs-from_increasing, IsNonDecreasingBy-filter}
use Rattle.gb_defs.specs.Classes.{firsts, groups, is_first}
use Rattle.gb_defs.specs.Groups.{AreMembers}
use Rattle.gb_defs.specs.Rows.{same_slot_at}
use Rattle.gb_defs.specs.Slot.{Slot, slot_eq}
use Rattle.gb_defs.proofs.ClassesLemmas.{IsGrouped, groups_from, grouped_none, grouped_old, grouped_new, place_at, place_none_from}
use Rattle.gb_defs.proofs.SlotLemmas.{slot_eq_equiv, slot_eq_from_Decides}
use Rattle.gb_table.specs.Table.{IsAdded, IsKnown, IsNumbered}
use Rattle.gb_groups.specs.Numbers.{lists_by}
use Rattle.gb_paths.specs.Numbers.{pairs_by}
use Rattle.gb_groups.proofs.NumberLemmas.{lists_old, lists_new}

ascending : (rows : List ℕ) → IsStrictlyIncreasing rows → IsNonDecreasing rows
ascending rows up i j d le lt = elim (cases_order i j) [
  | inl same ↦ omega (arith, ap (λ k. get_or rows k d) same)
  | inr apart ↦ elim apart [
    | inl below ↦ let far = AllPairs-from_increasing rows up i j d below lt in omega (arith, far)
    | inr above ↦ absurd (omega (arith, above, le))
  ]
]

module _ {K : Type 0} (eq : K → K → Bool) (key_slot : K → Slot) (slot : ℕ → Slot) (hash : ℕ → ℕ) where
  -- the first n of the rows are numbered, and the table has the key and the hash of each first row
  pub record AreNumbered (rows : List ℕ) (n : ℕ) (entries : List (K × ℕ)) (first numbers : List ℕ) : Type 0 where
    pub grouped : IsGrouped (same_slot_at slot) (take n rows) first (lists_by (take n rows) numbers (length first))
    pub each : length numbers ≡ length (take n rows)
    pub known : All (λ number. number < length first) numbers
    pub keys : map (λ e. key_slot e.0) entries ≡ map slot first
    pub hashes : map (λ e. e.1) entries ≡ map hash first

  pub numbered_none : (rows : List ℕ) → AreNumbered rows 0 [] [] []
  numbered_none rows = record { grouped = grouped_none (same_slot_at slot); each = refl; known = All-nil (λ number. number < 0); keys = refl; hashes = refl }

  module _ {rows : List ℕ} {n : ℕ} {entries : List (K × ℕ)} {first numbers : List ℕ} (s : AreNumbered rows n entries first numbers) where
    pub as_many : length entries ≡ length first
    as_many = sym (length-map entries (λ (e : K × ℕ). key_slot e.0)) ∙ ap length s.keys ∙ length-map first slot

    pub few_groups : length entries ≤ n
    unfolding firsts
    few_groups =
        let rows_so_far = take n rows in
        let test = is_first (same_slot_at slot) rows_so_far in
        omega (arith, as_many, ap length s.grouped.first_is, length-filter test rows_so_far, count_by-le-length test rows_so_far, length-take n rows)

    entry_slot : (g : ℕ) (d : K × ℕ) → g < length entries → key_slot (get_or entries g d).0 ≡ slot (get_or first g 0)
    entry_slot g d lt =
        let inside : g < length first = omega (arith, as_many, lt) in
        sym (get_or-map (λ (e : K × ℕ). key_slot e.0) entries g d (slot 0) lt) ∙ ap (λ ss. get_or ss g (slot 0)) s.keys ∙ get_or-map slot first g 0 (slot 0) inside

    entry_hash : (g : ℕ) (d : K × ℕ) → g < length entries → (get_or entries g d).1 ≡ hash (get_or first g 0)
    entry_hash g d lt =
        let inside : g < length first = omega (arith, as_many, lt) in
        sym (get_or-map (λ (e : K × ℕ). e.1) entries g d 0 lt) ∙ ap (λ hs. get_or hs g 0) s.hashes ∙ get_or-map hash first g 0 0 inside

    module _ (count : ℕ) (members : AreMembers count rows) (row : ℕ) (lt : n < length rows) (is : get_or rows n 0 ≡ row) (decide : (a b : K) → Decides (eq a b) (key_slot a ≡ key_slot b)) (key : K) (read : key_slot key ≡ slot row) where
      row_inside : row < count
      row_inside = rw (← is) (members.below n 0 lt)

      rows_more : take (n + 1) rows ≡ take n rows ++ row ∷ []
      rows_more = take_more rows n 0 lt ∙ ap (λ r. take n rows ++ r ∷ []) is

      rows_before : AllByRecursion (λ j. j < row) (take n rows)
      rows_before = recursion_from_All (λ j. j < row) (take n rows) (λ k d inside.
          let low : k < n = omega (arith, inside, length-take n rows) in
          let at : get_or (take n rows) k d ≡ get_or rows k d = get_or-take n rows k d low in
          let up = AllPairs-from_increasing rows members.ascend k n d low lt in
          rw (at, ← is, get_or_default rows n 0 d lt) up)

      first_inside : (g : ℕ) → g < length first → get_or first g 0 < count
      unfolding firsts
      first_inside g inside =
          let all : All (λ j. j < count) (take n rows) = All-take (λ j. j < count) n rows members.below in
          let kept = All-filter (is_first (same_slot_at slot) (take n rows)) (λ j. j < count) (take n rows) all in
          let place : g < length (firsts (same_slot_at slot) (take n rows)) = omega (arith, ap length s.grouped.first_is, inside) in
          rw s.grouped.first_is (kept g 0 place)

      -- entries with this row's key have its hash
      pub alike : (h : ℕ) → h ≡ hash row → ((i j : ℕ) → i < count → j < count → slot i ≡ slot j → hash i ≡ hash j) →
          (g : ℕ) (d : K × ℕ) → g < length entries → IsTrue (eq (get_or entries g d).0 key) → (get_or entries g d).1 ≡ h
      alike h hashed law g d inside same =
          let in_first : g < length first = omega (arith, as_many, inside) in
          let slots : slot (get_or first g 0) ≡ slot row = sym (entry_slot g d inside) ∙ (decide _ _).0 same ∙ read in
          entry_hash g d inside ∙ law (get_or first g 0) row (first_inside g in_first) row_inside slots ∙ sym hashed

      -- whether this row agrees with a first row, by their keys
      agrees : (g : ℕ) (d : K × ℕ) → g < length entries → eq (get_or entries g d).0 key ≡ same_slot_at slot row (get_or first g 0)
      agrees g d inside =
          let old = (get_or entries g d).0 in
          slot_eq_from_Decides (eq old key) (key_slot old) (key_slot key) (decide old key) ∙ slot_eq_equiv.symm (key_slot old) (key_slot key)
          ∙ ap (λ t. slot_eq t (key_slot old)) read ∙ ap (slot_eq (slot row)) (entry_slot g d inside)

      module _ (h number : ℕ) (hashed : h ≡ hash row) (new : List (K × ℕ)) (found : IsNumbered eq entries new key h number) where
        old_row : IsKnown eq entries new key number → AreNumbered rows (n + 1) new first (numbers ++ number ∷ [])
        old_row f =
            let inside : number < length first = omega (arith, as_many, f.known) in
            let place = place_at (same_slot_at slot) (on_equiv slot slot_eq_equiv) row first number s.grouped.apart inside (sym (agrees number (key, h) f.known) ∙ f.same (key, h)) in
            record {
              grouped = rw (rows_more, lists_old (take n rows) numbers s.each row number (length first) inside)
                  (grouped_old (same_slot_at slot) (on_equiv slot slot_eq_equiv) (take n rows) first _ row number s.grouped rows_before place);
              each = rw rows_more (length-append numbers (number ∷ []) ∙ ap (λ count. count + 1) s.each ∙ sym (length-append (take n rows) (row ∷ [])));
              known = All-push (λ j. j < length first) numbers number s.known inside;
              keys = rw f.unchanged s.keys;
              hashes = rw f.unchanged s.hashes;
            }

        new_row : IsAdded eq entries new key h number → AreNumbered rows (n + 1) new (first ++ row ∷ []) (numbers ++ number ∷ [])
        new_row f =
            let next : number ≡ length first = f.last ∙ as_many in
            let longer : length (first ++ row ∷ []) ≡ length first + 1 = length-append first (row ∷ []) in
            let place = place_none_from (same_slot_at slot row) first (λ g lt.
            let inside : g < length entries = omega (arith, as_many, lt) in
            sym (agrees g (key, h) inside) ∙ f.absent g (key, h) inside) in
            record {
              grouped = rw (rows_more, longer, next, lists_new (take n rows) numbers s.each row (length first) s.known)
                  (grouped_new (same_slot_at slot) (on_equiv slot slot_eq_equiv) (take n rows) first _ row s.grouped rows_before place);
              each = rw rows_more (length-append numbers (number ∷ []) ∙ ap (λ count. count + 1) s.each ∙ sym (length-append (take n rows) (row ∷ [])));
              known = rw longer (All-push (λ j. j < length first + 1) numbers number (All-weaker (λ j. j < length first) (λ j. j < length first + 1) (λ j lt. omega (arith, lt)) numbers s.known) (omega (arith, next)));
              keys = rw (f.added, map-append (λ (e : K × ℕ). key_slot e.0) entries ((key, h) ∷ []), map-append slot first (row ∷ []), read, s.keys);
              hashes = rw (f.added, map-append (λ (e : K × ℕ). e.1) entries ((key, h) ∷ []), map-append hash first (row ∷ []), hashed, s.hashes);
            }

        pub numbered_new : number ≡ length first → AreNumbered rows (n + 1) new (first ++ row ∷ []) (numbers ++ number ∷ [])
        numbered_new next = elim found [
          | inl f ↦ absurd (omega (arith, f.known, as_many, next))
          | inr f ↦ new_row f
        ]

        pub numbered_old : (number ≡ length first → ⊥) → AreNumbered rows (n + 1) new first (numbers ++ number ∷ [])
        numbered_old other = elim found [
          | inl f ↦ old_row f
          | inr f ↦ absurd (other (f.last ∙ as_many))
        ]

  module _ {rows : List ℕ} {n : ℕ} {entries : List (K × ℕ)} {first numbers : List ℕ} (all : length rows ≤ n) (s : AreNumbered rows n entries first numbers) where
    pub numbered_groups : pairs_by rows numbers first ≡ groups (same_slot_at slot) rows
    numbered_groups =
        let whole : take n rows ≡ rows = take_all n rows all in
        groups_from (same_slot_at slot) rows first _ (rw whole at s.grouped)

    pub numbered_ascend : IsStrictlyIncreasing rows → IsNonDecreasing first
    unfolding firsts
    numbered_ascend up =
        let whole : take n rows ≡ rows = take_all n rows all in
        rw (s.grouped.first_is, whole) (IsNonDecreasingBy-filter (λ x. x) (is_first (same_slot_at slot) rows) rows (ascending rows up))
