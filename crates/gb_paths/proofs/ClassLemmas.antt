-- The groups that a path gives are classes of rows, whatever their order.
use Rattle.std.proofs.Common.{◌≡◌, ℕ, zero, suc, ◌+◌, ◌<◌, ◌≤◌, pos, Bool, true, false, not, inl, inr, List, [], ◌∷◌, length, map, filter, refl, sym, ◌∙◌, ap, subst, arith}
use Rattle.std.specs.List.{flat_map, range_with_len}
use Rattle.std.proofs.lemmas.Bool.{cases_Bool, eqb-true}
use Rattle.std.proofs.lemmas.List.{length-append, length-map}
use Rattle.std.proofs.lemmas.List.Filters.{length-filter_both}
use Rattle.std.proofs.lemmas.List.FromFn.{length-range_with_len}
use Rattle.gb_defs.specs.Classes.{agree_by, class, firsts, groups, is_first, rows_below}
use Rattle.gb_defs.specs.Column.{Frame, SortedFlag, frame_height}
use Rattle.gb_defs.specs.Groups.{first_of}
use Rattle.gb_defs.specs.Partitions.{by_partition, in_partition, partition_groups}
use Rattle.gb_defs.specs.Notes.{detected, in_order}
use Rattle.gb_defs.specs.Path.{Path, Nulls, Sorted, Perfect, Table, Threaded, by_code, code_count, path_groups}
use Rattle.gb_defs.specs.Rows.{Rows, same_slot_at}
use Rattle.gb_defs.specs.Slot.{Slot, Nil, Num, Bytes, Items, is_nil, slot_eq}
use Rattle.gb_defs.proofs.AnswerLemmas.{agree_one}
use Rattle.gb_defs.proofs.PartitionLemmas.{flat_map_same}
use Rattle.gb_defs.proofs.SlotLemmas.{Decides-slot_eq}
use Rattle.gb_base.specs.Pool.{partitions_of, seed_of}
use Rattle.gb_base.specs.declared.pool.Pool.{Pool}
use Rattle.gb_paths.specs.Keys.{key_rows}
use Rattle.gb_paths.specs.Tuples.{AreClasses, all_path, column_path, rows_of_all, slots_of, tuples_by}
use Rattle.gb_paths.proofs.SeveralLemmas.{all_agree}

-- ---- no row twice

module _ {A : Type 0} (test : ℕ → A → Bool) (once : (p q : ℕ) (x : A) → test p x ≡ true → test q x ≡ true → p ≡ q) where
  -- how many of the numbers from a on pass with x
  abbrev passes : A → ℕ → ℕ → ℕ
  passes x a n = length (filter (λ p. test p x) (range_with_len a n))

  no_more : (x : A) (p : ℕ) → test p x ≡ true → (a n : ℕ) → p < a → passes x a n ≡ 0
  no_more x p here a zero later = refl
  no_more x p here a (suc n) later = elim (cases_Bool (test a x)) [
    | inl e ↦ absurd (omega (arith, later, once p a x here e))
    | inr e ↦ rw e (no_more x p here (a + 1) n (omega (arith, later)))
  ]

  at_most_one : (x : A) (a n : ℕ) → passes x a n ≤ 1
  at_most_one x a zero = omega arith
  at_most_one x a (suc n) = elim (cases_Bool (test a x)) [
    | inl e ↦ rw (e, no_more x a e (a + 1) n (omega arith)) (omega arith)
    | inr e ↦ rw e (at_most_one x (a + 1) n)
  ]

  one_more : (x : A) (xs : List A) (a n : ℕ) → length (flat_map (λ p. filter (test p) (x ∷ xs)) (range_with_len a n))
      ≡ passes x a n + length (flat_map (λ p. filter (test p) xs) (range_with_len a n))
  one_more x xs a zero = refl
  one_more x xs a (suc n) =
      let later = range_with_len (a + 1) n in
      let with_x = length-append (filter (test a) (x ∷ xs)) (flat_map (λ p. filter (test p) (x ∷ xs)) later) in
      let without = length-append (filter (test a) xs) (flat_map (λ p. filter (test p) xs) later) in
      let rest = one_more x xs (a + 1) n in
      elim (cases_Bool (test a x)) [
        | inl e ↦
            let here : length (filter (test a) (x ∷ xs)) ≡ suc (length (filter (test a) xs)) = rw e refl in
            let count : passes x a (suc n) ≡ suc (passes x (a + 1) n) = rw e refl in
            omega (arith, with_x, without, rest, here, count)
        | inr e ↦
            let here : length (filter (test a) (x ∷ xs)) ≡ length (filter (test a) xs) = rw e refl in
            let count : passes x a (suc n) ≡ passes x (a + 1) n = rw e refl in
            omega (arith, with_x, without, rest, here, count)
      ]

  none_of : (a n : ℕ) → length (flat_map {X = ℕ} {A = A} (λ p. filter (test p) []) (range_with_len a n)) ≡ 0
  none_of a zero = refl
  none_of a (suc n) = none_of (a + 1) n

  no_row_twice : (xs : List A) (a n : ℕ) → length (flat_map (λ p. filter (test p) xs) (range_with_len a n)) ≤ length xs
  no_row_twice [] a n = omega (arith, none_of a n)
  no_row_twice (x ∷ xs) a n = omega (arith, one_more x xs a n, at_most_one x a n, no_row_twice xs a n)

module _ {A : Type 0} (p q : A → Bool) (within : (x : A) → p x ≡ true → q x ≡ true) where
  filter_within : (xs : List A) → filter p xs ≡ filter p (filter q xs)
  filter_within [] = refl
  filter_within (x ∷ xs) = elim (cases_Bool (p x)) [
    | inl e ↦ rw (e, within x e, e) (ap (λ ys. x ∷ ys) (filter_within xs))
    | inr e ↦ elim (cases_Bool (q x)) [
      | inl f ↦ rw (e, f, e) (filter_within xs)
      | inr f ↦ rw (e, f) (filter_within xs)
    ]
  ]

fewer : {A : Type 0} (p : A → Bool) (xs : List A) → length (filter p xs) ≤ length xs
fewer p xs = omega (arith, length-filter_both p (λ x. not (p x)) (λ x. refl) xs)

-- ---- rows by their codes

same_code : (s : Slot) (p q : ℕ) → slot_eq s (Num (pos p)) ≡ true → slot_eq s (Num (pos q)) ≡ true → p ≡ q
same_code s p q one other =
    let same : Num (pos p) ≡ Num (pos q) = sym ((Decides-slot_eq s (Num (pos p))).0 one) ∙ (Decides-slot_eq s (Num (pos q))).0 other in
    cc same

has_value : (s : Slot) (code : ℕ) → slot_eq s (Num (pos code)) ≡ true → not (is_nil s) ≡ true
has_value Nil code e = cc e
has_value (Num n) code e = refl
has_value (Bytes b) code e = refl
has_value (Items is) code e = refl

codes_few : (slot : ℕ → Slot) (codes : ℕ) (rows : List ℕ) → length (by_code slot codes rows) ≤ length rows
codes_few slot codes rows =
    let has_code : ℕ → ℕ → Bool = λ code i. slot_eq (slot i) (Num (pos code)) in
    let valued = filter (λ i. not (is_nil (slot i))) rows in
    let nulls = filter (λ i. is_nil (slot i)) rows in
    let same : flat_map (λ code. filter (has_code code) rows) (range_with_len 0 codes) ≡ flat_map (λ code. filter (has_code code) valued) (range_with_len 0 codes) =
    flat_map_same _ _ (λ code. filter_within (has_code code) (λ i. not (is_nil (slot i))) (λ i. has_value (slot i) code) rows) (range_with_len 0 codes) in
    let few = no_row_twice has_code (λ p q i. same_code (slot i) p q) valued 0 codes in
    let both = length-append (flat_map (λ code. filter (has_code code) rows) (range_with_len 0 codes)) nulls in
    let all = length-filter_both (λ i. is_nil (slot i)) (λ i. not (is_nil (slot i))) (λ i. refl) rows in
    omega (arith, ap length same, few, both, all)

-- ---- classes in some order

module _ (agree : ℕ → ℕ → Bool) (n : ℕ) where
  abbrev one : ℕ → ℕ × List ℕ
  one i = (i, class agree (rows_below n) i)

  marked : (is : List ℕ) → map one is ≡ map one (map first_of (map one is))
  marked [] = refl
  marked (i ∷ is) = ap (λ ps. one i ∷ ps) (marked is)

  pub classes_of : (is : List ℕ) → length is ≤ n → AreClasses agree n (map one is)
  classes_of is few = record { classes = marked is; few = omega (arith, few, length-map is one) }

  firsts_few : length (firsts agree (rows_below n)) ≤ n
  unfolding firsts
  firsts_few = omega (arith, fewer (is_first agree (rows_below n)) (rows_below n), length-range_with_len 0 n)

  pub groups_classes : AreClasses agree n (groups agree (rows_below n))
  unfolding groups
  groups_classes = classes_of (firsts agree (rows_below n)) firsts_few

  partitions_classes : (hash : ℕ → ℕ) (m : ℕ) → AreClasses agree n (partition_groups agree hash m (rows_below n))
  unfolding partition_groups by_partition
  partitions_classes hash m =
      let first = firsts agree (rows_below n) in
      let few = no_row_twice (in_partition hash m) (λ p q i one other. sym (eqb-true _ _ one) ∙ eqb-true _ _ other) first 0 m in
      classes_of _ (omega (arith, few, firsts_few))

pub path_classes : (path : Path) (rows : Rows) (codes n : ℕ) (sorted : Bool) → AreClasses (same_slot_at rows.slot) rows.count (path_groups path rows codes n sorted).pairs
path_classes path rows codes n sorted =
    let agree = same_slot_at rows.slot in
    let all = rows_below rows.count in
    let by_first = groups_classes agree rows.count in
    let by_codes = classes_of agree rows.count (by_code rows.slot codes (firsts agree all)) (omega (arith, codes_few rows.slot codes (firsts agree all), firsts_few agree rows.count)) in
    elim path as (λ p. AreClasses agree rows.count (path_groups p rows codes n sorted).pairs) [
      | Nulls ↦ by_first
      | Sorted ↦ by_first
      | Perfect ↦ elim sorted as (λ s. AreClasses agree rows.count (path_groups Perfect rows codes n s).pairs) [ true ↦ by_first | false ↦ by_codes ]
      | Table ↦ by_first
      | Threaded ↦ elim sorted as (λ s. AreClasses agree rows.count (path_groups Threaded rows codes n s).pairs) [ true ↦ by_first | false ↦ partitions_classes agree rows.count rows.hash n ]
    ]

-- ---- of keys

pub keys_classes : (keys : Frame) (multithreaded sorted : Bool) (pool : Pool) → 0 < length keys → AreClasses (agree_by (slots_of keys)) (frame_height keys) (tuples_by keys multithreaded sorted pool).pairs
keys_classes [] multithreaded sorted pool some = absurd (omega (arith, some))
keys_classes (key ∷ []) multithreaded sorted pool some =
    subst (λ agree. AreClasses agree (length key.slots) (tuples_by (key ∷ []) multithreaded sorted pool).pairs) (sym (agree_one key.slots))
    (path_classes (column_path key multithreaded pool) (key_rows (seed_of pool) key) (code_count key.dtype) (partitions_of pool) sorted)
keys_classes (key ∷ other ∷ keys) multithreaded sorted pool some =
    let all = key ∷ other ∷ keys in
    subst (λ agree. AreClasses agree (frame_height all) (tuples_by all multithreaded sorted pool).pairs) (all_agree all)
    (path_classes (all_path all multithreaded pool) (rows_of_all (seed_of pool) all) 0 (partitions_of pool) sorted)

-- an order changes no class
pub found_classes : (flag : SortedFlag) (keys : Frame) (multithreaded sorted : Bool) (pool : Pool) → 0 < length keys
    → AreClasses (agree_by (slots_of keys)) (frame_height keys) (tuples_by (detected flag keys) multithreaded sorted pool).pairs
found_classes flag [] multithreaded sorted pool some = absurd (omega (arith, some))
found_classes flag (key ∷ []) multithreaded sorted pool some = keys_classes (in_order flag key ∷ []) multithreaded sorted pool some
found_classes flag (key ∷ other ∷ keys) multithreaded sorted pool some = keys_classes (key ∷ other ∷ keys) multithreaded sorted pool some
