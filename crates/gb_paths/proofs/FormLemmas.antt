-- The groups of all rows are well formed, on every path.
use Rattle.std.proofs.Common.{◌≡◌, ℕ, zero, suc, ◌+◌, ◌<◌, ◌≤◌, pos, Bool, true, false, not, ◌&&◌, inl, inr, List, length, get_or, map, filter, refl, sym, ◌∙◌, ap, arith, nat_lt}
use Rattle.std.specs.List.{list_any, range_with_len, AllByRecursion}
use Rattle.std.proofs.lemmas.Bool.{cases_Bool, cases_eq, lt-ltb, true≢false}
use Rattle.std.proofs.lemmas.List.Elements.{All-filter, All-from_recursion, All-map, filter_passes, recursion_from_All}
use Rattle.gb_defs.specs.Classes.{class, firsts, groups, is_first, rows_below}
use Rattle.gb_defs.specs.Column.{ColumnValue}
use Rattle.gb_defs.specs.Groups.{FitsRows, IsHead, IsWellFormed}
use Rattle.gb_defs.specs.Partitions.{by_partition, in_partition, partition_groups}
use Rattle.gb_defs.specs.Path.{Path, Nulls, Sorted, Perfect, Table, Threaded, code_count, path_groups}
use Rattle.gb_defs.specs.Rows.{Rows, same_slot_at}
use Rattle.gb_defs.specs.Slot.{Num, is_nil, slot_eq}
use Rattle.gb_defs.proofs.ClassesLemmas.{all_append, all_filter, all_filters, rows_below_all}
use Rattle.gb_defs.proofs.SlotLemmas.{slot_eq_equiv}
use Rattle.gb_base.specs.Pool.{partitions_of, seed_of}
use Rattle.gb_base.specs.declared.pool.Pool.{Pool}
use Rattle.gb_paths.specs.Keys.{key_rows}
use Rattle.gb_paths.specs.Tuples.{column_path, tuples_of}
use Rattle.gb_paths.proofs.MemberLemmas.{all_members, some_members}

not_true : (b : Bool) → not b ≡ true → b ≡ false
not_true true h = cc
not_true false h = refl

-- of rows that ascend past i, with which none before i agrees, i is the first that agrees with i
heads : (agree : ℕ → ℕ → Bool) (i : ℕ) → agree i i ≡ true → (a m : ℕ) → a ≤ i → i < a + m → list_any (λ j. nat_lt j i && agree i j) (range_with_len a m) ≡ false →
    IsHead i (filter (agree i) (range_with_len a m)) × (0 < length (filter (agree i) (range_with_len a m)))
heads agree i self a zero low high none = absurd (omega (arith, low, high))
heads agree i self a (suc m) low high none = elim (cases_eq a i) [
  | inl here ↦
      let yes : agree i a ≡ true = ap (agree i) here ∙ self in
      rw yes (sym here, omega arith)
  | inr away ↦
      let before : a < i = omega (arith, low, away) in
      let earlier : nat_lt a i ≡ true = lt-ltb a i before in
      elim (cases_Bool (agree i a)) [
        | inl e ↦ absurd (true≢false (rw (earlier, e) at none))
        | inr e ↦ rw e (heads agree i self (a + 1) m (omega (arith, before)) (omega (arith, high)) (rw (earlier, e) at none))
      ]
]

module _ (agree : ℕ → ℕ → Bool) (same : (i : ℕ) → agree i i ≡ true) (n : ℕ) where
  -- a row below n with which no earlier row agrees
  record Starts (i : ℕ) : Type 0 where
    pub inside : i < n
    pub first : is_first agree (rows_below n) i ≡ true

  headed : (i : ℕ) → Starts i → IsHead i (class agree (rows_below n) i) × (0 < length (class agree (rows_below n) i))
  unfolding class is_first
  headed i s = heads agree i (same i) 0 n (omega arith) (omega (arith, s.inside)) (not_true _ s.first)

  fits : (i : ℕ) → Starts i → FitsRows n (i, class agree (rows_below n) i)
  unfolding class
  fits i s = record { first = s.inside; members = some_members n (agree i) (rows_below n) (all_members n); head = (headed i s).0 }

  well_formed : (is : List ℕ) → AllByRecursion Starts is → IsWellFormed n (map (λ i. (i, class agree (rows_below n) i)) is)
  well_formed is start =
      let all = All-from_recursion Starts is start in
      let one : ℕ → ℕ × List ℕ = λ i. (i, class agree (rows_below n) i) in
      record {
        fit = All-map (FitsRows n) one is (λ k d lt. fits (get_or is k d) (all k d lt));
        some = All-map (λ (group : ℕ × List ℕ). 0 < length group.1) one is (λ k d lt. (headed (get_or is k d) (all k d lt)).1);
      }

  -- the first rows do
  starts : AllByRecursion Starts (firsts agree (rows_below n))
  unfolding firsts
  starts =
      let rows = rows_below n in
      let below = All-filter (is_first agree rows) (λ i. i < n) rows (All-from_recursion (λ i. i < n) rows (rows_below_all n)) in
      let passes = filter_passes (is_first agree rows) rows in
      recursion_from_All Starts (filter (is_first agree rows) rows) (λ k d lt. record { inside = below k d lt; first = passes k d lt })

  groups_formed : IsWellFormed n (groups agree (rows_below n))
  unfolding groups
  groups_formed = well_formed (firsts agree (rows_below n)) starts

  partitions_formed : (hash : ℕ → ℕ) (m : ℕ) → IsWellFormed n (partition_groups agree hash m (rows_below n))
  unfolding partition_groups by_partition
  partitions_formed hash m = well_formed _ (all_filters Starts (in_partition hash m) _ starts (range_with_len 0 m))

pub path_formed : (path : Path) (rows : Rows) (codes n : ℕ) (sorted : Bool) → IsWellFormed rows.count (path_groups path rows codes n sorted).pairs
path_formed path rows codes n sorted =
    let agree = same_slot_at rows.slot in
    let same : (i : ℕ) → agree i i ≡ true = λ i. slot_eq_equiv.refl (rows.slot i) in
    let by_first : IsWellFormed rows.count (groups agree (rows_below rows.count)) = groups_formed agree same rows.count in
    let start = starts agree same rows.count in
    let by_codes = well_formed agree same rows.count _ (all_append _ _ _
    (all_filters _ (λ code i. slot_eq (rows.slot i) (Num (pos code))) _ start (range_with_len 0 codes)) (all_filter _ (λ i. is_nil (rows.slot i)) _ start)) in
    elim path as (λ p. IsWellFormed rows.count (path_groups p rows codes n sorted).pairs) [
      | Nulls ↦ by_first
      | Sorted ↦ by_first
      | Perfect ↦ elim sorted as (λ s. IsWellFormed rows.count (path_groups Perfect rows codes n s).pairs) [ true ↦ by_first | false ↦ by_codes ]
      | Table ↦ by_first
      | Threaded ↦ elim sorted as (λ s. IsWellFormed rows.count (path_groups Threaded rows codes n s).pairs) [ true ↦ by_first | false ↦ partitions_formed agree same rows.count rows.hash n ]
    ]

-- so are those of a column's rows, on its path
pub tuples_formed : (column : ColumnValue) (multithreaded sorted : Bool) (pool : Pool) → IsWellFormed (length column.slots) (tuples_of column multithreaded sorted pool).pairs
tuples_formed column multithreaded sorted pool =
    path_formed (column_path column multithreaded pool) (key_rows (seed_of pool) column) (code_count column.dtype) (partitions_of pool) sorted
