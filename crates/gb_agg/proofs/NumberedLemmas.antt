-- What is known of the rows of each group, one row more.
use Rattle.std.proofs.Common.{◌≡◌, ◌∙◌, ap, sym, refl, subst, ap₂, ℕ, suc, ◌+◌, ◌<◌, ◌≤◌, ◌==◌, cond, map, pos, ℤ, inl, inr, eqb, not, Bool, true, false, List, [], ◌∷◌, ◌++◌, All, Option, None, Some, length, get_or, replicate, set, take, arith}
use Rattle.std.specs.Prelude.{if◌then◌else◌}
use Rattle.std.specs.List.{range_with_len}
use Rattle.std.specs.Option.{unwrap_or}
use Rattle.std.proofs.lemmas.List.Elements.{All-from_recursion}
use Rattle.std.proofs.lemmas.List.Filters.{length-filter_both}
use Rattle.std.proofs.lemmas.List.FromFn.{length-range_with_len}
use Rattle.std.proofs.lemmas.Simd.{map-map}
use Rattle.std.proofs.lemmas.Bool.{cases_Bool, cases_eq, cases_lt, eq-eqb, ne_eqb}
use Rattle.std.proofs.lemmas.List.{append-nil, get_or-replicate, get_or-set_other, get_or-set_same, length-append, length-map, length-replicate, length-set, length-take, take_all, take_more}
use Rattle.gb_defs.specs.Classes.{rows_below}
use Rattle.gb_defs.specs.Column.{ColumnValue}
use Rattle.gb_defs.specs.ColumnType.{ColumnType}
use Rattle.gb_defs.specs.Fold.{Count, Sum, fold_of, fold_picked, is_valid, picked, total, valid, wrap}
use Rattle.gb_defs.proofs.FoldLemmas.{valid_push_null, valid_push_value}
use Rattle.gb_defs.specs.Groups.{HasRowNumbers, lists_in}
use Rattle.gb_defs.specs.Slot.{Slot, Nil, Num, Bytes, Items, is_nil, slot_at}
use Rattle.gb_defs.proofs.ClassesLemmas.{rows_below_all}
use Rattle.gb_paths.specs.Numbering.{numbered}
use Rattle.gb_paths.specs.declared.row_numbers.RowNumbers.{RowNumbers}
use Rattle.gb_paths.proofs.NumberingLemmas.{pairs_lists}
use Rattle.gb_groups.proofs.NumberLemmas.{length-rows_of, map_range_same, rows_push}
use Rattle.gb_groups.specs.Numbers.{count_of, counts_by, lists_by, rows_of}
use Rattle.gb_values.specs.Array.{native_slot}
use Rattle.gb_agg.specs.Extremes.{extreme_of}
use Rattle.gb_agg.specs.Folds.{extreme, fold_in, rows_fold}
use Rattle.gb_agg.specs.Numbered.{CountsValid, HoldEach, HoldRows, HoldsCount, holds_at}
use Rattle.gb_agg.specs.Picks.{ArePicks, IsPicked}
use Rattle.gb_agg.proofs.ExtremeLemmas.{fold_extreme}

module _ {S : Type 0} (holds : List ℕ → S → Type 0) (rows numbers : List ℕ) (groups : ℕ) where
  -- before any row
  pub each_none : (start : S) (states : List S) → states ≡ replicate groups start → holds [] start → HoldRows holds (take 0 rows) (take 0 numbers) groups states
  unfolding rows_of
  each_none start states is fresh = record {
    as_many = ap length is ∙ length-replicate groups start;
    each = λ k d lt. rw (is, get_or-replicate groups k start d lt) fresh;
  }

  module _ (each : length numbers ≡ length rows) (n number row : ℕ) (lt : n < length numbers) (is : get_or numbers n 0 ≡ number) (row_is : get_or rows n 0 ≡ row) where
    rows_more : (k : ℕ) → rows_of (take (n + 1) rows) (take (n + 1) numbers) k ≡ rows_of (take n rows) (take n numbers) k ++ cond (eqb number k) (row ∷ []) []
    rows_more k =
        let inside : n < length rows = omega (arith, lt, each) in
        let as_long : length (take n numbers) ≡ length (take n rows) = omega (arith, length-take n numbers, length-take n rows, each) in
        rw (take_more numbers n 0 lt, is, take_more rows n 0 inside, row_is, rows_push (take n rows) (take n numbers) row number k as_long)

    pub each_more : (states : List S) (new : S) → number < groups
        → ((before : List ℕ) → holds before (get_or states number new) → holds (before ++ row ∷ []) new)
        → HoldRows holds (take n rows) (take n numbers) groups states → HoldRows holds (take (n + 1) rows) (take (n + 1) numbers) groups (set states number new)
    each_more states new inside more have = record {
      as_many = length-set states number new ∙ have.as_many;
      each = λ k d in_set. elim (cases_eq k number) [
        | inl here ↦
            let before = rows_of (take n rows) (take n numbers) number in
            let last : rows_of (take (n + 1) rows) (take (n + 1) numbers) number ≡ before ++ row ∷ [] = rw (rows_more number, eq-eqb number number refl) in
            rw (here, get_or-set_same states number new d (omega (arith, inside, have.as_many)), last) (more before (have.each number new inside))
        | inr away ↦
            let other : eqb number k ≡ false = ne_eqb number k (λ h. away (sym h)) in
            let kept : rows_of (take (n + 1) rows) (take (n + 1) numbers) k ≡ rows_of (take n rows) (take n numbers) k = rw (rows_more k, other, append-nil) in
            rw (get_or-set_other states number k new d away, kept) (have.each k d in_set)
      ];
    }

  -- once all rows are taken
  pub each_all : (n : ℕ) (states : List S) → length numbers ≡ length rows → (length numbers < n + 1) → HoldRows holds (take n rows) (take n numbers) groups states → HoldRows holds rows numbers groups states
  each_all n states each all have =
      subst (λ (rs : List ℕ). HoldRows holds rs numbers groups states) (take_all n rows (omega (arith, each, all)))
      (subst (λ (ns : List ℕ). HoldRows holds (take n rows) ns groups states) (take_all n numbers (omega (arith, all))) have)

-- ---- states as slots

states_by : {S : Type 0} (slot_of : S → Slot) (f : ℕ → Slot) (states : List S) (j : ℕ) → ((k : ℕ) (d : S) → k < length states → slot_of (get_or states k d) ≡ f (j + k)) →
    map slot_of states ≡ map f (range_with_len j (length states))
states_by slot_of f [] j each = refl
states_by slot_of f (state ∷ states) j each =
    let first : j + 0 ≡ j = omega arith in
    ap₂ (λ (s : Slot) ss. s ∷ ss) (rw first at (each 0 state (omega arith)))
    (states_by slot_of f states (j + 1) (λ k d lt. let next : j + suc k ≡ j + 1 + k = omega arith in rw next at (each (suc k) d (omega (arith, lt)))))

-- what is known of each group's rows is what is made of them
pub states_folded : {S : Type 0} (holds : List ℕ → S → Type 0) (slot_of : S → Slot) (fold : List ℕ → Slot) (rows numbers : List ℕ) (groups : ℕ) (states : List S) →
    ((k : ℕ) (state : S) → holds (rows_of rows numbers k) state → slot_of state ≡ fold (rows_of rows numbers k)) → HoldRows holds rows numbers groups states →
    map slot_of states ≡ map fold (lists_by rows numbers groups)
states_folded holds slot_of fold rows numbers groups states means have =
    states_by slot_of (λ k. fold (rows_of rows numbers k)) states 0 (λ k d lt. let here : 0 + k ≡ k = omega arith in
    rw here (means k (get_or states k d) (have.each k d (omega (arith, lt, have.as_many)))))
    ∙ ap (λ n. map (λ k. fold (rows_of rows numbers k)) (range_with_len 0 n)) have.as_many
    ∙ sym (map-map fold (rows_of rows numbers) (range_with_len 0 groups))

-- how many rows there are of each number
pub counts_folded : (rows numbers : List ℕ) (groups : ℕ) → length numbers ≡ length rows → map (λ n. Num (pos n)) (counts_by numbers groups) ≡ map rows_fold (lists_by rows numbers groups)
counts_folded rows numbers groups each =
    map-map (λ n. Num (pos n)) (count_of numbers) (range_with_len 0 groups)
    ∙ map_range_same (λ k. Num (pos (count_of numbers k))) (λ k. rows_fold (rows_of rows numbers k)) groups Nil (λ k lt. ap (λ n. Num (pos n)) (sym (length-rows_of rows numbers k each)))
    ∙ sym (map-map rows_fold (rows_of rows numbers) (range_with_len 0 groups))

-- ---- sums

sum_of : (t : ColumnType) (slots : List Slot) (rows : List ℕ) → fold_of Sum t slots rows ≡ Num (wrap t (total (valid (picked slots rows))))
unfolding fold_picked
sum_of t slots rows = refl

-- sums that are known of each group are the folds over its rows
pub sums_folded : {S : Type 0} (number : S → ℤ) (t : ColumnType) (slots : List Slot) (rows numbers : List ℕ) (groups : ℕ) (sums : List S) →
    HoldEach (λ some sum. number sum ≡ wrap t (total (valid some))) slots rows numbers groups sums → map (λ sum. Num (number sum)) sums ≡ map (fold_of Sum t slots) (lists_by rows numbers groups)
sums_folded number t slots rows numbers groups sums have =
    states_folded (holds_at (λ some sum. number sum ≡ wrap t (total (valid some))) slots) (λ sum. Num (number sum)) (fold_of Sum t slots) rows numbers groups sums
    (λ k sum known. ap (λ n. Num n) known ∙ sym (sum_of t slots (rows_of rows numbers k))) have

-- ---- numbers of all rows

pub rows_inside : (count n : ℕ) → count ≡ n → All (λ row. row < n) (rows_below count)
rows_inside count n same = rw (← same) (All-from_recursion (λ row. row < count) (rows_below count) (rows_below_all count))

-- folds by the numbers of all rows are those over the groups
lists_numbered : (fold : List ℕ → Slot) (numbers : RowNumbers) (count groups : ℕ) (given : List ℕ) → count ≡ length numbers.of_rows.items → given ≡ numbers.of_rows.items → groups ≡ length numbers.first.items →
    map fold (lists_by (rows_below count) given groups) ≡ map fold (lists_in (numbered numbers))
lists_numbered fold numbers count groups given many same known =
    ap (λ n. map fold (lists_by (rows_below n) given groups)) many
    ∙ ap (λ ns. map fold (lists_by (rows_below (length numbers.of_rows.items)) ns groups)) same
    ∙ ap (λ n. map fold (lists_by (rows_below (length numbers.of_rows.items)) numbers.of_rows.items n)) known
    ∙ ap (map fold) (sym (pairs_lists (rows_below (length numbers.of_rows.items)) numbers.of_rows.items numbers.first.items))

-- sums are
pub sums_numbered : {S : Type 0} (number : S → ℤ) (t : ColumnType) (slots : List Slot) (numbers : RowNumbers) (count groups : ℕ) (given : List ℕ) (sums : List S) →
    count ≡ length numbers.of_rows.items → given ≡ numbers.of_rows.items → groups ≡ length numbers.first.items →
    HoldEach (λ some sum. number sum ≡ wrap t (total (valid some))) slots (rows_below count) given groups sums →
    map (λ sum. Num (number sum)) sums ≡ map (fold_of Sum t slots) (lists_in (numbered numbers))
sums_numbered number t slots numbers count groups given sums many same known have =
    sums_folded number t slots (rows_below count) given groups sums have ∙ lists_numbered (fold_of Sum t slots) numbers count groups given many same known

-- and so are the least slots, or the greatest
pub extremes_numbered : {S : Type 0} (slot_of : S → Slot) (g : Bool) (t : ColumnType) (slots : List Slot) (numbers : RowNumbers) (count groups : ℕ) (given : List ℕ) (best : List S) →
    count ≡ length numbers.of_rows.items → given ≡ numbers.of_rows.items → groups ≡ length numbers.first.items →
    HoldEach (λ some b. slot_of b ≡ extreme_of g t (valid some)) slots (rows_below count) given groups best →
    map slot_of best ≡ map (fold_of (extreme g) t slots) (lists_in (numbered numbers))
extremes_numbered slot_of g t slots numbers count groups given best many same known have =
    states_folded (holds_at (λ some b. slot_of b ≡ extreme_of g t (valid some)) slots) slot_of (fold_of (extreme g) t slots) (rows_below count) given groups best
    (λ k b is. is ∙ sym (fold_extreme g t slots (rows_of (rows_below count) given k))) have
    ∙ lists_numbered (fold_of (extreme g) t slots) numbers count groups given many same known

-- and so are counts
pub counts_numbered : (numbers : RowNumbers) (groups : ℕ) (given : List ℕ) → given ≡ numbers.of_rows.items → groups ≡ length numbers.first.items →
    map (λ n. Num (pos n)) (counts_by given groups) ≡ map rows_fold (lists_in (numbered numbers))
counts_numbered numbers groups given same known =
    let rows = rows_below (length numbers.of_rows.items) in
    ap (λ ns. map (λ n. Num (pos n)) (counts_by ns groups)) same
    ∙ ap (λ n. map (λ n. Num (pos n)) (counts_by numbers.of_rows.items n)) known
    ∙ counts_folded rows numbers.of_rows.items (length numbers.first.items) (sym (length-range_with_len 0 (length numbers.of_rows.items)))
    ∙ ap (map rows_fold) (sym (pairs_lists rows numbers.of_rows.items numbers.first.items))

-- ---- what is picked, and how many are valid

-- rows of a group are among all
few_of : (rows numbers : List ℕ) (k : ℕ) → length numbers ≡ length rows → length (rows_of rows numbers k) ≤ length numbers
unfolding rows_of
few_of [] [] k same = omega arith
few_of [] (number ∷ numbers) k same = absurd (omega (arith, same))
few_of (row ∷ rows) [] k same = absurd (omega (arith, same))
few_of (row ∷ rows) (number ∷ numbers) k same = elim (cases_Bool (number == k)) [
  | inl e ↦ let rest = few_of rows numbers k (omega (arith, same)) in rw e (omega (arith, rest))
  | inr e ↦ let rest = few_of rows numbers k (omega (arith, same)) in rw e (omega (arith, rest))
]

module _ (c : ColumnValue) (numbers : RowNumbers) where
  abbrev rows : List ℕ
  rows = rows_below (length numbers.of_rows.items)

  abbrev all : List ℕ
  all = numbers.of_rows.items

  as_long : length all ≡ length rows
  as_long = sym (length-range_with_len 0 (length all))

  -- what is picked of each group, one row after another
  pub picks_numbered : (fold : List ℕ → Slot) (picks : List ℕ) → HoldRows (IsPicked c fold) rows all (length numbers.first.items) picks → ArePicks c fold (lists_in (numbered numbers)) picks
  picks_numbered fold picks have = record {
    inside = λ k d lt.
        let is = have.each k d (omega (arith, lt, have.as_many)) in
        elim (cases_lt 0 (length (rows_of rows all k))) [
          | inl some ↦ omega (arith, is.some some)
          | inr none ↦ omega (arith, is.none (omega (arith, none)))
        ];
    picked =
        states_folded (IsPicked c fold) (slot_at c.slots) fold rows all (length numbers.first.items) picks (λ k pick is. is.picked) have
        ∙ ap (map fold) (sym (pairs_lists rows all numbers.first.items));
  }

-- how many valid slots each group has
valid_means : (t : ColumnType) (slots : List Slot) (some : List ℕ) (count : Option ℕ) → HasRowNumbers (length some) → HoldsCount (picked slots some) count → native_slot (λ n. pos n) count ≡ fold_of (Count false) t slots some
unfolding fold_picked
valid_means t slots [] None few is = refl
valid_means t slots (row ∷ some) None few is = absurd (omega (arith, is))
valid_means t slots [] (Some count) few is = let no' = is.some in absurd (omega (arith, no'))
valid_means t slots (row ∷ some) (Some count) few is =
    let some_rows : (length (row ∷ some) == 0) ≡ false = ne_eqb (length (row ∷ some)) 0 (λ e. omega (arith, e)) in
    ap (λ n. Num (pos n)) (is.counted (rw (length-map (row ∷ some) (slot_at slots)) few))
    ∙ sym (ap (λ (b : Bool). if b then Nil else Num (pos (length (valid (picked slots (row ∷ some)))))) some_rows)

pub valid_numbered : (t : ColumnType) (slots : List Slot) (numbers : RowNumbers) (count groups : ℕ) (given : List ℕ) (counts : List (Option ℕ)) →
    count ≡ length numbers.of_rows.items → given ≡ numbers.of_rows.items → groups ≡ length numbers.first.items →
    HoldEach HoldsCount slots (rows_below count) given groups counts →
    map (native_slot (λ n. pos n)) counts ≡ map (fold_of (Count false) t slots) (lists_in (numbered numbers))
valid_numbered t slots numbers count groups given counts many same known have =
    let long : length given ≡ length (rows_below count) = omega (arith, ap (λ (ns : List ℕ). length ns) same, many, length-range_with_len 0 count) in
    states_folded (holds_at HoldsCount slots) (native_slot (λ n. pos n)) (fold_of (Count false) t slots) (rows_below count) given groups counts
    (λ k counted is. valid_means t slots (rows_of (rows_below count) given k) counted
    (omega (arith, few_of (rows_below count) given k long, ap (λ (ns : List ℕ). length ns) same, numbers.few)) is) have
    ∙ lists_numbered (fold_of (Count false) t slots) numbers count groups given many same known

-- the count of no slots, or of some
pub counted_so_far : (slots : List Slot) (count : Option ℕ) → HoldsCount slots count → HasRowNumbers (length slots) → unwrap_or count 0 ≡ length (valid slots)
counted_so_far [] None none few = refl
counted_so_far (s ∷ ss) None none few = absurd (omega (arith, none))
counted_so_far slots (Some count) is few = is.counted few

module _ (slots : List Slot) (s : Slot) (so_far : ℕ) (is : HasRowNumbers (length slots) → so_far ≡ length (valid slots)) where
  -- one slot more, with a value
  pub counted_value : (more : ℕ) → is_nil s ≡ false → (so_far < 4294967295 → more ≡ so_far + 1) → CountsValid (slots ++ s ∷ []) more
  counted_value more valued step = record {
    some = omega (arith, length-append slots (s ∷ []));
    counted = λ few.
        let low : HasRowNumbers (length slots) = omega (arith, few, length-append slots (s ∷ [])) in
        let at_most = length-filter_both is_valid is_nil (λ x. nil_or x) slots in
        let next = step (omega (arith, few, length-append slots (s ∷ []), at_most, is low)) in
        omega (arith, next, is low, ap length (valid_push_value slots s valued), length-append (valid slots) (s ∷ []));
  }
    where
      nil_or : (x : Slot) → is_nil x ≡ not (is_valid x)
      nil_or Nil = refl
      nil_or (Num n) = refl
      nil_or (Bytes b) = refl
      nil_or (Items i) = refl

  -- or without
  pub counted_null : is_nil s ≡ true → CountsValid (slots ++ s ∷ []) so_far
  counted_null none = record {
    some = omega (arith, length-append slots (s ∷ []));
    counted = λ few. is (omega (arith, few, length-append slots (s ∷ []))) ∙ ap length (sym (valid_push_null slots s none));
  }

pub valid_some : (s : Slot) → is_valid s ≡ true → is_nil s ≡ false
valid_some Nil e = cc
valid_some (Num n) e = refl
valid_some (Bytes b) e = refl
valid_some (Items i) e = refl

pub valid_none : (s : Slot) → is_valid s ≡ false → is_nil s ≡ true
valid_none Nil e = refl
valid_none (Num n) e = cc
valid_none (Bytes b) e = cc
valid_none (Items i) e = cc
