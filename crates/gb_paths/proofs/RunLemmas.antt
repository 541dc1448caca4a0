-- Rows without values are one run.
use Rattle.std.proofs.Common.{◌≡◌, ℕ, zero, suc, ◌+◌, ◌<◌, ◌≤◌, Bool, true, false, ◌&&◌, List, [], ◌∷◌, length, filter, replicate, refl, sym, ◌∙◌, ap, ap₂, All, arith, nat_lt, subst}
use Rattle.std.specs.List.{list_any, range_with_len}
use Rattle.std.proofs.lemmas.Bool.{le-ltb, lt-ltb}
use Rattle.std.proofs.lemmas.List.{length-replicate}
use Rattle.gb_defs.specs.Classes.{class, firsts, groups, is_first, rows_below}
use Rattle.gb_defs.specs.Column.{ColumnValue}
use Rattle.gb_defs.specs.Groups.{Grouping, IsWellFormed, Slice}
use Rattle.gb_defs.specs.Hash.{seed_mix}
use Rattle.gb_defs.specs.ColumnType.{ColumnType, Flat, ListOf, ArrayOf, StructOf, Fits, Null, Boolean, Unsigned, Signed, Decimal, Date, Time, Datetime, Duration, String, Binary, BinaryOffset, Categorical, Enum}
use Rattle.gb_defs.specs.Path.{NoValues, Nulls, kind_of, run_groups}
use Rattle.gb_defs.specs.Rows.{rows_of_slots, same_slot_at}
use Rattle.gb_defs.specs.Slot.{Slot, Nil, Num, Bytes, Items, slot_at}
use Rattle.std.specs.Int.{w64}
use Rattle.gb_base.specs.declared.pool.Pool.{Pool}
use Rattle.gb_groups.specs.Slices.{slice_groups, slice_pairs}
use Rattle.gb_cols.specs.Null.{AreNulls}
use Rattle.gb_values.proofs.SlotOrderLemmas.{no_parts}
use Rattle.gb_paths.specs.Keys.{null_rows}
use Rattle.gb_paths.specs.Tuples.{tuples_on}
use Rattle.gb_paths.proofs.FormLemmas.{path_formed}

pub null_at : (n i : ℕ) → slot_at (replicate n Nil) i ≡ Nil
null_at zero i = refl
null_at (suc n) zero = refl
null_at (suc n) (suc i) = null_at n i

-- rows that all agree
module _ (agree : ℕ → ℕ → Bool) (alike : (i j : ℕ) → agree i j ≡ true) where
  all_kept : (i : ℕ) (rows : List ℕ) → filter (agree i) rows ≡ rows
  all_kept i [] = refl
  all_kept i (row ∷ rows) = rw (alike i row, all_kept i rows) refl

  none_before : (rows : List ℕ) → list_any (λ j. nat_lt j 0 && agree 0 j) rows ≡ false
  none_before [] = refl
  none_before (row ∷ rows) = rw (le-ltb row 0 (omega arith)) (none_before rows)

  no_more : (rest : List ℕ) (a m : ℕ) → 0 < a → filter (is_first agree (0 ∷ rest)) (range_with_len a m) ≡ []
  unfolding is_first
  no_more rest a zero later = refl
  no_more rest a (suc m) later = rw (lt-ltb 0 a later, alike a 0) (no_more rest (a + 1) m (omega (arith, later)))

  pub one_group : (n : ℕ) → groups agree (rows_below (suc n)) ≡ (0, rows_below (suc n)) ∷ []
  unfolding groups firsts is_first class
  one_group n = rw (none_before (range_with_len 1 n), no_more (range_with_len 1 n) 1 n (omega arith), all_kept 0 (rows_below (suc n))) refl

pub no_run : (n : ℕ) → n ≤ 0 → slice_groups [] false ≡ run_groups (null_rows n)
unfolding groups firsts
no_run zero none = refl
no_run (suc n) none = absurd (omega (arith, none))

pub one_run : (n : ℕ) → 0 < n → slice_groups ((0 ∷ n ∷ []) ∷ []) false ≡ run_groups (null_rows n)
one_run zero some = absurd (omega (arith, some))
one_run (suc n) some =
    let rows = null_rows (suc n) in
    let agree = same_slot_at rows.slot in
    let alike : (i j : ℕ) → agree i j ≡ true = λ i j. rw (null_at (suc n) i, null_at (suc n) j) refl in
    let pairs : groups agree (rows_below rows.count) ≡ (0, rows_below (suc n)) ∷ [] =
    ap (λ count. groups agree (rows_below count)) (length-replicate (suc n) Nil) ∙ one_group agree alike n in
    ap (λ ps. record { pairs = ps; form = Slice false; flagged = true }) (sym pairs)

-- the run of a column without values
pub stood_run : (column : ColumnValue) (sorted : Bool) (pool : Pool) → AreNulls column.slots → run_groups (null_rows (length column.slots)) ≡ tuples_on Nulls column sorted pool
stood_run column sorted pool nulls = ap (λ slots. run_groups (rows_of_slots w64 0 seed_mix slots)) (sym nulls)

-- slots of a type without values are nulls
slot_null : (t : ColumnType) (slot : Slot) → kind_of t ≡ NoValues → Fits t slot → slot ≡ Nil
slot_null (Flat Null) Nil is fits = refl
slot_null (Flat Null) (Num n) is fits = absurd fits
slot_null (Flat Null) (Bytes bytes) is fits = absurd fits
slot_null (Flat Null) (Items parts) is fits = absurd (no_parts Null 0 parts fits)
slot_null (Flat Boolean) slot is fits = cc
slot_null (Flat (Unsigned w)) slot is fits = cc
slot_null (Flat (Signed w)) slot is fits = cc
slot_null (Flat (Decimal precision scale)) slot is fits = cc
slot_null (Flat Date) slot is fits = cc
slot_null (Flat Time) slot is fits = cc
slot_null (Flat (Datetime unit)) slot is fits = cc
slot_null (Flat (Duration unit)) slot is fits = cc
slot_null (Flat String) slot is fits = cc
slot_null (Flat Binary) slot is fits = cc
slot_null (Flat BinaryOffset) slot is fits = cc
slot_null (Flat (Categorical texts ordering)) slot is fits = cc
slot_null (Flat (Enum texts ordering)) slot is fits = cc
slot_null (ListOf t) slot is fits = cc
slot_null (ArrayOf t width) slot is fits = cc
slot_null (StructOf fs) slot is fits = cc

pub slots_null : (t : ColumnType) (slots : List Slot) → kind_of t ≡ NoValues → All (Fits t) slots → AreNulls slots
slots_null t [] is fits = refl
slots_null t (slot ∷ slots) is fits = ap₂ (λ s ss. s ∷ ss) (slot_null t slot is (fits 0 Nil (omega arith))) (slots_null t slots is (λ k d lt. fits (suc k) d (omega (arith, lt))))

-- what is the run of so many rows is well formed
pub run_formed : (n : ℕ) (runs : List (List ℕ)) → slice_groups runs false ≡ run_groups (null_rows n) → IsWellFormed n (slice_pairs runs)
run_formed n runs are =
    let rows = null_rows n in
    let formed : IsWellFormed rows.count (run_groups rows).pairs = path_formed Nulls rows 0 0 true in
    subst (λ count. IsWellFormed count (slice_pairs runs)) (length-replicate n Nil) (subst (λ (g : Grouping). IsWellFormed rows.count g.pairs) (sym are) formed)
