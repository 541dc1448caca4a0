-- The loops that make the columns of an answer.
use Rattle.std.proofs.Common.{◌≡◌, ℕ, Bool, List, ◌++◌, ◌∷◌, [], Option, Some, None, map, refl, sym, ◌∙◌, ap, true, false, inl, inr}
use Rattle.std.proofs.lemmas.Bool.{cases_Bool}
use Rattle.std.specs.Prelude.{if◌then◌else◌}
use Rattle.std.proofs.lemmas.List.{map-append}
use Rattle.gb_defs.specs.Slot.{Slot, Num}
use Rattle.gb_defs.specs.ColumnType.{ColumnType, FlatType, Flat}
use Rattle.gb_agg.specs.Folds.{extreme, extremes_of_column, fold_column, fold_in, folded, rows_fold, sums_of_column, unfit_of}
use Rattle.gb_defs.specs.Column.{ColumnValue, categories_of, fresh_column}
use Rattle.gb_defs.specs.Fault.{has_least, has_sum, sums_flat}
use Rattle.gb_defs.specs.Fold.{Sum, Count, fold_of, fold_picked, picked, sum_type, wrap_flat, total, valid}
use Rattle.gb_logical.proofs.CategoryLemmas.{has_texts}
use Rattle.gb_cols.specs.Column.{pushed}
use Rattle.gb_logical.specs.Logical.{SumsAs, logical_column}
use Rattle.gb_logical.proofs.BuilderLemmas.{pushed_fresh}

-- rows that are counted
pub counted_rows : (c : ColumnValue) → rows_fold ≡ fold_in (Count true) c
unfolding fold_picked
counted_rows c = refl

-- the column of one group more
pub column_next : {G : Type 0} (rows_of : G → List ℕ) (f : List ℕ → Slot) (name : List ℕ) (t : ColumnType) (groups : List G) (group : G) (old new : ColumnValue) (s : Slot) →
    new ≡ pushed old s → s ≡ f (rows_of group) → old ≡ fresh_column name t (map f (map rows_of groups)) →
    new ≡ fresh_column name t (map f (map rows_of (groups ++ group ∷ [])))
column_next rows_of f name t groups group old new s e at h =
    e ∙ ap (λ c. pushed c s) h ∙ pushed_fresh name t (map f (map rows_of groups)) s
    ∙ ap (λ r. fresh_column name t (map f (map rows_of groups) ++ r ∷ [])) at
    ∙ ap (fresh_column name t) (sym (ap (map f) (map-append rows_of groups (group ∷ [])) ∙ map-append f (map rows_of groups) (rows_of group ∷ [])))

-- ---- sums by the type of the column

module _ (name : List ℕ) (c : ColumnValue) (lists : List (List ℕ)) where
  pub sums_told : (sums : ColumnValue) → Some sums ≡ sums_of_column name c lists → (has_sum c.dtype ≡ true) × (sums ≡ fold_column name (sum_type c.dtype) (fold_in Sum c) lists)
  sums_told sums e = elim (cases_Bool (has_sum c.dtype)) [
    | inl has ↦ let same = rw has at e in (has, cc)
    | inr none ↦ let bad = rw none at e in cc
  ]

  pub no_sums_told : ◌≡◌ {A = Option ColumnValue} None (sums_of_column name c lists) → has_sum c.dtype ≡ false
  no_sums_told e = elim (cases_Bool (has_sum c.dtype)) [
    | inl has ↦ let bad = rw has at e in cc
    | inr none ↦ none
  ]

-- sums of numbers that stand for others are the sums of those
module _ (stored t : FlatType) (alike : SumsAs stored t) where
  sums_as : (slots : List Slot) (lists : List (List ℕ)) → map (fold_of Sum (Flat stored) slots) lists ≡ map (fold_of Sum (Flat t) slots) lists
  unfolding fold_picked
  sums_as slots [] = refl
  sums_as slots (rows ∷ lists) =
      rw (sym (alike.wraps (total (valid (picked slots rows))))) (ap (λ ss. Num (wrap_flat t (total (valid (picked slots rows)))) ∷ ss) (sums_as slots lists))

  pub logical_sums : (name : List ℕ) (c physical sums : ColumnValue) (lists : List (List ℕ)) → sums_flat t ≡ true → c.dtype ≡ Flat t → c.slots ≡ physical.slots → physical.dtype ≡ Flat stored →
      sums ≡ fold_column name (Flat stored) (fold_in Sum physical) lists → Some (logical_column t sums) ≡ sums_of_column name c lists
  logical_sums name c physical sums lists has typed same stored_type e =
      let folds : ColumnType → List Slot → List Slot = λ d ss. map (fold_of Sum d ss) lists in
      let folded : sums ≡ fresh_column name (Flat stored) (folds (Flat stored) physical.slots) =
      e ∙ ap (λ d. fresh_column name (Flat stored) (folds d physical.slots)) stored_type in
      let slots : folds (Flat stored) physical.slots ≡ folds (Flat t) c.slots = sums_as physical.slots lists ∙ ap (folds (Flat t)) (sym same) in
      let left : logical_column t sums ≡ fresh_column name (Flat t) (folds (Flat t) c.slots) = ap (logical_column t) folded ∙ ap (fresh_column name (Flat t)) slots in
      let chosen : Bool → ColumnType → Option ColumnValue = λ b d. if b then Some (fresh_column name d (folds (Flat t) c.slots)) else None in
      let right : sums_of_column name c lists ≡ Some (fresh_column name (Flat t) (folds (Flat t) c.slots)) =
      ap (λ d. if has_sum d then Some (fresh_column name (sum_type d) (folds d c.slots)) else None) typed ∙ ap (λ b. chosen b (sum_type (Flat t))) has ∙ ap (chosen true) alike.same_type in
      ap (λ v. Some v) left ∙ sym right

-- categories have no sums
pub no_category_sums : (t : ColumnType) (texts : List (List ℕ)) → categories_of t ≡ Some texts → has_sum t ≡ false
no_category_sums t texts e = elim (has_texts t texts e).1 [
  | inl same ↦ rw same refl
  | inr same ↦ rw same refl
]

-- ---- least and greatest slots by the type of the column

module _ (g : Bool) (c : ColumnValue) (lists : List (List ℕ)) where
  pub extremes_told : (found : ColumnValue) → Some found ≡ extremes_of_column g c lists → (has_least c.dtype ≡ true) × (found ≡ folded (extreme g) c lists)
  extremes_told found e = elim (cases_Bool (has_least c.dtype)) [
    | inl has ↦ let same = rw has at e in (has, cc)
    | inr none ↦ let bad = rw none at e in cc
  ]

  pub extremes_fit : has_least c.dtype ≡ true → unfit_of (extreme g) c ≡ None
  extremes_fit has = by g
    where
      by : (g : Bool) → unfit_of (extreme g) c ≡ None
      by false = rw has refl
      by true = rw has refl

  pub no_extremes_told : ◌≡◌ {A = Option ColumnValue} None (extremes_of_column g c lists) → has_least c.dtype ≡ false
  no_extremes_told e = elim (cases_Bool (has_least c.dtype)) [
    | inl has ↦ let bad = rw has at e in cc
    | inr none ↦ none
  ]

-- ---- valid slots, whatever the type

valid_by : (t u : ColumnType) (slots : List Slot) → fold_of (Count false) t slots ≡ fold_of (Count false) u slots
unfolding fold_picked
valid_by t u slots = refl

-- those of a column are those of one with the same slots
pub valid_alike : (c physical : ColumnValue) → c.slots ≡ physical.slots → fold_in (Count false) physical ≡ fold_in (Count false) c
valid_alike c physical same = valid_by physical.dtype c.dtype physical.slots ∙ ap (fold_of (Count false) c.dtype) (sym same)
