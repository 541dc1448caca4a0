-- Aggregates whose column is missing, or of an unfitting type.
use Rattle.std.proofs.Common.{◌≡◌, ℕ, ◌<◌, Bool, true, false, not, ◌&&◌, List, [], ◌∷◌, Option, Some, None, inl, inr, is_none, codes, cond, length, map, get_or, refl, sym, ◌∙◌, ap}
use Rattle.std.proofs.lemmas.Bool.{cases_Bool}
use Rattle.std.proofs.lemmas.Slice.Eq.{bytes_eq-Decides}
use Rattle.std.specs.Str.{bytes_eq}
use Rattle.std.specs.Option.{option_or}
use Rattle.gb_defs.specs.Answer.{aggregated, answer_name, slots_in, type_in}
use Rattle.gb_defs.specs.Column.{ColumnValue, Content, Frame, IsFrame, content, find_column}
use Rattle.gb_defs.specs.Fault.{Fault, ColumnNotFound, Operation, is_groups, missing_fault, unfit_at, unfit_fault, unfit_operation, unfit_or}
use Rattle.gb_defs.specs.ColumnType.{ListOf, uint32}
use Rattle.gb_defs.specs.Fold.{fold_of, fold_type}
use Rattle.gb_defs.specs.Slot.{Slot}
use Rattle.gb_agg.proofs.ListedLemmas.{row_fold}
use Rattle.gb_agg.specs.Folds.{fold_column, folded, list_of_rows, unfit_of}
use Rattle.gb_agg.specs.Method.{method_of}
use Rattle.gb_agg.specs.declared.method.GroupByMethod.{GroupByMethod}
use Rattle.gb_agg.specs.declared.method.GroupByMethod.TheVariants.{Min, Max, First, Last, Sum, Groups, NUnique, Count, Implode}
use Rattle.gb_base.specs.PlSmallStr.{name_of}
use Rattle.gb_series.specs.Frame.{missing_column}
use Rattle.gb_series.proofs.FrameLemmas.{found_long}
use Rattle.gb_frame.specs.declared.agg.Agg.{Agg}
use Rattle.gb_frame.specs.Grouping.{HasColumn, height_in, missing_cause, unfit_cause}
use Rattle.gb_frame.specs.Agg.{agg_of, aggs_of}
use Rattle.gb_frame.proofs.CauseLemmas.{first_cause, none_at}

module _ (frame : Frame) where
  cond_or : (b : Bool) (f : Fault) (rest : Option Fault) → cond b (Some f) rest ≡ option_or (cond b (Some f) None) rest
  cond_or true f rest = refl
  cond_or false f rest = refl

  missing_split : (agg : Agg) (rest : Option Fault) →
      cond (not (is_groups (method_of agg.method)) && is_none (find_column frame (name_of agg.column))) (Some (ColumnNotFound (name_of agg.column))) rest ≡ option_or (missing_cause frame agg) rest
  missing_split agg rest = elim (cases_Bool (is_groups (method_of agg.method))) [
    | inl groups ↦ rw groups refl
    | inr column ↦ rw column (cond_or (is_none (find_column frame (name_of agg.column))) (ColumnNotFound (name_of agg.column)) rest)
  ]

  pub missing_is : (aggs : List Agg) → missing_fault frame (aggs_of aggs) ≡ first_cause (missing_cause frame) aggs
  missing_is [] = refl
  missing_is (agg ∷ aggs) = missing_split agg (missing_fault frame (aggs_of aggs)) ∙ ap (option_or (missing_cause frame agg)) (missing_is aggs)

  unfit_split : (name : List ℕ) (o : Option Operation) (rest : Option Fault) → unfit_or name o rest ≡ option_or (unfit_or name o None) rest
  unfit_split name None rest = refl
  unfit_split name (Some o) rest = refl

  pub unfit_is : (aggs : List Agg) → unfit_fault frame (aggs_of aggs) ≡ first_cause (unfit_cause frame) aggs
  unfit_is [] = refl
  unfit_is (agg ∷ aggs) =
      unfit_split (name_of agg.column) (unfit_at (method_of agg.method) (find_column frame (name_of agg.column))) (unfit_fault frame (aggs_of aggs))
      ∙ ap (option_or (unfit_cause frame agg)) (unfit_is aggs)

  no_cause : (b : Bool) (f : Fault) → cond b (Some f) None ≡ None → b ≡ false
  no_cause true f e = cc
  no_cause false f e = refl

  has_column : (agg : Agg) → missing_cause frame agg ≡ None → HasColumn frame agg
  has_column agg none column =
      let same : missing_cause frame agg ≡ missing_column frame (name_of agg.column) = rw column refl in
      no_cause (is_none (find_column frame (name_of agg.column))) (ColumnNotFound (name_of agg.column)) (sym same ∙ none)

  -- no column that an aggregate needs is missing
  pub found_at : (aggs : List Agg) (i : ℕ) (d : Agg) → i < length aggs → missing_fault frame (aggs_of aggs) ≡ None → HasColumn frame (get_or aggs i d)
  found_at aggs i d lt e = has_column (get_or aggs i d) (none_at (missing_cause frame) aggs i d lt (sym (missing_is aggs) ∙ e))

  -- the row lists fit every type
  pub groups_fit : (agg : Agg) → is_groups (method_of agg.method) ≡ true → unfit_cause frame agg ≡ None
  groups_fit agg groups = ap (λ (o : Option Operation). unfit_or (name_of agg.column) o None) (by agg.method groups (find_column frame (name_of agg.column)))
    where
      by : (m : GroupByMethod) → is_groups (method_of m) ≡ true → (found : Option ColumnValue) → unfit_at (method_of m) found ≡ None
      by Groups e None = refl
      by Groups e (Some c) = refl
      by Min e found = cc
      by Max e found = cc
      by First e found = cc
      by Last e found = cc
      by Sum e found = cc
      by NUnique e found = cc
      by (Count all) e found = cc
      by Implode e found = cc

-- ---- an aggregate under the name of its answer

-- the column that is found by a name has it
pub found_named : (frame : Frame) (name : List ℕ) (c : ColumnValue) → find_column frame name ≡ Some c → c.name ≡ name
found_named [] name c e = cc
found_named (d ∷ ds) name c e = elim (cases_Bool (bytes_eq d.name name)) [
  | inl same ↦
      let here : Some d ≡ Some c = rw same at e in
      let is : d ≡ c = cc in
      sym (ap (λ (v : ColumnValue). v.name) is) ∙ (bytes_eq-Decides d.name name).0 same
  | inr other ↦ found_named ds name c (rw other at e)
]

-- it has as many rows as are grouped
pub found_height : (frame : Frame) (name : List ℕ) (c : ColumnValue) → IsFrame frame → find_column frame name ≡ Some c → length c.slots ≡ height_in frame
found_height [] name c whole found = cc found
found_height (d ∷ ds) name c whole found = found_long (length d.slots) (d ∷ ds) name c whole.aligned found

module _ (frame : Frame) (agg : Agg) (c : ColumnValue) (found : find_column frame (name_of agg.column) ≡ Some c) where
  -- it is refused for the type of its column
  pub found_unfit : unfit_of (method_of agg.method) c ≡ unfit_cause frame agg
  found_unfit =
      ap (λ (name : List ℕ). unfit_or name (unfit_operation (method_of agg.method) c.dtype) None) (found_named frame (name_of agg.column) c found)
      ∙ ap (λ (o : Option ColumnValue). unfit_or (name_of agg.column) (unfit_at (method_of agg.method) o) None) (sym found)

  -- and else is the answer's column once it is named
  pub found_renamed : (lists : List (List ℕ)) (folded_column named : ColumnValue) (name : List ℕ) → content folded_column ≡ content (folded (method_of agg.method) c lists)
      → name ≡ answer_name (name_of agg.column) (method_of agg.method) → named ≡ record folded_column { name = name }
      → content named ≡ aggregated (agg_of agg) (find_column frame (name_of agg.column)) lists
  found_renamed lists folded_column named name same is renamed =
      let method = method_of agg.method in
      ap content renamed
      ∙ ap (λ (x : Content). record { name = name; dtype = x.dtype; slots = x.slots }) same
      ∙ ap (λ (n : List ℕ). record { name = n; dtype = fold_type method c.dtype; slots = map (fold_of method c.dtype c.slots) lists }) is
      ∙ ap (λ (o : Option ColumnValue). aggregated (agg_of agg) o lists) (sym found)

-- ---- the row lists

pub rows_aggregated : (agg : Agg) (found : Option ColumnValue) (lists : List (List ℕ)) (made : ColumnValue) (name : List ℕ) → is_groups (method_of agg.method) ≡ true
    → name ≡ answer_name (name_of agg.column) (method_of agg.method) → made ≡ fold_column name (ListOf uint32) list_of_rows lists
    → content made ≡ aggregated (agg_of agg) found lists
rows_aggregated agg found lists made name groups named is = by agg.method groups named
  where
    by : (m : GroupByMethod) → is_groups (method_of m) ≡ true → name ≡ answer_name (name_of agg.column) (method_of m) → content made ≡ aggregated (name_of agg.column, method_of m) found lists
    by Groups e n =
        ap content is
        ∙ ap (λ (x : List ℕ). record { name = x; dtype = ListOf uint32; slots = map list_of_rows lists }) n
        ∙ ap (λ (f : List ℕ → Slot). record { name = codes "groups"; dtype = ListOf uint32; slots = map f lists }) (row_fold (type_in found) (slots_in found))
    by Min e n = cc
    by Max e n = cc
    by First e n = cc
    by Last e n = cc
    by Sum e n = cc
    by NUnique e n = cc
    by (Count all) e n = cc
    by Implode e n = cc
