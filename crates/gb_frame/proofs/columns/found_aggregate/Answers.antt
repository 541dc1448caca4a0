use Rattle.std.proofs.Common.{◌≡◌, ◌∙◌, Some, subst, sym, All, ℕ}
use Rattle.std.proofs.lemmas.Result.{err_from_is_err_and}
use Rattle.gb_defs.specs.Column.{find_column}
use Rattle.gb_base.specs.PlSmallStr.{name_of}
use Rattle.gb_base.specs.PolarsError.{Explains}
use Rattle.gb_series.specs.Series.{value_of}
use Rattle.gb_defs.specs.Groups.{AreMembers, HasRowNumbers, lists_in}
use Rattle.gb_agg.specs.Over.{grouping_over}
use Rattle.gb_frame.proofs.AggLemmas.{found_height, found_renamed, found_unfit}
use Rattle.gb_frame.proofs.OverLemmas.{numbers_fit}
use Rattle.gb_frame.proofs.columns.found_aggregate.Goals as goal

pub aggregate_over-requires-clause-groups : goal.aggregate_over-requires-clause-groups
aggregate_over-requires-clause-groups g c κs within =
    let in' = c.requires.groups in
    let found : find_column c.args.frame.now (name_of c.args.agg.now.column) ≡ Some (value_of c.in_ok-column.column.now) = rw (← c.as_str-name.ensures) c.in_ok-column.ensures.ok in
    let long = found_height c.args.frame.now (name_of c.args.agg.now.column) (value_of c.in_ok-column.column.now) in'.whole found in
    record { rows = subst (λ (n : ℕ). All (AreMembers n) (lists_in (grouping_over c.args.over.now))) (sym long) in'.rows; few = in'.few }

pub aggregate_over-requires-clause-short : goal.aggregate_over-requires-clause-short
aggregate_over-requires-clause-short g c κs within =
    let in' = c.requires.groups in
    let found : find_column c.args.frame.now (name_of c.args.agg.now.column) ≡ Some (value_of c.in_ok-column.column.now) = rw (← c.as_str-name.ensures) c.in_ok-column.ensures.ok in
    let long = found_height c.args.frame.now (name_of c.args.agg.now.column) (value_of c.in_ok-column.column.now) in'.whole found in
    subst HasRowNumbers (sym long) in'.short

pub returns-clause-ok : goal.returns-clause-ok
returns-clause-ok g c =
    let found : find_column c.args.frame.now (name_of c.args.agg.now.column) ≡ Some (value_of c.in_ok-column.column.now) = rw (← c.as_str-name.ensures) c.in_ok-column.ensures.ok in
    let named = c.in_ok-fmt_group_by_column.ensures.ok in
    found_renamed c.args.frame.now c.args.agg.now (value_of c.in_ok-column.column.now) found (lists_in (grouping_over c.args.over.now))
    (value_of c.in_ok-folded.folded) (value_of c.rename.new.self) _ c.in_ok-folded.ensures.ok (rw c.as_str-name.ensures at named) c.rename.ensures

pub returns-clause-fits : goal.returns-clause-fits
returns-clause-fits g c =
    let found : find_column c.args.frame.now (name_of c.args.agg.now.column) ≡ Some (value_of c.in_ok-column.column.now) = rw (← c.as_str-name.ensures) c.in_ok-column.ensures.ok in
    sym (found_unfit c.args.frame.now c.args.agg.now (value_of c.in_ok-column.column.now) found) ∙ c.in_ok-folded.ensures.fits

pub returns-in_err-folded-clause-err : goal.returns-in_err-folded-clause-err
returns-in_err-folded-clause-err g c =
    let found : find_column c.args.frame.now (name_of c.args.agg.now.column) ≡ Some (value_of c.in_ok-column.column.now) = rw (← c.as_str-name.ensures) c.in_ok-column.ensures.ok in
    let cause = found_unfit c.args.frame.now c.args.agg.now (value_of c.in_ok-column.column.now) found in
    let p = err_from_is_err_and c.from_residual-in_err-folded.result c.from_residual-in_err-folded.ensures.1 in
    rw (p.1, p.2) (subst (Explains c.in_err-folded.field-0.0) cause c.in_err-folded.ensures.err)

pub aggregate_over-requires-clause-rows : goal.aggregate_over-requires-clause-rows
aggregate_over-requires-clause-rows g c κs within =
    let found : find_column c.args.frame.now (name_of c.args.agg.now.column) ≡ Some (value_of c.in_ok-column.column.now) = rw (← c.as_str-name.ensures) c.in_ok-column.ensures.ok in
    numbers_fit c.args.frame.now (name_of c.args.agg.now.column) (value_of c.in_ok-column.column.now) c.requires.groups.whole found c.args.over.now c.requires.rows
