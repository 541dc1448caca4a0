use Rattle.std.proofs.Common.{◌∙◌, ℕ, All, List, ap, length, subst, sym}
use Rattle.gb_defs.specs.Column.{fresh_column}
use Rattle.gb_defs.specs.ColumnType.{uint32}
use Rattle.gb_defs.specs.Groups.{AreMembers, lists_in}
use Rattle.gb_defs.specs.Slot.{Slot}
use Rattle.gb_series.specs.Series.{value_of}
use Rattle.gb_agg.specs.Distinct.{different_fold}
use Rattle.gb_agg.specs.Folds.{fold_column}
use Rattle.gb_agg.proofs.DistinctLemmas.{counted_lists}
use Rattle.gb_agg.proofs.distinct.distinct_counts.Goals as goal

pub count_groups-requires-clause-rows : goal.count_groups-requires-clause-rows
count_groups-requires-clause-rows g c =
    let lists = lists_in c.args.groups.now in
    let long = ap (λ (ns : List ℕ). length ns) c.deref.ensures.value ∙ c.in_ok-numbers.ensures.ok.as_many in
    subst (λ (n : ℕ). All (AreMembers n) lists) (sym long) c.requires.groups.rows

pub returns-clause-ok : goal.returns-clause-ok
returns-clause-ok g c =
    let column = value_of c.args.column.now in
    let lists = lists_in c.args.groups.now in
    c.in_ok-counts.ensures.ok
    ∙ ap (λ (n : List ℕ). fold_column n uint32 (different_fold c.deref.result.now) lists) (c.in_ok-name.ensures.ok ∙ c.name.ensures)
    ∙ ap (λ (ns : List ℕ). fold_column column.name uint32 (different_fold ns) lists) c.deref.ensures.value
    ∙ ap (λ (ss : List Slot). fresh_column column.name uint32 ss) (counted_lists column c.in_ok-numbers.count c.in_ok-numbers.numbers.items c.in_ok-numbers.ensures.ok lists c.requires.groups.rows)
