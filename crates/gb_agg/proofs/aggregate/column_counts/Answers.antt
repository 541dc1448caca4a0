use Rattle.std.proofs.Common.{◌∙◌, List, ap, false, ℕ}
use Rattle.gb_defs.specs.ColumnType.{uint32}
use Rattle.gb_defs.specs.Fold.{Count}
use Rattle.gb_defs.specs.Groups.{lists_in}
use Rattle.gb_defs.specs.Slot.{Slot}
use Rattle.gb_series.specs.Series.{value_of}
use Rattle.gb_agg.specs.Folds.{fold_column, fold_in, rows_fold}
use Rattle.gb_agg.proofs.FoldingLemmas.{counted_rows}
use Rattle.gb_agg.proofs.aggregate.column_counts.Goals as goal

pub returns-then-include_nulls-clause-ok : goal.returns-then-include_nulls-clause-ok
returns-then-include_nulls-clause-ok g c =
    let column = value_of c.args.column.now in
    let lists = lists_in (g.G.FoldGroups.grouping c.args.groups.now) in
    let named = c.in_ok-name.ensures.ok ∙ c.name.ensures in
    rw c.if-include_nulls.true (c.into_series.ensures ∙ c.in_ok-counts.ensures.ok
    ∙ ap (λ (n : List ℕ). fold_column n uint32 rows_fold lists) named
    ∙ ap (λ (f : List ℕ → Slot). fold_column column.name uint32 f lists) (counted_rows column))

pub returns-clause-ok : goal.returns-clause-ok
returns-clause-ok g c =
    let column = value_of c.args.column.now in
    let lists = lists_in (g.G.FoldGroups.grouping c.args.groups.now) in
    let named = c.in_ok-name.ensures.ok ∙ c.name.ensures in
    rw c.if-include_nulls.false (c.into_series-2.ensures ∙ c.in_ok-counts-2.ensures.ok
    ∙ ap (λ (n : List ℕ). fold_column n uint32 (fold_in (Count false) column) lists) named)
