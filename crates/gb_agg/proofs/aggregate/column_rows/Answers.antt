use Rattle.std.proofs.Common.{◌∙◌, ℕ, List, ap, length}
use Rattle.std.proofs.lemmas.Result.{IfOk-weaker}
use Rattle.gb_defs.specs.ColumnType.{ListOf, uint32}
use Rattle.gb_defs.specs.Groups.{lists_in}
use Rattle.gb_defs.specs.Slot.{Slot}
use Rattle.gb_series.specs.Series.{value_of}
use Rattle.gb_agg.specs.Folds.{fold_column, list_of_rows}
use Rattle.gb_agg.proofs.ListedLemmas.{row_fold, rows_numbered}
use Rattle.gb_agg.proofs.aggregate.column_rows.Goals as goal

pub row_lists-requires : goal.row_lists-requires
row_lists-requires c = rows_numbered (length (value_of c.args.column.now).slots) (lists_in c.args.groups.now) c.requires.short c.requires.groups.rows

pub returns-clause-ok : goal.returns-clause-ok
returns-clause-ok c =
    let column = value_of c.args.column.now in
    let lists = lists_in c.args.groups.now in
    let named = ap (λ (n : List ℕ). fold_column n (ListOf uint32) list_of_rows lists) (c.in_ok-name.ensures.ok ∙ c.name.ensures) in
    let fold = ap (λ (f : List ℕ → Slot). fold_column column.name (ListOf uint32) f lists) (row_fold column.dtype column.slots) in
    IfOk-weaker c.row_lists.result _ _ (λ s e. e ∙ named ∙ fold) c.row_lists.ensures.ok
