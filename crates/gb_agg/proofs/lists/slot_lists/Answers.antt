use Rattle.std.proofs.Common.{◌∙◌, ◌<◌, ℕ, All, List, ap, length, subst, sym}
use Rattle.std.proofs.lemmas.Result.{IfOk-weaker}
use Rattle.gb_defs.specs.Column.{taken}
use Rattle.gb_defs.specs.Groups.{lists_in}
use Rattle.gb_series.specs.Rows.{lists_of}
use Rattle.gb_series.specs.Series.{value_of}
use Rattle.gb_agg.proofs.ListedLemmas.{rows_inside, rows_numbered, slots_listed}
use Rattle.gb_agg.proofs.lists.slot_lists.Goals as goal

pub listed_rows-requires : goal.listed_rows-requires
listed_rows-requires c = rows_numbered (length (value_of c.args.column.now).slots) (lists_in c.args.groups.now) c.requires.short c.requires.groups.rows

pub take-requires : goal.take-requires
take-requires c =
    let column = value_of c.args.column.now in
    subst (λ (rows : List ℕ). All (λ row. row < length column.slots) rows) (sym c.deref.ensures.value)
    (rows_inside (length column.slots) (lists_in c.args.groups.now) c.in_ok-rows.rows.items c.in_ok-rows.ends.items c.requires.groups.rows c.in_ok-rows.ensures)

pub returns-clause-ok : goal.returns-clause-ok
returns-clause-ok c =
    let column = value_of c.args.column.now in
    let rows = c.in_ok-rows.rows.items in
    let ends = c.in_ok-rows.ends.items in
    let made =
    c.in_ok-lists.ensures.ok
    ∙ ap (λ n. lists_of n ends (value_of c.in_ok-items.items)) (c.in_ok-name.ensures.ok ∙ c.name.ensures)
    ∙ ap (lists_of column.name ends) (c.in_ok-items.ensures.ok ∙ ap (λ (rs : List ℕ). taken rs column) c.deref.ensures.value)
    ∙ slots_listed column (lists_in c.args.groups.now) rows ends c.in_ok-rows.ensures in
    IfOk-weaker c.from_lists.result _ _ (λ s e. e ∙ made) c.from_lists.ensures.ok
