use Rattle.std.proofs.Common.{List, Some, length, ◌∙◌, ap, subst, sym}
use Rattle.std.specs.List.{All}
use Rattle.gb_defs.specs.Column.{ColumnValue}
use Rattle.gb_defs.specs.Slot.{Slot}
use Rattle.gb_cols.specs.Codes.{IsCodeBelow}
use Rattle.gb_compare.proofs.PlacedLemmas.{codes_below, like_texts}
use Rattle.gb_compare.proofs.categories.local_categorical.Goals as goal

pub returns-clause-column : goal.returns-clause-column
returns-clause-column c =
    let known = c.get_rev_map.ensures ∙ ap Some (sym c.deref.ensures) in
    let same = ap (λ (v : ColumnValue). v.slots) (sym c.physical.ensures.column) in
    like_texts c.deref.result.now c.args.column.now c.physical.result.now same known

pub returns-clause-texts : goal.returns-clause-texts
returns-clause-texts c =
    let texts = c.deref.result.now in
    let known = c.get_rev_map.ensures ∙ ap Some (sym c.deref.ensures) in
    let below = codes_below texts c.args.column.now.dtype c.args.column.now.slots known c.len.ensures.fitting in
    subst (λ (slots : List Slot). All (IsCodeBelow (length texts)) slots) (ap (λ (v : ColumnValue). v.slots) c.physical.ensures.column) below
