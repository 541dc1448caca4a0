use Rattle.std.proofs.Common.{◌∙◌, ap, ◌++◌, ◌∷◌, [], false}
use Rattle.gb_cols.specs.Column.{pushed}
use Rattle.gb_defs.specs.Slot.{Nil}
use Rattle.gb_series.specs.Series.{value_of}
use Rattle.gb_series.specs.Rows.{end_of}
use Rattle.gb_series.proofs.ListLemmas.{listed_null, null_pushed}
use Rattle.gb_series.proofs.nested.list.ListChunked.put_null.Goals as goal

pub invariant_of-self-2 : goal.invariant_of-self-2
invariant_of-self-2 c =
    let in_self = c.self.inside in
    let long = c.end_of-end.ensures ∙ ap end_of c.deref.ensures.value in
    let flags = c.push_reserved.ensures.items ∙ ap (λ xs. xs ++ false ∷ []) c.in_ok-reserve.ensures.items in
    let ends = c.push_reserved-2.ensures.items ∙ ap (λ xs. xs ++ c.end_of-end.result ∷ []) c.in_ok-reserve-2.ensures.items in
    listed_null in_self.rows in_self.present.items in_self.ends.items (value_of in_self.items) c.self.invariant _ _ _ _ long c.in-Ok.ensures.ok flags ends

pub returns-clause-ok : goal.returns-clause-ok
returns-clause-ok c =
    let in_self = c.self.inside in
    let long = c.end_of-end.ensures ∙ ap end_of c.deref.ensures.value in
    let flags = c.push_reserved.ensures.items ∙ ap (λ xs. xs ++ false ∷ []) c.in_ok-reserve.ensures.items in
    let ends = c.push_reserved-2.ensures.items ∙ ap (λ xs. xs ++ c.end_of-end.result ∷ []) c.in_ok-reserve-2.ensures.items in
    null_pushed in_self.rows in_self.present.items in_self.ends.items (value_of in_self.items) c.self.invariant _ _ _ _ long c.in-Ok.ensures.ok flags ends
    ∙ ap (λ v. pushed v Nil) c.self.view_is
