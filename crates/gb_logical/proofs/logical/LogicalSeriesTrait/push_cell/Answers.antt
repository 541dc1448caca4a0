use Rattle.std.proofs.Common.{◌∙◌, Some, sym, ap, option_map}
use Rattle.std.specs.Str.{bytes_eq}
use Rattle.gb_defs.specs.Cell.{value_of_field}
use Rattle.gb_defs.specs.ColumnType.{Flat}
use Rattle.gb_defs.specs.Slot.{Nil}
use Rattle.gb_cols.specs.Column.{pushed}
use Rattle.gb_logical.specs.Logical.{typed_as}
use Rattle.gb_cols.proofs.CellLemmas.{null_cell, value_cell}
use Rattle.gb_logical.proofs.logical.LogicalSeriesTrait.push_cell.Goals as goal

pub returns-then-eq-clause-ok : goal.returns-then-eq-clause-ok
returns-then-eq-clause-ok g c =
    let same = ap (bytes_eq c.args.cell.now) (sym c.as_bytes.ensures.value) ∙ sym c.eq.ensures ∙ c.if-eq.true in
    let t = Flat (g.K.LogicalKind.flat c.self.inside.kind) in
    ap (λ p. Some (typed_as t p)) c.in_ok-put_null.ensures.ok ∙ ap (λ v. Some (pushed v Nil)) c.self.view_is
    ∙ sym (null_cell c.args.null_word.now c.args.cell.now c.args.self.now same)

pub returns-in_ok-put-in-Some-clause-ok : goal.returns-in_ok-put-in-Some-clause-ok
returns-in_ok-put-in-Some-clause-ok g c =
    let other = ap (bytes_eq c.args.cell.now) (sym c.as_bytes.ensures.value) ∙ sym c.eq.ensures ∙ c.if-eq.false in
    let t = Flat (g.K.LogicalKind.flat c.self.inside.kind) in
    ap (λ p. Some (typed_as t p)) c.in_ok-put-in-Some.ensures.ok ∙ ap (option_map (pushed (typed_as t c.self.inside.physical))) c.in-Some.ensures
    ∙ ap (λ v. option_map (pushed v) (value_of_field v.dtype c.args.cell.now)) c.self.view_is
    ∙ sym (value_cell c.args.null_word.now c.args.cell.now c.args.self.now other)

pub returns-in-None-clause-ok : goal.returns-in-None-clause-ok
returns-in-None-clause-ok g c =
    let other = ap (bytes_eq c.args.cell.now) (sym c.as_bytes.ensures.value) ∙ sym c.eq.ensures ∙ c.if-eq.false in
    let t = Flat (g.K.LogicalKind.flat c.self.inside.kind) in
    ap (option_map (pushed (typed_as t c.self.inside.physical))) c.in-None.ensures
    ∙ ap (λ v. option_map (pushed v) (value_of_field v.dtype c.args.cell.now)) c.self.view_is
    ∙ sym (value_cell c.args.null_word.now c.args.cell.now c.args.self.now other)
