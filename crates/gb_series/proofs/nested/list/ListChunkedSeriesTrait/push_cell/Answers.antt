use Rattle.std.proofs.Common.{◌≡◌, ◌∙◌, ap, sym, subst, refl, Some, None, option_map}
use Rattle.std.specs.Str.{bytes_eq}
use Rattle.gb_defs.specs.Cell.{value_of_field}
use Rattle.gb_defs.specs.Column.{ColumnValue}
use Rattle.gb_cols.specs.Column.{pushed}
use Rattle.gb_cols.proofs.CellLemmas.{null_cell, value_cell}
use Rattle.gb_series.proofs.nested.list.ListChunkedSeriesTrait.push_cell.Goals as goal

pub returns-then-eq-clause-ok : goal.returns-then-eq-clause-ok
returns-then-eq-clause-ok c =
    let same = ap (bytes_eq c.args.cell.now) (sym c.as_bytes.ensures.value) ∙ sym c.eq.ensures ∙ c.if-eq.true in
    ap (λ v. Some v) c.in_ok-put_null.ensures.ok ∙ sym (null_cell c.args.null_word.now c.args.cell.now c.args.self.now same)

pub returns-clause-ok : goal.returns-clause-ok
returns-clause-ok c =
    let other = ap (bytes_eq c.args.cell.now) (sym c.as_bytes.ensures.value) ∙ sym c.eq.ensures ∙ c.if-eq.false in
    let none = subst (λ (v : ColumnValue). ◌≡◌ {A = _} None (option_map (pushed v) (value_of_field v.dtype c.args.cell.now))) c.self.view_is refl in
    none ∙ sym (value_cell c.args.null_word.now c.args.cell.now c.args.self.now other)
