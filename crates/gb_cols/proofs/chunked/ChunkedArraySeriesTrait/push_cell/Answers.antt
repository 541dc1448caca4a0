use Rattle.std.proofs.Common.{◌∙◌, Some, sym, ap}
use Rattle.std.specs.Str.{bytes_eq}
use Rattle.std.proofs.lemmas.Result.{IfOk-weaker}
use Rattle.gb_cols.proofs.CellLemmas.{null_cell, value_cell}
use Rattle.gb_cols.proofs.chunked.ChunkedArraySeriesTrait.push_cell.Goals as goal

pub returns-then-eq-clause-ok : goal.returns-then-eq-clause-ok
returns-then-eq-clause-ok g c =
    let same = ap (bytes_eq c.args.cell.now) (sym c.as_bytes.ensures.value) ∙ sym c.eq.ensures ∙ c.if-eq.true in
    ap (λ v. Some v) c.in_ok-put_null.ensures.ok ∙ sym (null_cell c.args.null_word.now c.args.cell.now c.args.self.now same)

pub returns-clause-ok : goal.returns-clause-ok
returns-clause-ok g c =
    let other = ap (bytes_eq c.args.cell.now) (sym c.as_bytes.ensures.value) ∙ sym c.eq.ensures ∙ c.if-eq.false in
    IfOk-weaker c.put_cell.result _ _ (λ took e. e ∙ sym (value_cell c.args.null_word.now c.args.cell.now c.args.self.now other)) c.put_cell.ensures.ok
