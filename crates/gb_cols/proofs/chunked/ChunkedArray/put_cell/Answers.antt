use Rattle.std.proofs.Common.{◌∙◌, ap, option_map}
use Rattle.gb_cols.specs.Column.{pushed}
use Rattle.gb_base.specs.Sorted.{flag_of}
use Rattle.gb_defs.specs.Cell.{value_of_field}
use Rattle.gb_cols.proofs.ChunkedLemmas.{view_taken}
use Rattle.gb_cols.proofs.chunked.ChunkedArray.put_cell.Goals as goal

pub returns-clause-ok : goal.returns-clause-ok
returns-clause-ok g c =
    let taken = rw c.if-not-branch.false at c.in_ok-push_cell.ensures.ok in
    view_taken _ _ (flag_of c.self.inside.sorted) c.self.inside.earlier.items _ _ _ taken
    ∙ ap (λ v. option_map (pushed v) (value_of_field v.dtype c.args.cell.now)) c.self.view_is
