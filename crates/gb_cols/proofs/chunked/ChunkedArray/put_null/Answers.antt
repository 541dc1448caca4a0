use Rattle.std.proofs.Common.{◌∙◌, ap}
use Rattle.gb_cols.specs.Column.{pushed}
use Rattle.gb_base.specs.Sorted.{flag_of}
use Rattle.gb_defs.specs.Slot.{Nil}
use Rattle.gb_cols.proofs.ChunkedLemmas.{view_pushed}
use Rattle.gb_cols.proofs.chunked.ChunkedArray.put_null.Goals as goal

pub returns-clause-ok : goal.returns-clause-ok
returns-clause-ok g c =
    view_pushed _ _ (flag_of c.self.inside.sorted) _ _ _ Nil c.in_ok-push_null.ensures.ok ∙ ap (λ v. pushed v Nil) c.self.view_is
