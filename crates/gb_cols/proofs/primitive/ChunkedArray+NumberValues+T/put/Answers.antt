use Rattle.std.proofs.Common.{◌∙◌, ap}
use Rattle.gb_values.specs.Array.{native_slot}
use Rattle.gb_cols.specs.Column.{pushed}
use Rattle.gb_base.specs.Sorted.{flag_of}
use Rattle.gb_cols.proofs.ChunkedLemmas.{view_pushed}
use Rattle.gb_cols.proofs.primitive.ChunkedArray+NumberValues+T.put.Goals as goal

pub returns-clause-ok : goal.returns-clause-ok
returns-clause-ok g c =
    view_pushed _ _ (flag_of c.self.inside.sorted) _ _ _ (native_slot g.T.Native.Native.number c.args.slot) c.in_ok-push.ensures.ok
    ∙ ap (λ v. pushed v (native_slot g.T.Native.Native.number c.args.slot)) c.self.view_is
