use Rattle.std.proofs.Common.{◌∙◌, ap}
use Rattle.gb_base.specs.AnyValue.{flag_number}
use Rattle.gb_values.specs.Array.{native_slot}
use Rattle.gb_cols.specs.Column.{pushed}
use Rattle.gb_base.specs.Sorted.{flag_of}
use Rattle.gb_cols.proofs.ChunkedLemmas.{view_pushed}
use Rattle.gb_cols.proofs.boolean.ChunkedArray+FlagValues.push.Goals as goal

pub returns-clause-ok : goal.returns-clause-ok
returns-clause-ok c =
    let slot = native_slot flag_number c.args.slot in
    view_pushed _ _ (flag_of c.self.inside.sorted) _ _ _ slot c.in_ok-push.ensures.ok ∙ ap (λ v. pushed v slot) c.self.view_is
