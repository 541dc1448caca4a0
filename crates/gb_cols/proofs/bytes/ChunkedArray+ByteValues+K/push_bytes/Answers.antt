use Rattle.std.proofs.Common.{◌∙◌, ap}
use Rattle.gb_cols.specs.Column.{pushed}
use Rattle.gb_values.specs.Keys.{bytes_slot}
use Rattle.gb_base.specs.Sorted.{flag_of}
use Rattle.gb_cols.proofs.ChunkedLemmas.{view_pushed}
use Rattle.gb_cols.proofs.bytes.ChunkedArray+ByteValues+K.push_bytes.Goals as goal

pub returns-clause-ok : goal.returns-clause-ok
returns-clause-ok g c =
    let slot = bytes_slot c.args.slot in
    view_pushed _ _ (flag_of c.self.inside.sorted) _ _ _ slot c.in_ok-push_bytes.ensures.ok ∙ ap (λ v. pushed v slot) c.self.view_is
