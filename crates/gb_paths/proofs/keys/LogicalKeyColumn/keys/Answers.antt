use Rattle.std.proofs.Common.{◌∙◌, ap, sym}
use Rattle.std.proofs.lemmas.Result.{IfOk-weaker}
use Rattle.gb_paths.proofs.KeyFormLemmas.{typed_keys, whole_kind}
use Rattle.gb_paths.proofs.keys.LogicalKeyColumn.keys.Goals as goal

pub returns-clause-ok : goal.returns-clause-ok
returns-clause-ok g c =
    let column = c.args.self.now in
    let stored = c.physical.result.now in
    let stands = g.met.K.LogicalKind.stands c.kind.result in
    let slots = ap (λ v. v.slots) c.physical.ensures.column in
    let kind = stands.kind ∙ sym (whole_kind _ _ g.met.K.Physical.Native.Native.whole) in
    IfOk-weaker c.keys.result _ _ (λ keys h. typed_keys _ _ column stored c.kind.ensures.kind c.physical.ensures.typed slots stands.width kind keys h) c.keys.ensures.ok
