use Rattle.std.proofs.Common.{◌∙◌, Result, Ok, Err, OnErr, Vec, ap, subst}
use Rattle.gb_text.specs.Moved.{HoldsPart}
use Rattle.gb_text.proofs.DeviceLemmas.{part_of_parts}
use Rattle.gb_text.proofs.streams.write_parts.Goals as goal

always : {X E P : Type 0} (r : Result X E) → P → OnErr r P
always (Ok x) p = tt
always (Err e) p = p

pub returns-in_err-write_all-clause-part : goal.returns-in_err-write_all-clause-part
returns-in_err-write_all-clause-part g c =
    let parts = c.args.parts.now in
    let k = c.loop-part.part-index in
    let item = c.part-item.result in
    let before = g.W.Sink.held c.args.sink.now in
    let mid = g.W.Sink.held c.loop-part.sink in
    let after = g.W.Sink.held c.write_all.new.sink in
    let is = c.deref.ensures.value ∙ ap (λ (v : Vec _ _). v.items) c.part-item.is in
    always c.from_residual.result (part_of_parts parts k item c.loop-part-test.true before mid after c.loop-part.invariant.held (subst (λ t. HoldsPart t mid after) is c.in_err-write_all.ensures.part))
