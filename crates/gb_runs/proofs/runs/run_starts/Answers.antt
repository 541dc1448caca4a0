use Rattle.std.proofs.Common.{◌∙◌, ◌+◌, ap}
use Rattle.gb_defs.specs.Slot.{slot_at}
use Rattle.gb_runs.specs.Codes.{rows_in}
use Rattle.gb_runs.specs.Runs.{begins_run}
use Rattle.gb_runs.proofs.RunLemmas.{starts_more}
use Rattle.gb_runs.proofs.runs.run_starts.Goals as goal

pub loop-place-preserved : goal.loop-place-preserved
loop-place-preserved g c =
    let slots = c.args.column.now.slots in
    let first = c.args.range.0 in
    let place = c.loop-place.place in
    let invariant = c.loop-place.invariant in
    record {
      so_far = starts_more (rows_in slots) first place _ _ _ invariant.so_far c.in_ok-push_if.ensures (c.begins-begun.ensures.tells ∙ ap (λ ss. begins_run (slot_at ss) (first + place)) invariant.near);
      near = c.begins-begun.ensures.same ∙ invariant.near;
    }
