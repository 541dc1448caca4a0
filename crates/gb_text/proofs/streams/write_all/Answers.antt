use Rattle.std.proofs.Common.{arith, length, ap, length-drop}
use Rattle.std.proofs.lemmas.List.{take_rest}
use Rattle.gb_text.proofs.DeviceLemmas.{held_more}
use Rattle.gb_text.proofs.streams.write_all.Goals as goal

pub loop-done-preserved : goal.loop-done-preserved
loop-done-preserved g c =
    let text = c.args.text.now in
    let done = c.loop-done.done in
    record {
      within = omega (arith, c.in_ok-done.ensures.count, ap length (take_rest text done), length-drop done text);
      held = held_more text _ done c.in_ok-done.field-0 _ _ _ c.loop-done.invariant.held (take_rest text done) c.in_ok-done.ensures.bytes;
      kept = omega arith;
    }
