use Rattle.std.proofs.Common.{arith, refl}
use Rattle.std.proofs.lemmas.List.FromFn.{map-range_with_len_more}
use Rattle.gb_runs.specs.Runs.{run_at}
use Rattle.gb_runs.proofs.RunLemmas.{start_up}
use Rattle.gb_runs.proofs.runs.runs_between.Goals as goal

pub overflow_sub-next : goal.overflow_sub-next
overflow_sub-next c =
    let starts = c.args.starts.now in
    let place = c.loop-place.place in
    let up = start_up c.args.count starts (record { below = c.requires.below; ascend = c.requires.ascend }) place c.loop-place-test.true in
    rw c.start_or-next.ensures up

pub loop-place-preserved : goal.loop-place-preserved
loop-place-preserved c =
    let starts = c.args.starts.now in
    let place = c.loop-place.place in
    record {
      so_far = rw (c.push_reserved.ensures.items, c.loop-place.invariant.so_far, c.start_or-next.ensures, map-range_with_len_more (run_at starts c.args.count) 0 place place (omega arith)) refl;
      each = omega (arith, c.push_reserved.ensures.len, c.loop-place.invariant.each);
      room = omega (arith, c.push_reserved.ensures.capacity, c.loop-place.invariant.room);
    }
