use Rattle.std.proofs.Common.{arith, get_or}
use Rattle.std.proofs.lemmas.List.{take_more, length-append}
use Rattle.std.proofs.lemmas.Slice.Zip.{all_zipped_more}
use Rattle.gb_groups.specs.Numbers.{IsRoomFor}
use Rattle.gb_groups.proofs.row_lists.empty_lists.Goals as goal

pub loop-count-preserved : goal.loop-count-preserved
loop-count-preserved c =
    let counts = c.args.counts.now in
    let n = c.loop-count.count-index in
    let made : IsRoomFor (get_or counts n 0) c.in_ok-with_capacity.field-0 = record { empty = c.in_ok-with_capacity.ensures.items; room = rw c.in_ok-with_capacity.ensures.capacity (omega arith) } in
    record {
      made = rw (take_more counts n 0 c.loop-count-test.true, c.push_reserved.ensures.items) (all_zipped_more IsRoomFor _ _ _ _ c.loop-count.invariant.made made);
      room = omega arith;
      so_far = rw (c.push_reserved.ensures.items, length-append) (omega arith);
    }
