use Rattle.std.proofs.Common.{arith, ◌≡◌, length, ap, ◌∙◌, slice_index}
use Rattle.gb_table.proofs.TableLemmas.{first_place, next_place, taken_more, some_free}
use Rattle.gb_table.proofs.slots.free_spot.Goals as goal

pub loop-probe-init : goal.loop-probe-init
loop-probe-init c = record {
  place = first_place c.args.hash _ _ c.requires.power.is;
  taken = λ d lt. absurd (omega arith);
}

pub loop-probe-preserved : goal.loop-probe-preserved
loop-probe-preserved c = record {
  place = next_place _ c.args.hash _ _ _ c.requires.power.is c.loop-probe.invariant.place;
  taken = taken_more _ _ _ c.loop-probe.invariant.taken (λ free. c.if-slots-at-eq0.false (ap (slice_index c.args.slots.now) c.loop-probe.invariant.place ∙ free));
}

pub unreachable-requires : goal.unreachable-requires
unreachable-requires c =
    let all : c.loop-probe._probe ≡ length c.args.slots.now = omega arith in
    some_free c.args.slots.now c.args.hash c.requires.room (rw all at c.loop-probe.invariant.taken)
