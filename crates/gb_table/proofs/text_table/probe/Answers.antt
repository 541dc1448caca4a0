use Rattle.std.proofs.Common.{arith, ◌≡◌, ◌+◌, ◌-◌, ◌<◌, length, map, sym, ◌∙◌, slice_index}
use Rattle.std.proofs.lemmas.List.{length-map}
use Rattle.gb_table.specs.TextKey.{hash_of}
use Rattle.gb_table.proofs.TableLemmas.{first_place, next_place, place_in, held_here}
use Rattle.gb_table.proofs.SearchLemmas.{past_none, past_more, not_full}
use Rattle.gb_table.proofs.TextTableLemmas.{as_many, missing, stands, stands_not}
use Rattle.gb_table.proofs.text_table.probe.Goals as goal

pub loop-probe-init : goal.loop-probe-init
loop-probe-init c = record {
  place = rw c.hash.ensures (first_place (hash_of c.args.key) _ _ c.requires.table.size);
  past = past_none _ _ _;
}

pub stands_at-requires-clause-inside : goal.stands_at-requires-clause-inside
stands_at-requires-clause-inside c =
    let in_slots : c.loop-probe.at < length c.args.slots.now = place_in _ _ _ c.loop-probe.invariant.place (omega arith) in
    let few = c.requires.table.within c.loop-probe.at 0 in_slots in
    omega (arith, few, length-map c.args.keys.now hash_of, as_many c.args.keys.now c.args.texts.now c.args.key c.args.text.now c.requires.keyed)

pub returns-then-slot-eq0 : goal.returns-then-slot-eq0
returns-then-slot-eq0 c =
    let hash = hash_of c.args.key in
    let free = held_here c.args.slots.now c.loop-probe.at (hash + c.loop-probe._probe) 0 c.loop-probe.invariant.place c.if-slot-eq0.true in (
      record {
        distance = c.loop-probe._probe;
        probed = record { near = omega arith; taken = c.loop-probe.invariant.past.taken };
        place = c.loop-probe.invariant.place;
        free = c.if-slot-eq0.true;
      },
      missing c.args.keys.now c.args.texts.now c.args.key c.args.text.now c.requires.keyed c.args.slots.now c.loop-probe._probe c.requires.table c.loop-probe.invariant.past free,
    )

pub returns-then-stands_at : goal.returns-then-stands_at
returns-then-stands_at c =
    let slots = c.args.slots.now in
    let in_slots : c.loop-probe.at < length slots = place_in _ _ _ c.loop-probe.invariant.place (omega arith) in
    let few = c.requires.table.within c.loop-probe.at 0 in_slots in
    let number = slice_index slots c.loop-probe.at - 1 in
    let lt : number < length c.args.texts.now = omega (arith, few, length-map c.args.keys.now hash_of, as_many c.args.keys.now c.args.texts.now c.args.key c.args.text.now c.requires.keyed) in
    (lt, stands c.args.keys.now c.args.texts.now c.args.key c.args.text.now c.requires.keyed number (sym c.stands_at.ensures ∙ c.if-stands_at.true))

pub loop-probe-preserved : goal.loop-probe-preserved
loop-probe-preserved c =
    let slots = c.args.slots.now in
    let hash = hash_of c.args.key in
    let slot = slice_index slots c.loop-probe.at in
    let here = held_here slots c.loop-probe.at (hash + c.loop-probe._probe) (slot - 1 + 1) c.loop-probe.invariant.place (omega arith) in
    record {
      place = next_place _ hash _ _ _ c.requires.table.size c.loop-probe.invariant.place;
      past = past_more _ _ _ _ (slot - 1) c.loop-probe.invariant.past here
          (stands_not c.args.keys.now c.args.texts.now c.args.key c.args.text.now c.requires.keyed (slot - 1) (sym c.stands_at.ensures ∙ c.if-stands_at.false));
    }

pub unreachable-requires : goal.unreachable-requires
unreachable-requires c =
    let all : c.loop-probe._probe ≡ length c.args.slots.now = omega arith in
    not_full _ _ _ (map hash_of c.args.keys.now) c.requires.table (omega (arith, c.requires.room, length-map c.args.keys.now hash_of)) (rw all at c.loop-probe.invariant.past)
