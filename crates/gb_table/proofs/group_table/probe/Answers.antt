use Rattle.std.proofs.Common.{arith, ◌≡◌, ◌+◌, ◌-◌, ◌<◌, ◌≤◌, length, ap, sym, ◌∙◌, slice_index}
use Rattle.std.proofs.lemmas.List.{length-map}
use Rattle.gb_table.specs.Entry.{hashes_of}
use Rattle.gb_table.proofs.TableLemmas.{first_place, next_place, place_in, held_here}
use Rattle.std.proofs.lemmas.Bool.{true≢false}
use Rattle.gb_table.proofs.EntryLemmas.{key_absent, read_entry}
use Rattle.gb_table.proofs.SearchLemmas.{not_full, past_more, past_none}
use Rattle.gb_table.proofs.group_table.probe.Goals as goal
use Rattle.gb_table.proofs.group_table.probe.Goals.{else-entry-hash-via-then-entry-hash+else-eq, else-entry-hash-via-else-entry-hash}

pub loop-probe-init : goal.loop-probe-init
loop-probe-init g c = record { place = first_place c.args.hash _ _ c.requires.table.size; past = past_none _ _ _ }

pub returns-then-slot-eq0 : goal.returns-then-slot-eq0
returns-then-slot-eq0 g c =
    let free = held_here c.args.slots.now c.loop-probe.at (c.args.hash + c.loop-probe._probe) 0 c.loop-probe.invariant.place c.if-slot-eq0.true in (
      record {
        distance = c.loop-probe._probe;
        probed = record { near = omega arith; taken = c.loop-probe.invariant.past.taken };
        place = c.loop-probe.invariant.place;
        free = c.if-slot-eq0.true;
      },
      key_absent g.K.PartialEq.eq c.args.slots.now c.args.entries.now c.args.hash c.args.key _ c.requires.table c.requires.alike c.loop-probe.invariant.past free,
    )

pub loop-probe-preserved : goal.loop-probe-preserved
loop-probe-preserved g c =
    let slots = c.args.slots.now in
    let entries = c.args.entries.now in
    let slot = slice_index slots c.loop-probe.at in
    let here = held_here slots c.loop-probe.at (c.args.hash + c.loop-probe._probe) (slot - 1 + 1) c.loop-probe.invariant.place (omega arith) in
    let inside : c.loop-probe.at < length slots = place_in _ _ _ c.loop-probe.invariant.place (omega arith) in
    let few : slot ≤ length (hashes_of entries) = c.requires.table.within c.loop-probe.at 0 inside in
    let in_entries : slot - 1 < length entries = omega (arith, few, length-map entries (λ e. e.hash)) in
    record {
      place = next_place _ c.args.hash _ _ _ c.requires.table.size c.loop-probe.invariant.place;
      past = past_more _ _ _ _ (slot - 1) c.loop-probe.invariant.past here (λ that.
          let entry = c.index-entries-slot.result in
          let same = that entry in
          let read = read_entry entries (slot - 1) entry entry in_entries c.index-entries-slot.is in
          elim c.else-entry-hash.branch [
            | else-entry-hash-via-then-entry-hash+else-eq w ↦ true≢false (sym same ∙ rw (read, ← w.eq.ensures) w.if-eq.false)
            | else-entry-hash-via-else-entry-hash w ↦ w.if-entry-hash.false (sym (ap (λ x. x.hash) read) ∙ c.requires.alike (slot - 1) entry in_entries same)
          ]);
    }

pub unreachable-requires : goal.unreachable-requires
unreachable-requires g c =
    let all : c.loop-probe._probe ≡ length c.args.slots.now = omega arith in
    not_full _ _ _ (hashes_of c.args.entries.now) c.requires.table (omega (arith, c.requires.room, length-map c.args.entries.now (λ e. e.hash))) (rw all at c.loop-probe.invariant.past)
