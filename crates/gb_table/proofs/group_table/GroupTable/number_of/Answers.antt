use Rattle.std.proofs.Common.{arith, inl, inr}
use Rattle.std.proofs.lemmas.List.{length-map, map-append}
use Rattle.gb_table.specs.Entry.{hashes_of}
use Rattle.gb_table.proofs.TableLemmas.{roomy_put}
use Rattle.gb_table.proofs.EntryLemmas.{entries_alike, known_pair, added_pair}
use Rattle.gb_table.proofs.group_table.GroupTable.number_of.Goals as goal

pub probe-requires-clause-alike : goal.probe-requires-clause-alike
probe-requires-clause-alike g c = rw c.deref-3.ensures.value (entries_alike g.K.PartialEq.eq c.args.key c.args.hash _ _ c.self.view_is c.requires.alike)

pub invariant_of-self-in-Free : goal.invariant_of-self-in-Free
invariant_of-self-in-Free g c =
    let entries = c.self.inside.entries.items in
    let spot = rw (c.deref-2.ensures.value, c.deref-3.ensures.value) at c.in-Free.ensures in
    let roomy = rw c.deref.ensures.value at c.in_ok-make_room.ensures.roomy in
    let room = rw c.deref.ensures.value at c.in_ok-make_room.ensures.room in
    let many = length-map entries (λ e. e.hash) in
    rw (c.in_ok-push-in-Free.ensures.items, map-append (λ e. e.hash) entries _)
    (roomy_put c.make_room.new.slots.items (hashes_of entries) c.args.hash c.in-Free.at c.len-number.result roomy (omega (arith, room, many)) spot.0 (omega (arith, many, c.len-number.ensures)))

pub returns-in-Known-clause-found : goal.returns-in-Known-clause-found
returns-in-Known-clause-found g c =
    let spot = rw c.deref-3.ensures.value at c.in-Known.ensures in
    inl (known_pair g.K.PartialEq.eq c.args.key c.args.hash _ _ c.self.view_is _ spot.0 spot.1)

pub returns-in_ok-push-in-Free-clause-found : goal.returns-in_ok-push-in-Free-clause-found
returns-in_ok-push-in-Free-clause-found g c =
    let spot = rw (c.deref-2.ensures.value, c.deref-3.ensures.value) at c.in-Free.ensures in
    inr (added_pair g.K.PartialEq.eq c.args.key c.args.hash _ _ c.self.view_is _ _ (omega (arith, c.len-number.ensures)) c.in_ok-push-in-Free.ensures.items spot.1)
