use Rattle.std.proofs.Common.{◌≡◌, length, sym, ap, ◌∙◌, arith}
use Rattle.std.specs.List.{flat_map}
use Rattle.std.proofs.lemmas.List.{length-map, map-id}
use Rattle.std.proofs.lemmas.List.Concat.{length-flat_map}
use Rattle.std.proofs.lemmas.Iterator.Adapters.{YieldsList-from_vec}
use Rattle.std.proofs.lemmas.Iterator.Consumers.{YieldsList-so_far, YieldsList-turn, YieldsList-end}
use Rattle.gb_groups.proofs.PartLemmas.{joined_room}
use Rattle.gb_groups.proofs.items.join_parts.Goals as goal

pub push_items-requires-clause-first_room : goal.push_items-requires-clause-first_room
push_items-requires-clause-first_room c =
    let gives = c.into_iter-part-iterator.ensures.into_iter_gives in
    let road = YieldsList-from_vec c.args.parts.items gives.0 (gives.1 ∙ c.args.parts.ok.0) in
    let so_far = YieldsList-so_far road c.loop-part.yielded _ c.loop-part.yielded_by in
    let turn = YieldsList-turn road c.loop-part.yielded _ c.loop-part.yielded_by _ c.next.new.self c.in-Some.part c.in-Some.is c.next.ensures.steps in
    let room = joined_room (λ part. part.items) c.args.parts.items c.loop-part.yielded c.in-Some.part so_far turn.0 turn.1 in
    let counted = c.requires ∙ sym (length-flat_map (λ part. part.items) c.args.parts.items) in
    let long = ap length c.loop-part.invariant.joined.first_rows ∙ length-map (flat_map (λ part. part.items) c.loop-part.yielded) _ in
    omega (arith, room, counted, long)

pub push_items-requires-clause-all_room : goal.push_items-requires-clause-all_room
push_items-requires-clause-all_room c =
    let gives = c.into_iter-part-iterator.ensures.into_iter_gives in
    let road = YieldsList-from_vec c.args.parts.items gives.0 (gives.1 ∙ c.args.parts.ok.0) in
    let so_far = YieldsList-so_far road c.loop-part.yielded _ c.loop-part.yielded_by in
    let turn = YieldsList-turn road c.loop-part.yielded _ c.loop-part.yielded_by _ c.next.new.self c.in-Some.part c.in-Some.is c.next.ensures.steps in
    let room = joined_room (λ part. part.items) c.args.parts.items c.loop-part.yielded c.in-Some.part so_far turn.0 turn.1 in
    let counted = c.requires ∙ sym (length-flat_map (λ part. part.items) c.args.parts.items) in
    let long = ap length c.loop-part.invariant.joined.row_lists ∙ length-map (flat_map (λ part. part.items) c.loop-part.yielded) _ in
    omega (arith, room, counted, long)

pub returns-clause-ok : goal.returns-clause-ok
returns-clause-ok c =
    let gives = c.into_iter-part-iterator.ensures.into_iter_gives in
    let road = YieldsList-from_vec c.args.parts.items gives.0 (gives.1 ∙ c.args.parts.ok.0) in
    let end = YieldsList-end road c.loop-part.yielded _ c.loop-part.yielded_by _ c.next.new.self c.in-None.is c.next.ensures.steps in
    let all : c.loop-part.yielded ≡ c.args.parts.items = sym (map-id c.loop-part.yielded) ∙ end.0 in
    rw (← all) c.loop-part.invariant.joined
