use Rattle.std.proofs.Common.{arith, ap, length, ◌<◌, ◌+◌, ◌∙◌}
use Rattle.std.proofs.lemmas.Grind.{drop_more_same}
use Rattle.std.proofs.lemmas.List.{drop-set-lt, length-append}
use Rattle.gb_groups.proofs.ItemLemmas.{left_at, taken_more, taken_all}
use Rattle.gb_groups.proofs.items.take_items.Goals as goal

pub loop-place-preserved : goal.loop-place-preserved
loop-place-preserved c =
    let now = c.loop-place.rows-items in
    let same = left_at now c.args.all.now.items c.loop-place.place c.rows-item.result c.loop-place.invariant.left in
    let here : c.loop-place.place < length c.args.all.now.items = omega arith in
    record {
      taken = rw c.push_reserved.ensures.items (taken_more c.args.first.now.items c.args.all.now.items c.requires _ c.loop-place.place _ _ c.rows-item.result here c.loop-place.invariant.taken c.index.ensures (c.replace.ensures.value ∙ same));
      left = rw (drop-set-lt (c.loop-place.place + 1) now c.loop-place.place c.replace.new.dest (omega arith)) (drop_more_same now c.args.all.now.items c.loop-place.place c.loop-place.invariant.left);
      so_far = rw c.push_reserved.ensures.items (length-append c.loop-place.items.items _ ∙ ap (λ n. n + 1) c.loop-place.invariant.so_far);
      room = omega arith;
    }

pub returns-clause-ok : goal.returns-clause-ok
returns-clause-ok c = c.loop-place.invariant.taken ∙ taken_all c.args.first.now.items c.args.all.now.items c.requires c.loop-place.place (omega arith)
