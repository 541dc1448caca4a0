use Rattle.std.proofs.Common.{rules, ◌≡◌, ◌∙◌, ◌+◌, ◌<◌, ◌≤◌, length, ap, arith}
use Rattle.std.proofs.lemmas.Grind.{drop_more_same}
use Rattle.std.proofs.lemmas.List.{drop-set-lt}
use Rattle.std.proofs.lemmas.List.Sums.{sum_by_more, sum_by_more_le}
use Rattle.gb_groups.proofs.ItemLemmas.{left_at}
use Rattle.gb_groups.proofs.PartLemmas.{written_more}
use Rattle.gb_groups.proofs.items.move_parts.Goals as goal

pub slice_bounds-move_items-end : goal.slice_bounds-move_items-end
slice_bounds-move_items-end c =
    let old = c.args.parts.now in
    let i = c.loop-part.part-index in
    let here : i < length old = omega arith in
    let part = c.replace-items.ensures.value ∙ left_at c.loop-part.parts old i c.part-item.result c.loop-part.invariant.left in
    let long = ap (λ part. length part.items) part in
    let fits = sum_by_more_le (λ part. length part.items) old i c.part-item.result here in
    let within : c.loop-part.at + c.len.result ≤ length c.loop-part.first = omega arith in
    search rules

pub loop-part-preserved : goal.loop-part-preserved
loop-part-preserved c =
    let old = c.args.parts.now in
    let i = c.loop-part.part-index in
    let here : i < length old = omega arith in
    let part = c.replace-items.ensures.value ∙ left_at c.loop-part.parts old i c.part-item.result c.loop-part.invariant.left in
    let long = ap (λ part. length part.items) part in
    let fits = sum_by_more_le (λ part. length part.items) old i c.part-item.result here in
    let more = sum_by_more (λ part. length part.items) old i c.part-item.result here in
    let count : c.len.result ≡ length c.replace-items.result.items = omega arith in
    record {
      place = omega arith;
      left = rw (drop-set-lt (i + 1) c.loop-part.parts i c.replace-items.new.dest (omega arith)) (drop_more_same c.loop-part.parts old i c.loop-part.invariant.left);
      moved = record {
        first_rows = written_more (λ part. part.items) (λ item. item.0) old i c.replace-items.result c.part-item.result c.loop-part.first c.move_items.new.first c.loop-part.at _ c.len.result here part (omega arith) count c.loop-part.invariant.moved.first_rows c.move_items.ensures.first_rows;
        row_lists = written_more (λ part. part.items) (λ item. item.1) old i c.replace-items.result c.part-item.result c.loop-part.all c.move_items.new.all c.loop-part.at _ c.len.result here part (omega arith) count c.loop-part.invariant.moved.row_lists c.move_items.ensures.row_lists;
      };
    }
