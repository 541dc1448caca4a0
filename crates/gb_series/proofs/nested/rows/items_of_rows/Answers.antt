use Rattle.std.proofs.Common.{◌∙◌, ◌++◌, ◌∷◌, [], ◌-◌, ap, get_or}
use Rattle.std.specs.List.{range_with_len}
use Rattle.gb_series.proofs.PieceLemmas.{items_more}
use Rattle.gb_series.proofs.nested.rows.items_of_rows.Goals as goal

pub loop-row-preserved : goal.loop-row-preserved
loop-row-preserved c =
    let ends = c.args.ends.now in
    let rows = c.args.rows.now in
    let at = c.loop-row.row-index in
    let end = get_or ends (get_or rows at 0) 0 in
    let places = c.loop-row.places.items in
    let found = c.loop-row.found.items in
    let more = c.in_ok-push_places.ensures.ok ∙ ap (λ start. places ++ range_with_len start (end - start)) c.start_at.ensures in
    let last = c.in_ok-push.ensures.items ∙ ap (λ n. found ++ n ∷ []) (c.len.ensures ∙ c.push_places.new.places.ok.0) in
    items_more ends rows at found c.push.new.self.items places c.push_places.new.places.items c.loop-row-test.true c.loop-row.invariant more last
