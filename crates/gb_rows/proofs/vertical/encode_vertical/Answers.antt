use Rattle.std.proofs.Common.{◌∙◌, map, ap, arith}
use Rattle.gb_defs.specs.Column.{frame_height}
use Rattle.gb_rows.specs.Lent.{keys_in, lent_cells, slot_of_cells, slots_by}
use Rattle.gb_rows.specs.Parts.{in_parts}
use Rattle.gb_rows.proofs.LentLemmas.{have_rows, slots_are}
use Rattle.gb_rows.proofs.PartLemmas.{parts_joined, parts_small}
use Rattle.gb_rows.proofs.ToldLemmas.{told_by_rows}
use Rattle.gb_rows.proofs.vertical.encode_vertical.Goals as goal

pub encode_shares-requires-clause-long : goal.encode_shares-requires-clause-long
encode_shares-requires-clause-long g c κs within =
    let cells = ap (map lent_cells) c.deref.ensures.value ∙ c.in_ok-keys.ensures.ok in
    have_rows (keys_in c.args.by.now) c.requires (map lent_cells c.deref.result.now) cells c.height_of-height.result c.height_of-height.ensures.value c.height_of-height.ensures.small

pub join_chunks-requires-clause-few : goal.join_chunks-requires-clause-few
join_chunks-requires-clause-few g c =
    let columns = map lent_cells c.deref.result.now in
    let all = parts_small (slot_of_cells c.args.nulls columns) c.height_of-height.result c.workers.result c.in_ok-chunks.chunks.items c.workers.ensures.some c.in_ok-chunks.ensures.len c.in_ok-chunks.ensures.each in
    omega (arith, all, c.height_of-height.ensures.small)

pub returns-clause-ok : goal.returns-clause-ok
returns-clause-ok g c =
    let keys = keys_in c.args.by.now in
    let columns = map lent_cells c.deref.result.now in
    let cells = ap (map lent_cells) c.deref.ensures.value ∙ c.in_ok-keys.ensures.ok in
    let height = c.height_of-height.result in
    let workers = c.workers.result in
    c.in_ok-rows.ensures.ok
    ∙ parts_joined (slot_of_cells c.args.nulls columns) height workers c.in_ok-chunks.chunks.items c.workers.ensures.some c.in_ok-chunks.ensures.len c.in_ok-chunks.ensures.each
    ∙ ap (in_parts workers height) (slots_are keys c.requires columns cells height c.height_of-height.ensures.value c.args.nulls)
    ∙ ap (λ n. in_parts workers n (slots_by c.args.nulls keys)) c.height_of-height.ensures.value
    ∙ ap (λ n. in_parts n (frame_height keys) (slots_by c.args.nulls keys)) c.workers.ensures.value

pub returns-clause-told : goal.returns-clause-told
returns-clause-told g c = told_by_rows (keys_in c.args.by.now) c.requires c.in_ok-keys.ensures.fits
