use Rattle.std.proofs.Common.{◌∙◌, ap, get_or, sym, map, take, ◌++◌, ◌∷◌, []}
use Rattle.std.proofs.lemmas.List.{map_more, take_all}
use Rattle.gb_defs.specs.Slot.{Slot, slot_at}
use Rattle.gb_cols.proofs.ChunkedLemmas.{fresh_alike}
use Rattle.gb_cols.proofs.chunked.ChunkedArraySeriesTrait.take.Goals as goal

pub loop-row-preserved : goal.loop-row-preserved
loop-row-preserved g c =
    let rows = c.args.rows.now in
    let at = c.loop-row.row-index in
    let pick = slot_at c.args.self.now.slots in
    let s = c.loop-row.invariant in
    record {
      taken = c.in_ok-push_from.ensures.ok ∙ ap (λ ss. ss ++ slot_at c.locate-place.result.0.now c.locate-place.result.1 ∷ []) s.taken
          ∙ ap (λ (s : Slot). map pick (take at rows) ++ s ∷ []) (c.locate-place.ensures.slot ∙ ap (λ ss. slot_at ss (get_or rows at 0)) s.near) ∙ sym (map_more pick rows at 0 c.loop-row-test.true);
      near = c.locate-place.ensures.same ∙ s.near;
    }

pub returns-clause-ok : goal.returns-clause-ok
returns-clause-ok g c =
    let whole = c.loop-row.invariant.taken ∙ ap (map (slot_at c.args.self.now.slots)) (take_all c.loop-row.row-index c.args.rows.now c.loop-row-test.false) in
    let names = c.in_ok-name.ensures.ok ∙ ap (λ v. v.name) c.self.view_is in
    let types = ap (λ v. v.dtype) c.self.view_is in
    c.from_chunk.ensures ∙ fresh_alike names types whole
