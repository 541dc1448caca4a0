use Rattle.std.proofs.Common.{◌<◌, ◌∙◌, All, ap, ap₂, length, subst, sym, take}
use Rattle.gb_paths.specs.Leaders.{put_at, put_parts}
use Rattle.gb_paths.proofs.LeaderLemmas.{parts_more}
use Rattle.gb_paths.proofs.number_partitions.put_all.Goals as goal

pub put_leaders-requires-clause-inside : goal.put_leaders-requires-clause-inside
put_leaders-requires-clause-inside c κs within =
    let mine : All (λ row. row < length c.args.all.now) c.part-item.result.rows.items =
    subst (λ part. All (λ row. row < length c.args.all.now) part.rows.items) (sym c.part-item.is) (c.requires.inside c.loop-part.part-index c.part-item.result c.loop-part-test.true) in
    rw (c.deref.ensures.value, c.loop-part.auto.all) (mine κs within)

pub loop-part-preserved : goal.loop-part-preserved
loop-part-preserved c =
    let part = c.part-item.result in
    c.put_leaders.ensures
    ∙ ap₂ (λ rows leaders. put_at c.loop-part.all rows leaders) c.deref.ensures.value c.deref-in-loop-part.ensures.value
    ∙ ap (λ xs. put_at xs part.rows.items part.leaders.items) c.loop-part.invariant
    ∙ ap (λ p. put_at (put_parts c.args.all.now (take c.loop-part.part-index c.args.parts.now)) p.rows.items p.leaders.items) c.part-item.is
    ∙ parts_more (λ row. row) c.args.parts.now c.loop-part.part-index part c.args.all.now c.loop-part-test.true
