use Rattle.std.proofs.Common.{◌≡◌, ◌∙◌, sym, ap, map, subst}
use Rattle.std.proofs.lemmas.List.{take_all}
use Rattle.gb_defs.specs.Column.{Frame}
use Rattle.gb_series.specs.Frame.{IsSmallFrame}
use Rattle.gb_series.specs.Series.{part_at, value_of}
use Rattle.gb_series.proofs.FrameLemmas.{part_small}
use Rattle.gb_series.proofs.frame.DataFrame.part.Goals as goal

pub invariant_of-result : goal.invariant_of-result
invariant_of-result c =
    let columns = c.self.inside.columns.items in
    let whole : map value_of c.loop-column.columns.items ≡ map (part_at c.args.start c.args.len) (map value_of columns) =
    c.loop-column.invariant ∙ ap (λ cs. map (part_at c.args.start c.args.len) (map value_of cs)) (take_all c.loop-column.column-index c.deref-column-items.result.now c.loop-column-test.false ∙ c.deref-column-items.ensures.value) in
    subst (λ (frame : Frame). IsSmallFrame frame) (sym whole) (part_small c.args.start c.args.len (map value_of columns) c.self.invariant)
