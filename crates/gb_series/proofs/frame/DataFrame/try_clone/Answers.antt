use Rattle.std.proofs.Common.{◌≡◌, ◌∙◌, sym, ap, map, subst}
use Rattle.std.proofs.lemmas.List.{take_all}
use Rattle.gb_defs.specs.Column.{Frame}
use Rattle.gb_series.specs.Frame.{IsSmallFrame}
use Rattle.gb_series.specs.Series.{value_of}
use Rattle.gb_series.proofs.frame.DataFrame.try_clone.Goals as goal

pub invariant_of-result : goal.invariant_of-result
invariant_of-result c =
    let columns = c.self.inside.columns.items in
    let whole : map value_of c.loop-column.columns.items ≡ map value_of columns =
    c.loop-column.invariant ∙ ap (λ cs. map value_of cs) (take_all c.loop-column.column-index c.deref-column-items.result.now c.loop-column-test.false ∙ c.deref-column-items.ensures.value) in
    subst (λ (frame : Frame). IsSmallFrame frame) (sym whole) (c.self.invariant)
