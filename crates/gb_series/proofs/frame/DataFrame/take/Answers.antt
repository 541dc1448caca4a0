use Rattle.std.proofs.Common.{◌≡◌, ◌<◌, ◌^◌, ◌∙◌, sym, ap, map, length, get_or, arith, rules, subst, length}
use Rattle.std.proofs.lemmas.List.{get_or-map, length-map, take_all}
use Rattle.gb_defs.specs.Column.{Frame, frame_height}
use Rattle.gb_series.specs.Frame.{IsSmallFrame}
use Rattle.gb_series.specs.Series.{value_of}
use Rattle.gb_defs.specs.Column.{taken}
use Rattle.gb_series.proofs.FrameLemmas.{long_at, taken_height, taken_is}
use Rattle.gb_series.proofs.frame.DataFrame.take.Goals as goal

pub take-requires : goal.take-requires
take-requires c k d lt =
    let columns = c.self.inside.columns.items in
    let at = c.loop-column.column-index in
    let read : c.column-item.result ≡ get_or columns at c.column-item.result = c.column-item.is ∙ ap (λ cs. get_or cs at c.column-item.result) c.deref-column-items.ensures.value in
    let within : at < length columns = omega (arith, c.loop-column-test.true, ap length c.deref-column-items.ensures.value) in
    let long : length (value_of c.column-item.result).slots ≡ frame_height (map value_of columns) =
    ap (λ s. length (value_of s).slots) read
    ∙ ap (λ v. length v.slots) (sym (get_or-map value_of columns at c.column-item.result (value_of c.column-item.result) within))
    ∙ long_at (frame_height (map value_of columns)) (map value_of columns) at (value_of c.column-item.result) c.self.invariant.is_frame.aligned (omega (arith, within, length-map columns value_of)) in
    omega (arith, long, ap frame_height c.self.view_is, c.requires k d lt)

pub invariant_of-result : goal.invariant_of-result
invariant_of-result c =
    let rows = c.args.rows.now in
    let columns = c.self.inside.columns.items in
    let few : length rows < 2 ^ 63 = search rules in
    let whole : map value_of c.loop-column.columns.items ≡ map (taken rows) (map value_of columns) =
    c.loop-column.invariant ∙ ap (λ cs. map (taken rows) (map value_of cs)) (take_all c.loop-column.column-index c.deref-column-items.result.now c.loop-column-test.false ∙ c.deref-column-items.ensures.value) in
    subst (λ (frame : Frame). IsSmallFrame frame) (sym whole)
    (record { is_frame = taken_is rows (map value_of columns) c.self.invariant.is_frame; small = taken_height rows (map value_of columns) (2 ^ 63) few (omega arith) })
