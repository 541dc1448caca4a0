use Rattle.std.proofs.Common.{◌≡◌, ◌+◌, ◌<◌, ◌^◌, ◌∙◌, List, None, map, sym, ap, arith}
use Rattle.gb_defs.specs.Column.{frame_height}
use Rattle.gb_series.specs.Append.{append_fault, appended_frame}
use Rattle.gb_series.specs.Series.{value_of}
use Rattle.gb_series.specs.declared.series.Series.{Series}
use Rattle.gb_series.proofs.AppendLemmas.{append_small, can_append, either_small}
use Rattle.gb_series.proofs.frame.DataFrame.append_chunk.Goals as goal

pub append_all-requires : goal.append_all-requires
append_all-requires c =
    let frame = map value_of c.self.inside.columns.items in
    let others = map value_of c.other.inside.columns.items in
    let few : frame_height frame + frame_height others < 2 ^ 63 = omega (arith, c.requires, ap frame_height c.self.view_is, ap frame_height c.other.view_is) in
    let none : append_fault frame others ≡ None =
    ap (λ (xs : List Series). append_fault (map value_of xs) others) (sym c.deref.ensures.value)
    ∙ ap (λ (xs : List Series). append_fault (map value_of c.deref.result.now) (map value_of xs)) (sym c.deref-2.ensures.value) ∙ c.in_ok-refuse_unlike.ensures.ok in
    can_append frame others c.self.invariant c.other.invariant none few

pub invariant_of-self : goal.invariant_of-self
invariant_of-self c =
    let frame = map value_of c.self.inside.columns.items in
    let others = map value_of c.other.inside.columns.items in
    let few : frame_height frame + frame_height others < 2 ^ 63 = omega (arith, c.requires, ap frame_height c.self.view_is, ap frame_height c.other.view_is) in
    let none : append_fault frame others ≡ None =
    ap (λ (xs : List Series). append_fault (map value_of xs) others) (sym c.deref.ensures.value)
    ∙ ap (λ (xs : List Series). append_fault (map value_of c.deref.result.now) (map value_of xs)) (sym c.deref-2.ensures.value) ∙ c.in_ok-refuse_unlike.ensures.ok in
    either_small c.append_all.result (map value_of c.append_all.new.columns.items) (appended_frame frame others) frame c.append_all.ensures.ok c.append_all.ensures.unchanged
    (append_small frame others c.self.invariant c.other.invariant none few) c.self.invariant
