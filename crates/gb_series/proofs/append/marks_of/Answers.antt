use Rattle.std.proofs.Common.{◌≡◌, ◌+◌, ◌++◌, ◌∷◌, [], ◌∙◌, List, map, take, ap, sym, subst}
use Rattle.std.proofs.lemmas.List.{map_more}
use Rattle.gb_defs.specs.Column.{Frame}
use Rattle.gb_series.specs.Append.{AreMarksOf}
use Rattle.gb_series.specs.Series.{value_of}
use Rattle.gb_series.specs.declared.append.Mark.{Mark}
use Rattle.gb_series.specs.declared.series.Series.{Series}
use Rattle.gb_series.proofs.AppendLemmas.{marks_more}
use Rattle.gb_series.proofs.append.marks_of.Goals as goal

pub loop-column-preserved : goal.loop-column-preserved
loop-column-preserved c =
    let columns = c.args.columns.now in
    let at = c.loop-column.column-index in
    let column = c.column-item.result in
    let front = map value_of (take at columns) in
    let more : map value_of (take (at + 1) columns) ≡ front ++ value_of column ∷ [] =
    map_more value_of columns at column c.loop-column-test.true ∙ ap (λ (s : Series). front ++ value_of s ∷ []) (sym c.column-item.is) in
    let are : AreMarksOf (front ++ value_of column ∷ []) (c.loop-column.marks.items ++ c.mark_of.result ∷ []) =
    marks_more front c.loop-column.marks.items (value_of column) c.mark_of.result c.loop-column.invariant c.mark_of.ensures in
    subst (λ (frame : Frame). AreMarksOf frame c.push.new.self.items) (sym more)
    (subst (λ (marks : List Mark). AreMarksOf (front ++ value_of column ∷ []) marks) (sym c.in_ok-push.ensures.items) are)
