use Rattle.std.proofs.Common.{◌≡◌, ◌+◌, ◌∙◌, sym, ap, map, drop, true}
use Rattle.std.specs.Str.{bytes_eq}
use Rattle.gb_defs.specs.Column.{find_column}
use Rattle.gb_series.specs.Series.{value_of}
use Rattle.gb_series.proofs.FrameLemmas.{find_here, stored_at, stored_more}
use Rattle.gb_series.proofs.frame.position_of.Goals as goal

pub returns-then-eq-clause-some : goal.returns-then-eq-clause-some
returns-then-eq-clause-some c =
    let columns = c.args.columns.now in
    let column = c.index-columns-place.result in
    let at = c.loop-place.place in
    let same : bytes_eq (value_of column).name c.args.name.now ≡ true = ap (λ bs. bytes_eq bs c.args.name.now) (sym (c.as_str.ensures ∙ c.name.ensures)) ∙ sym c.eq.ensures ∙ c.if-eq.true in
    stored_at value_of columns at column c.loop-place-test.true c.index-columns-place.is
    ∙ sym (find_here (value_of column) (map value_of (drop (at + 1) columns)) c.args.name.now same)
    ∙ ap (λ cs. find_column cs c.args.name.now) (sym (stored_more value_of columns at column c.loop-place-test.true c.index-columns-place.is))
    ∙ sym c.loop-place.invariant
