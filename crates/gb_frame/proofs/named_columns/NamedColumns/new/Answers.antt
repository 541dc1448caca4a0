use Rattle.std.proofs.Common.{◌≡◌, ◌-◌, ◌+◌, ◌∙◌, ◌∷◌, ◌<◌, ap, arith, drop, length, map, refl, subst, sym}
use Rattle.std.proofs.lemmas.List.{drop_more}
use Rattle.gb_frame.specs.NamedColumns.{AreStored}
use Rattle.gb_series.specs.Series.{value_of}
use Rattle.gb_frame.proofs.NamedColumnsLemmas.{stored_more}
use Rattle.gb_frame.proofs.named_columns.NamedColumns.new.Goals as goal

pub loop-left-preserved : goal.loop-left-preserved
loop-left-preserved c =
    let columns = c.args.columns.now in
    let at = c.loop-left.left - 1 in
    let column = c.index-columns-left.result in
    let inside = c.loop-left.invariant.inside in
    let below : at < length columns = omega (arith, inside, c.loop-left-test.true) in
    let next : at + 1 ≡ c.loop-left.left = omega (arith, c.loop-left-test.true) in
    let before = subst (λ n. AreStored (map value_of (drop n columns)) c.loop-left.stored) (sym next) c.loop-left.invariant.stored in
    let split = ap (map value_of) (drop_more columns at column below) ∙ ap (λ s. value_of s ∷ map value_of (drop (at + 1) columns)) (sym c.index-columns-left.is) in
    record {
      inside = omega (arith, inside);
      stored = subst (λ frame. AreStored frame c.insert.new.self) (sym split)
          (stored_more (map value_of (drop (at + 1) columns)) (value_of column) c.loop-left.stored c.insert.new.self _ _ (c.as_str.ensures ∙ c.name.ensures) refl
          (λ name. c.in-Ok.ensures.updates.0 (record { ref_ptr = (0, 0); now = name })) before);
    }
