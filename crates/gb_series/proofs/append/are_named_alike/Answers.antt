use Rattle.std.proofs.Common.{map, arith}
use Rattle.std.proofs.lemmas.List.{length-map}
use Rattle.gb_series.specs.Series.{value_of}
use Rattle.gb_series.proofs.AppendLemmas.{other_long}
use Rattle.gb_series.proofs.append.are_named_alike.Goals as goal

pub returns-then-columns-others : goal.returns-then-columns-others
returns-then-columns-others c =
    let columns = c.args.columns.now in
    let others = c.args.others.now in
    other_long (map value_of columns) (map value_of others) (λ e. absurd (omega (arith, c.if-columns-others.true, e, length-map columns value_of, length-map others value_of)))
