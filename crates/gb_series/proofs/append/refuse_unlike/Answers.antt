use Rattle.std.proofs.Common.{◌∙◌, map, sym, arith}
use Rattle.std.proofs.lemmas.List.{length-map}
use Rattle.gb_series.specs.Series.{value_of}
use Rattle.gb_series.proofs.AppendLemmas.{named_long}
use Rattle.gb_series.proofs.append.refuse_unlike.Goals as goal

pub first_unlike-requires : goal.first_unlike-requires
first_unlike-requires c =
    let columns = c.args.columns.now in
    let others = c.args.others.now in
    let long = named_long (map value_of columns) (map value_of others) (sym c.are_named_alike.ensures ∙ c.if-not-are_named_alike.false) in
    omega (arith, long, length-map columns value_of, length-map others value_of)
