use Rattle.std.proofs.Common.{◌∙◌, ap, nat_lt}
use Rattle.gb_defs.specs.Slot.{is_nil}
use Rattle.gb_values.proofs.FlagLemmas.{some_counted}
use Rattle.gb_cols.proofs.series_trait.SeriesTrait.has_nulls.Goals as goal

pub returns : goal.returns
returns g c =
    let slots = (g.Self.SeriesTrait.value c.args.self.now).slots in ap (nat_lt 0) c.null_count.ensures ∙ some_counted is_nil slots
