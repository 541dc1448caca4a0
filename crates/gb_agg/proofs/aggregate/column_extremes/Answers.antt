use Rattle.std.proofs.Common.{◌∙◌, ap, sym, option_map}
use Rattle.gb_defs.specs.Groups.{lists_in}
use Rattle.gb_series.specs.Series.{value_of}
use Rattle.gb_agg.proofs.FoldingLemmas.{extremes_fit, extremes_told}
use Rattle.gb_agg.proofs.aggregate.column_extremes.Goals as goal

pub returns-in-Some-clause-fits : goal.returns-in-Some-clause-fits
returns-in-Some-clause-fits g c =
    let column = value_of c.args.column.now in
    let lists = lists_in (g.G.FoldGroups.grouping c.args.groups.now) in
    extremes_fit c.args.greatest column lists (extremes_told c.args.greatest column lists (value_of c.in-Some.found) (ap (option_map value_of) (sym c.in-Some.is) ∙ c.in_ok-found.ensures.ok)).0

pub returns-in-Some-clause-ok : goal.returns-in-Some-clause-ok
returns-in-Some-clause-ok g c =
    let column = value_of c.args.column.now in
    let lists = lists_in (g.G.FoldGroups.grouping c.args.groups.now) in
    (extremes_told c.args.greatest column lists (value_of c.in-Some.found) (ap (option_map value_of) (sym c.in-Some.is) ∙ c.in_ok-found.ensures.ok)).1
