use Rattle.std.proofs.Common.{◌∙◌, ap, sym, option_map}
use Rattle.gb_defs.specs.Groups.{lists_in}
use Rattle.gb_series.specs.Series.{value_of}
use Rattle.gb_agg.proofs.FoldingLemmas.{no_sums_told, sums_told}
use Rattle.gb_agg.proofs.aggregate.column_sums.Goals as goal

pub returns-in-Some-clause-fits : goal.returns-in-Some-clause-fits
returns-in-Some-clause-fits g c =
    let column = value_of c.args.column.now in
    let lists = lists_in (g.G.FoldGroups.grouping c.args.groups.now) in
    (sums_told column.name column lists (value_of c.in-Some.sums) (ap (option_map value_of) (sym c.in-Some.is) ∙ c.in_ok-sums.ensures.ok)).0

pub returns-in-Some-clause-ok : goal.returns-in-Some-clause-ok
returns-in-Some-clause-ok g c =
    let column = value_of c.args.column.now in
    let lists = lists_in (g.G.FoldGroups.grouping c.args.groups.now) in
    (sums_told column.name column lists (value_of c.in-Some.sums) (ap (option_map value_of) (sym c.in-Some.is) ∙ c.in_ok-sums.ensures.ok)).1

pub returns-in-None-clause-err : goal.returns-in-None-clause-err
returns-in-None-clause-err g c =
    let column = value_of c.args.column.now in
    let lists = lists_in (g.G.FoldGroups.grouping c.args.groups.now) in
    let none = no_sums_told column.name column lists (ap (option_map value_of) (sym c.in-None.is) ∙ c.in_ok-sums.ensures.ok) in
    rw none c.unfit.ensures
