use Rattle.std.proofs.Common.{◌∙◌, ap, length, map, sym}
use Rattle.gb_defs.specs.Classes.{rows_below}
use Rattle.gb_defs.specs.Groups.{first_of}
use Rattle.gb_paths.specs.Classes.{grouping_of}
use Rattle.gb_paths.proofs.NumberingLemmas.{pairs_firsts}
use Rattle.gb_paths.proofs.classes.Classes.take_firsts.Goals as goal

pub returns-in-Numbers-clause-ok : goal.returns-in-Numbers-clause-ok
returns-in-Numbers-clause-ok c =
    let numbers = c.in-Numbers.numbers in
    let all = rows_below (length numbers.of_rows.items) in
    sym (ap (λ classes. map first_of (grouping_of classes).pairs) c.in-Numbers.is ∙ pairs_firsts all numbers.of_rows.items numbers.first.items)
