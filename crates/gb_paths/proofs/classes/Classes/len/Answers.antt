use Rattle.std.proofs.Common.{◌∙◌, ap, length, sym}
use Rattle.gb_defs.specs.Classes.{rows_below}
use Rattle.gb_paths.specs.Classes.{grouping_of}
use Rattle.gb_paths.proofs.MemberLemmas.{pairs_many}
use Rattle.gb_paths.proofs.classes.Classes.len.Goals as goal

pub returns-in-Numbers : goal.returns-in-Numbers
returns-in-Numbers c =
    let numbers = c.in-Numbers.numbers in
    let all = rows_below (length numbers.of_rows.items) in
    c.len-in-Numbers.ensures ∙ numbers.first.ok.0 ∙ sym (ap (λ classes. length (grouping_of classes).pairs) c.in-Numbers.is ∙ pairs_many all numbers.of_rows.items numbers.first.items)
