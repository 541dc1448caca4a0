use Rattle.std.proofs.Common.{◌∙◌, ap, arith, map, pos}
use Rattle.gb_defs.specs.Column.{fresh_column}
use Rattle.gb_defs.specs.ColumnType.{uint32}
use Rattle.gb_defs.specs.Slot.{Num}
use Rattle.gb_base.specs.PlSmallStr.{name_of}
use Rattle.gb_agg.proofs.NumberedLemmas.{counts_numbered}
use Rattle.gb_agg.proofs.numbered_counts.numbered_counts.Goals as goal

pub returns-clause-ok : goal.returns-clause-ok
returns-clause-ok c =
    let name = name_of c.args.name in
    let counts = counts_numbered c.args.numbers.now c.len.result c.deref.result.now c.deref.ensures.value (omega (arith, c.len.ensures)) in
    c.in_ok-made.ensures.ok ∙ ap (λ ns. fresh_column name uint32 (map (λ n. Num (pos n)) ns)) (c.deref-2.ensures.value ∙ c.in_ok-counts.ensures) ∙ ap (fresh_column name uint32) counts
