use Rattle.std.proofs.Common.{◌∙◌, Option, ℕ, List, ap, length, map, pos, refl}
use Rattle.gb_defs.specs.Column.{fresh_column}
use Rattle.gb_defs.specs.ColumnType.{uint32}
use Rattle.gb_values.specs.Array.{native_slot}
use Rattle.gb_base.specs.PlSmallStr.{name_of}
use Rattle.gb_agg.proofs.NumberedLemmas.{valid_numbered}
use Rattle.gb_agg.proofs.numbered_counts.numbered_valid.Goals as goal

pub returns-clause-ok : goal.returns-clause-ok
returns-clause-ok g c =
    let name = name_of c.args.name in
    let column = g.C.SeriesTrait.value c.args.column.now in
    let numbers = c.args.numbers.now in
    let all = numbers.of_rows.items in
    c.in_ok-made.ensures.ok ∙ ap (λ (ns : List (Option ℕ)). fresh_column name uint32 (map (native_slot (λ n. pos n)) ns)) c.deref.ensures.value
    ∙ ap (fresh_column name uint32) (valid_numbered column.dtype column.slots numbers (length all) (length numbers.first.items) all c.in_ok-counts.counts.items refl refl refl c.in_ok-counts.ensures)
