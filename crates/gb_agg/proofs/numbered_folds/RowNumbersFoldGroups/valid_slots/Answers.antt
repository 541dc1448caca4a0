use Rattle.std.proofs.Common.{◌∙◌, Option, List, ℕ, ap, arith, length, map, pos}
use Rattle.std.proofs.lemmas.List.FromFn.{length-range_with_len}
use Rattle.gb_defs.specs.Column.{fresh_column}
use Rattle.gb_defs.specs.ColumnType.{uint32}
use Rattle.gb_base.specs.PlSmallStr.{name_of}
use Rattle.gb_values.specs.Array.{native_slot}
use Rattle.gb_agg.proofs.NumberedLemmas.{rows_inside, valid_numbered}
use Rattle.gb_agg.proofs.numbered_folds.RowNumbersFoldGroups.valid_slots.Goals as goal

pub fold_numbered-requires-clause-inside : goal.fold_numbered-requires-clause-inside
fold_numbered-requires-clause-inside g c =
    rows_inside c.new-rows.result.count (length c.args.column.now.slots) (omega (arith, c.new-rows.ensures, c.requires.suits))

pub fold_numbered-requires-clause-each : goal.fold_numbered-requires-clause-each
fold_numbered-requires-clause-each g c =
    let long = length-range_with_len 0 c.new-rows.result.count in
    let given = ap length c.deref.ensures.value in
    omega (arith, long, given, c.new-rows.ensures)

pub returns-clause-ok : goal.returns-clause-ok
returns-clause-ok g c =
    let name = name_of c.args.name in
    let column = c.args.column.now in
    let counts = valid_numbered column.dtype column.slots c.args.self.now c.new-rows.result.count c.len-groups.result c.deref.result.now c.in_ok-counts.counts.items (omega (arith, c.new-rows.ensures)) c.deref.ensures.value (omega (arith, c.len-groups.ensures)) c.in_ok-counts.ensures in
    c.in_ok-made.ensures.ok ∙ ap (λ (ns : List (Option ℕ)). fresh_column name uint32 (map (native_slot (λ n. pos n)) ns)) c.deref-2.ensures.value ∙ ap (fresh_column name uint32) counts
