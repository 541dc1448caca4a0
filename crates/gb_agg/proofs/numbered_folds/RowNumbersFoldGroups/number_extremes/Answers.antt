use Rattle.std.proofs.Common.{◌∙◌, ap, arith, length, map, sym}
use Rattle.std.proofs.lemmas.List.FromFn.{length-range_with_len}
use Rattle.gb_defs.specs.Column.{fresh_column}
use Rattle.gb_defs.specs.ColumnType.{Flat}
use Rattle.gb_defs.specs.Fold.{fold_of}
use Rattle.gb_defs.specs.Groups.{lists_in}
use Rattle.gb_base.specs.PlSmallStr.{name_of}
use Rattle.gb_paths.specs.Numbering.{numbered}
use Rattle.gb_values.specs.Array.{native_slot}
use Rattle.gb_agg.specs.Folds.{extreme}
use Rattle.gb_agg.proofs.NumberedLemmas.{extremes_numbered, rows_inside}
use Rattle.gb_agg.proofs.numbered_folds.RowNumbersFoldGroups.number_extremes.Goals as goal

pub fold_numbered-requires-clause-inside : goal.fold_numbered-requires-clause-inside
fold_numbered-requires-clause-inside g c =
    rows_inside c.new-rows.result.count (length c.args.column.now.slots) (omega (arith, c.new-rows.ensures, c.requires))

pub fold_numbered-requires-clause-each : goal.fold_numbered-requires-clause-each
fold_numbered-requires-clause-each g c =
    let long = length-range_with_len 0 c.new-rows.result.count in
    let given = ap length c.deref.ensures.value in
    omega (arith, long, given, c.new-rows.ensures)

pub returns-clause-ok : goal.returns-clause-ok
returns-clause-ok g c =
    let number = g.T.Native.Native.number in
    let t = Flat g.T.Native.Native.flat in
    let name = name_of c.args.name in
    let slots = c.args.column.now.slots in
    let numbers = c.args.self.now in
    let best = extremes_numbered (native_slot number) c.args.greatest t slots numbers c.new-rows.result.count c.len-groups.result c.deref.result.now c.in_ok-best.best.items (omega (arith, c.new-rows.ensures)) c.deref.ensures.value (omega (arith, c.len-groups.ensures)) c.in_ok-best.ensures in
    c.in_ok-made.ensures.ok ∙ ap (λ ss. fresh_column name t (map (native_slot number) ss)) c.deref-2.ensures.value ∙ ap (fresh_column name t) best
    ∙ ap (λ d. fresh_column name t (map (fold_of (extreme c.args.greatest) d slots) (lists_in (numbered numbers)))) (sym c.allocator-alloc.ensures.typed)
