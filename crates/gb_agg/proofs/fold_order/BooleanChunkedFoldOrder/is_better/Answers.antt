use Rattle.std.proofs.Common.{◌∙◌, refl}
use Rattle.gb_defs.specs.ColumnType.{Boolean}
use Rattle.gb_defs.specs.Slot.{slot_at}
use Rattle.gb_agg.proofs.ExtremeLemmas.{better_as, flat_folds}
use Rattle.gb_agg.proofs.fold_order.BooleanChunkedFoldOrder.is_better.Goals as goal

pub returns : goal.returns
returns c =
    let column = c.args.self.now in
    let folds = flat_folds Boolean (λ a b. refl) column.dtype c.name.ensures.typed in
    c.compares_better.ensures ∙ better_as column.dtype column.dtype folds c.args.greatest (slot_at column.slots c.args.row) (slot_at column.slots c.args.other)
