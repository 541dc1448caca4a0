use Rattle.std.proofs.Common.{◌∙◌}
use Rattle.gb_defs.specs.Slot.{slot_at}
use Rattle.gb_agg.proofs.ExtremeLemmas.{better_as, bytes_folds}
use Rattle.gb_agg.proofs.fold_order.ChunkedArrayByteValuesFoldOrder.is_better.Goals as goal

pub returns : goal.returns
returns g c =
    let column = c.args.self.now in
    let folds = bytes_folds g.K.ByteKind.flat column.dtype g.met.K.ByteKind.none_fit c.name.ensures.typed in
    c.compares_better.ensures ∙ better_as column.dtype column.dtype folds c.args.greatest (slot_at column.slots c.args.row) (slot_at column.slots c.args.other)
