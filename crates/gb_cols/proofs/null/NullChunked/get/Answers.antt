use Rattle.std.proofs.Common.{◌∙◌, ap, length}
use Rattle.gb_defs.specs.Slot.{slot_at}
use Rattle.gb_cols.proofs.NullLemmas.{null_slot}
use Rattle.gb_cols.proofs.null.NullChunked.get.Goals as goal

pub returns-clause-null : goal.returns-clause-null
returns-clause-null c =
    let slots = c.args.self.now.slots in
    ap (λ ss. slot_at ss c.args._row) c.allocator.ensures.nulls ∙ null_slot (length slots) c.args._row c.requires
