use Rattle.gb_values.specs.SlotOrder.{last_slot}
use Rattle.gb_values.proofs.SlotOrderLemmas.{last_chunk}
use Rattle.gb_cols.proofs.chunked.later_chunk.Goals as goal

pub returns-then-len-gt0-clause-slot : goal.returns-then-len-gt0-clause-slot
returns-then-len-gt0-clause-slot g c = last_chunk (last_slot c.args.before) c.args.chunk.now (rw (← c.len.ensures.value) c.if-len-gt0.true)
