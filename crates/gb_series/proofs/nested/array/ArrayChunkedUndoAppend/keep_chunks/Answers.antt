use Rattle.gb_series.proofs.ArrayLemmas.{array_undone}
use Rattle.gb_series.proofs.nested.array.ArrayChunkedUndoAppend.keep_chunks.Goals as goal

pub invariant_of-self : goal.invariant_of-self
invariant_of-self c = array_undone c.self.inside.width c.self.inside.lists c.args.count _ c.self.invariant c.keep_chunks.ensures
