use Rattle.gb_paths.proofs.HashLemmas.{chunks_long}
use Rattle.gb_paths.proofs.row_hashes.HashChunks.len.Goals as goal

pub returns : goal.returns
returns c = chunks_long c.self.inside.chunks.items c.self.inside.count c.self.invariant c.args.self.now c.self.view_is
