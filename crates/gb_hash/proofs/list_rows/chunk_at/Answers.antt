use Rattle.std.proofs.Common.{rules}
use Rattle.gb_hash.proofs.ChunkLemmas.{found_chunk}
use Rattle.gb_hash.proofs.list_rows.chunk_at.Goals as goal

pub returns : goal.returns
returns c = found_chunk c.args.ends.now c.args.i _ c.requires.rising c.requires.inside c.partition_point.ensures.bound c.partition_point.ensures.partitioned (λ a r q k. search rules)
