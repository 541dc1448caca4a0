use Rattle.std.proofs.Common.{arith}
use Rattle.gb_paths.proofs.HashLemmas.{chunk_inside, hash_read, place_inside}
use Rattle.gb_paths.proofs.row_hashes.HashChunksRowHashes.hash_of.Goals as goal

pub index-requires : goal.index-requires
index-requires c =
    let inside = chunk_inside c.self.inside.chunks.items c.self.inside.count c.self.invariant c.args.self.now c.self.view_is c.args.row c.requires in
    omega (arith, inside)

pub index-requires-2 : goal.index-requires-2
index-requires-2 c =
    let chunk = c.index.result.now in
    let inside = place_inside c.self.inside.chunks.items c.self.inside.count c.self.invariant c.args.self.now c.self.view_is c.args.row c.requires chunk c.index.ensures in
    omega (arith, inside, chunk.ok.0)

pub returns : goal.returns
returns c = hash_read c.self.inside.chunks.items c.self.inside.count c.self.invariant c.args.self.now c.self.view_is c.args.row c.requires c.index.result.now c.index.ensures c.index-2.result.now c.index-2.ensures
