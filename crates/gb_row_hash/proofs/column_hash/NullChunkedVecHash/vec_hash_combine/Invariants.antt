use Rattle.std.proofs.Common.{◌≡◌, ◌++◌, drop, length, replicate, take}
use Rattle.gb_defs.specs.Hash.{boost_combine}
use Rattle.gb_row_hash.specs.Hashes.{combine_each}
use Rattle.gb_row_hash.proofs.column_hash.NullChunkedVecHash.vec_hash_combine.Given as goal

-- with the hashes that are left the hashes of nulls come to the same
abbrev pub invariant-loop-hash : goal.invariant-loop-hash
invariant-loop-hash g l =
    let own = replicate (length l.fn.hashes) l.null in
    take l.hash-index l.hashes ++ combine_each boost_combine (drop l.hash-index own) (drop l.hash-index l.hashes) ≡ combine_each boost_combine own l.fn.hashes
