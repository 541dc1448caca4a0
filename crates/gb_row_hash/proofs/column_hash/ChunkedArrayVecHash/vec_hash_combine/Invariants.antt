use Rattle.std.proofs.Common.{◌≡◌, length, map, take}
use Rattle.std.specs.List.{flat_map}
use Rattle.gb_defs.specs.Hash.{combine_of}
use Rattle.gb_row_hash.specs.Hashes.{combine_each, slot_hash}
use Rattle.gb_row_hash.proofs.column_hash.ChunkedArrayVecHash.vec_hash_combine.Given as goal

-- the hashes of the chunks so far are put to the first hashes
abbrev pub invariant-loop-chunk : goal.invariant-loop-chunk
invariant-loop-chunk g l =
    let front = flat_map (λ chunk. chunk) (take l.chunk-index l.earlier) in
    record {
      more : l.hashes ≡ combine_each (combine_of g.V.Values.dtype) (map (slot_hash g.V.Values.dtype (g.M.Mixer.seed_of l.mixer) (g.M.Mixer.mix_of l.mixer)) front) l.fn.hashes;
      start : l.start ≡ length front;
    }
