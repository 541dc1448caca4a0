use Rattle.std.proofs.Common.{◌≡◌, ◌+◌, ◌≤◌, ◌++◌, length, map, take}
use Rattle.std.specs.List.{flat_map}
use Rattle.gb_row_hash.specs.Hashes.{slot_hash}
use Rattle.gb_row_hash.proofs.column_hash.push_column.Given as goal

-- the hashes of the chunks so far
abbrev pub invariant-loop-chunk : goal.invariant-loop-chunk
invariant-loop-chunk g l = record {
  more : l.buf.items ≡ l.fn.buf.items ++ map (slot_hash g.V.Values.dtype (g.M.Mixer.seed_of l.mixer) (g.M.Mixer.mix_of l.mixer)) (flat_map (λ chunk. chunk) (take l.chunk-index l.earlier));
  room : l.fn.buf.len + length l.column.slots ≤ l.buf.cap;
}
