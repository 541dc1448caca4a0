use Rattle.std.proofs.Common.{◌≡◌, ◌+◌, ◌-◌, ◌≤◌, ◌++◌, length, map, take}
use Rattle.gb_row_hash.specs.Hashes.{slot_hash}
use Rattle.gb_row_hash.proofs.column_hash.push_hashes.Given as goal

-- the hashes of the slots so far
abbrev pub invariant-loop-i : goal.invariant-loop-i
invariant-loop-i g l = record {
  more : l.buf.items ≡ l.fn.buf.items ++ map (slot_hash g.V.Values.dtype (g.M.Mixer.seed_of l.mixer) (g.M.Mixer.mix_of l.mixer)) (take l.i l.chunk);
  room : l.buf.len + (length l.chunk - l.i) ≤ l.buf.cap;
  same : l.buf.cap ≡ l.fn.buf.cap;
}
