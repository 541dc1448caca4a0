use Rattle.std.proofs.Common.{◌≡◌, ◌++◌, drop, map, take}
use Rattle.gb_defs.specs.Hash.{combine_of}
use Rattle.gb_row_hash.specs.Hashes.{combine_each, slot_hash}
use Rattle.gb_row_hash.proofs.column_hash.combine_chunk.Given as goal

-- with the hashes that are left the slots' hashes come to the same
abbrev pub invariant-loop-i : goal.invariant-loop-i
invariant-loop-i g l =
    let f = combine_of g.V.Values.dtype in
    let own = map (slot_hash g.V.Values.dtype (g.M.Mixer.seed_of l.mixer) (g.M.Mixer.mix_of l.mixer)) l.chunk in
    take l.i l.hashes ++ combine_each f (drop l.i own) (drop l.i l.hashes) ≡ combine_each f own l.fn.hashes
