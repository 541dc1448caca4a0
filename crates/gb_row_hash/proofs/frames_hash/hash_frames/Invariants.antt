use Rattle.std.proofs.Common.{◌≡◌, map, take}
use Rattle.gb_row_hash.specs.Rows.{hash_column}
use Rattle.gb_row_hash.proofs.frames_hash.hash_frames.Given as goal

-- the hashes of the frames so far
abbrev pub invariant-loop-frame : goal.invariant-loop-frame
invariant-loop-frame g l = l.columns.items ≡ map (hash_column (g.M.Mixer.seed_of l.mixer) (g.M.Mixer.mix_of l.mixer)) (take l.frame-index l.frames)
