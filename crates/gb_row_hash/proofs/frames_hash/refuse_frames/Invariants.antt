use Rattle.std.proofs.Common.{◌≡◌, drop}
use Rattle.gb_row_hash.specs.Rows.{first_frame_fault}
use Rattle.gb_row_hash.proofs.frames_hash.refuse_frames.Given as goal

-- the first frame with a column without hashes is among those that are left
abbrev pub invariant-loop-frame : goal.invariant-loop-frame
invariant-loop-frame l = first_frame_fault l.frames ≡ first_frame_fault (drop l.frame-index l.frames)
