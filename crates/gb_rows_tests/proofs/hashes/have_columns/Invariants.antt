use Rattle.std.proofs.Common.{◌<◌, All, length, take}
use Rattle.gb_rows_tests.proofs.hashes.have_columns.Given as goal

-- the frames so far have columns
abbrev pub invariant-loop-frame : goal.invariant-loop-frame
invariant-loop-frame l = All (λ frame. 0 < length frame) (take l.frame-index l.frames)
