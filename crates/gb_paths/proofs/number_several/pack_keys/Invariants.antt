use Rattle.std.proofs.Common.{◌≤◌, ◌-◌, length, take}
use Rattle.gb_defs.specs.Classes.{agree_by, rows_below}
use Rattle.gb_defs.specs.Column.{frame_height}
use Rattle.gb_rows.specs.Lent.{keys_in}
use Rattle.gb_paths.specs.Packed.{IsPacked}
use Rattle.gb_paths.specs.Tuples.{slots_of}
use Rattle.gb_paths.proofs.number_several.pack_keys.Given as goal

abbrev pub invariant-loop-place : goal.invariant-loop-place
invariant-loop-place g l = record {
  within : l.place ≤ length l.keys;
  so_far : IsPacked (agree_by (slots_of (take l.place (keys_in l.keys)))) (rows_below (frame_height (keys_in l.keys))) l.packed;
}

abbrev pub decreases-loop-place : goal.decreases-loop-place
decreases-loop-place g l = length l.keys - l.place
