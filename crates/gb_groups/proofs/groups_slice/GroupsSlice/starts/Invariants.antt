use Rattle.std.proofs.Common.{◌≡◌, ◌+◌, ◌-◌, ◌≤◌, length, map, take}
use Rattle.gb_groups.specs.Slices.{start_of}
use Rattle.gb_groups.proofs.groups_slice.GroupsSlice.starts.Given as goal

abbrev pub invariant-loop-slice : goal.invariant-loop-slice
invariant-loop-slice l = record {
  firsts : l.firsts.items ≡ map start_of (take l.slice-index l.slice-items);
  room : l.firsts.len + (length l.slice-items - l.slice-index) ≤ l.firsts.cap;
}
