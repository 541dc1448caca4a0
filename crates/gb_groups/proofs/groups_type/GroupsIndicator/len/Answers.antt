use Rattle.std.proofs.Common.{sym}
use Rattle.std.proofs.lemmas.List.FromFn.{length-range_with_len}
use Rattle.gb_groups.specs.Slices.{length_of, start_of}
use Rattle.gb_groups.proofs.groups_type.GroupsIndicator.len.Goals as goal

pub returns-in-Slice : goal.returns-in-Slice
returns-in-Slice c = rw c.in-Slice.is (sym (length-range_with_len (start_of c.in-Slice.slice) (length_of c.in-Slice.slice)))
