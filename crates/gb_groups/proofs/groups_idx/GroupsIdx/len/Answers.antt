use Rattle.std.proofs.Common.{arith}
use Rattle.std.proofs.lemmas.Grind.{common_steps}
use Rattle.std.proofs.lemmas.List.{length-map}
use Rattle.std.proofs.lemmas.Slice.Zip.{length-zip}
use Rattle.gb_groups.proofs.groups_idx.GroupsIdx.len.Goals as goal

pub returns : goal.returns
returns c = rw (← c.self.view_is, length-zip) (grind (arith, common_steps, length-map))
