-- Of the pairs of a zip, the first parts are the first list.
use Rattle.std.proofs.Common.{sym, ◌∙◌}
use Rattle.std.proofs.lemmas.List.{length-map}
use Rattle.std.proofs.lemmas.Slice.Zip.{firsts-zip}
use Rattle.gb_groups.specs.Groups.{lists_of}
use Rattle.gb_groups.proofs.groups_idx.GroupsIdx.is_sorted_flag.Goals as goal

pub returns-clause-ascend : goal.returns-clause-ascend
returns-clause-ascend c =
    let lists = lists_of c.self.inside.all.items in
    let firsts = firsts-zip c.self.inside.first.items lists (length-map c.self.inside.all.items _ ∙ sym c.self.invariant.0) in
    rw (← c.self.view_is, firsts) c.self.invariant.1
