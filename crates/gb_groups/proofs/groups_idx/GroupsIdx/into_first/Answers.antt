-- Of the pairs of a zip, the first parts are the first list.
use Rattle.std.proofs.Common.{sym, ◌∙◌}
use Rattle.std.proofs.lemmas.List.{length-map}
use Rattle.std.proofs.lemmas.Slice.Zip.{firsts-zip}
use Rattle.gb_groups.specs.Groups.{lists_of}
use Rattle.gb_groups.proofs.groups_idx.GroupsIdx.into_first.Goals as goal

pub returns : goal.returns
returns c =
    let lists = lists_of c.self.inside.all.items in
    rw (← c.self.view_is) (sym (firsts-zip c.self.inside.first.items lists (length-map c.self.inside.all.items _ ∙ sym c.self.invariant.0)))
