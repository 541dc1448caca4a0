-- Of the pairs of a zip, the second parts are the second list.
use Rattle.std.proofs.Common.{sym, ◌∙◌}
use Rattle.std.proofs.lemmas.List.{length-map}
use Rattle.std.proofs.lemmas.Slice.Zip.{seconds-zip}
use Rattle.gb_groups.specs.Groups.{lists_of}
use Rattle.gb_groups.proofs.groups_idx.GroupsIdx.all.Goals as goal

pub returns : goal.returns
returns c =
    let lists = lists_of c.self.inside.all.items in
    rw (← c.self.view_is, c.as_slice.ensures.value)
    (sym (seconds-zip c.self.inside.first.items lists (length-map c.self.inside.all.items _ ∙ sym c.self.invariant.0)))
