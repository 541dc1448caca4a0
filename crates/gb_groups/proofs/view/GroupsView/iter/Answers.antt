use Rattle.std.proofs.Common.{◌∙◌, ap, sym}
use Rattle.gb_defs.specs.Groups.{Grouping}
use Rattle.gb_groups.specs.GroupsType.{groups_of}
use Rattle.gb_groups.specs.Slices.{slice_pair, slice_pairs}
use Rattle.gb_groups.specs.Views.{part_from}
use Rattle.gb_groups.specs.declared.groups_type.GroupsType.{GroupsType}
use Rattle.gb_groups.proofs.ViewLemmas.{part_map}
use Rattle.gb_groups.proofs.view.GroupsView.iter.Goals as goal

pub returns-in-Slice : goal.returns-in-Slice
returns-in-Slice c =
    let start = c.self.inside.start in
    let count = c.self.inside.count in
    c.over_slices.ensures ∙ ap slice_pairs c.runs.ensures.value ∙ part_map slice_pair c.in-Slice.groups start count
    ∙ ap (λ (t : GroupsType). (part_from (groups_of t) start count).pairs) (sym c.in-Slice.is) ∙ ap (λ (g : Grouping). g.pairs) c.self.view_is
