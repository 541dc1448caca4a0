use Rattle.std.proofs.Common.{◌∙◌, ap, sym, List, ℕ}
use Rattle.gb_groups.specs.GroupsType.{groups_of}
use Rattle.gb_groups.specs.Slices.{slice_groups}
use Rattle.gb_groups.specs.Views.{part_from}
use Rattle.gb_groups.specs.declared.groups_type.GroupsType.{GroupsType}
use Rattle.gb_groups.proofs.ViewLemmas.{runs_part}
use Rattle.gb_groups.proofs.view.GroupsView.to_type.Goals as goal

pub returns-in_ok-part-in-Slice-clause-ok : goal.returns-in_ok-part-in-Slice-clause-ok
returns-in_ok-part-in-Slice-clause-ok c =
    let start = c.self.inside.start in
    let count = c.self.inside.count in
    ap (λ (runs : List (List ℕ)). slice_groups runs c.in-Slice.rolling) c.in_ok-part-in-Slice.ensures.ok ∙ runs_part c.in-Slice.groups c.in-Slice.rolling start count
    ∙ ap (λ (t : GroupsType). part_from (groups_of t) start count) (sym c.in-Slice.is) ∙ c.self.view_is
