use Rattle.std.proofs.Common.{arith, ◌≤◌, ◌∙◌, ◌+◌, ap, length}
use Rattle.gb_defs.specs.Groups.{Grouping}
use Rattle.gb_groups.specs.GroupsType.{groups_of}
use Rattle.gb_groups.specs.Views.{part_from}
use Rattle.gb_groups.proofs.ViewLemmas.{part_again, part_long}
use Rattle.gb_groups.proofs.view.GroupsView.part.Goals as goal

pub returns : goal.returns
returns c =
    let g = groups_of c.self.inside.groups.now in
    let at = c.self.inside.start in
    let shown = c.self.inside.count in
    let long = part_long g.pairs at shown c.self.invariant in
    let inside : c.args.start + c.args.count ≤ shown = omega (arith, c.requires, long, ap (λ (p : Grouping). length p.pairs) c.self.view_is) in
    c.new.ensures ∙ part_again g at shown c.args.start c.args.count inside ∙ ap (λ (p : Grouping). part_from p c.args.start c.args.count) c.self.view_is
