use Rattle.std.proofs.Common.{◌∙◌, List, ℕ, ap}
use Rattle.gb_defs.specs.ColumnType.{Flat}
use Rattle.gb_defs.specs.Groups.{lists_in}
use Rattle.gb_agg.specs.Folds.{extreme, fold_column, fold_in}
use Rattle.gb_agg.proofs.ExtremeLemmas.{logical_extremes}
use Rattle.gb_agg.proofs.extremes.LogicalGroupExtremes.group_extremes.Goals as goal

pub returns-clause-ok : goal.returns-clause-ok
returns-clause-ok g c =
    let kind = c.kind-kind.result in
    let stored = g.K.Physical.Native.Native.flat in
    let t = g.K.LogicalKind.flat kind in
    let greatest = c.args.greatest in
    let column = c.args.self.now in
    let physical = c.physical.result.now in
    let lists = lists_in (g.G.FoldGroups.grouping c.args.groups.now) in
    c.with_kind.ensures
    ∙ logical_extremes stored t (g.met.K.LogicalKind.stands kind) greatest column physical c.in_ok-found.found lists c.kind-kind.ensures.kind
    (ap (λ v. v.slots) c.physical.ensures.column) c.physical.ensures.typed
    (c.in_ok-found.ensures.ok ∙ ap (λ (n : List ℕ). fold_column n (Flat stored) (fold_in (extreme greatest) physical) lists) (c.in_ok-name.ensures.ok ∙ c.name.ensures))
