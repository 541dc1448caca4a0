use Rattle.std.proofs.Common.{◌≡◌, ◌∙◌, ap, length, ℕ, sym, subst, true, Some}
use Rattle.gb_defs.specs.Fault.{sums_flat}
use Rattle.gb_defs.specs.Groups.{lists_in}
use Rattle.gb_base.specs.PlSmallStr.{name_of}
use Rattle.gb_agg.proofs.FoldingLemmas.{logical_sums}
use Rattle.gb_agg.proofs.group_sums.LogicalGroupSums.group_sums.Goals as goal

pub number_sums-requires : goal.number_sums-requires
number_sums-requires g c =
    subst (λ (n : ℕ). g.G.FoldGroups.suits c.args.groups.now n) (ap (λ v. length v.slots) c.physical.ensures.column) c.requires

pub returns-clause-ok : goal.returns-clause-ok
returns-clause-ok g c =
    let kind = c.kind-kind.result in
    let stored = g.K.Physical.Native.Native.flat in
    let t = g.K.LogicalKind.flat kind in
    let has : sums_flat t ≡ true = sym c.has_sum.ensures ∙ c.if-not-has_sum.false in
    let lists = lists_in (g.G.FoldGroups.grouping c.args.groups.now) in
    ap (λ v. Some v) c.with_kind.ensures
    ∙ logical_sums stored t (g.met.K.LogicalKind.sums kind has) (name_of c.args.name) c.args.self.now c.physical.result.now c.in_ok-sums.sums lists has c.kind-kind.ensures.kind
    (ap (λ v. v.slots) c.physical.ensures.column) c.physical.ensures.typed c.in_ok-sums.ensures.ok
