use Rattle.std.proofs.Common.{◌∙◌, List, ℕ, ap}
use Rattle.std.proofs.lemmas.Result.{IfOk-weaker}
use Rattle.gb_defs.specs.ColumnType.{uint32}
use Rattle.gb_defs.specs.Groups.{lists_in}
use Rattle.gb_defs.specs.Slot.{Slot}
use Rattle.gb_base.specs.PlSmallStr.{name_of}
use Rattle.gb_agg.specs.Folds.{fold_column}
use Rattle.gb_agg.proofs.FoldingLemmas.{valid_alike}
use Rattle.gb_agg.proofs.numbered_counts.CategoricalChunkedGroupCounts.group_counts.Goals as goal

pub returns-clause-ok : goal.returns-clause-ok
returns-clause-ok g c =
    let name = name_of c.args.name in
    let lists = lists_in (g.G.FoldGroups.grouping c.args.groups.now) in
    let same = valid_alike c.args.self.now c.physical.result.now (ap (λ v. v.slots) c.physical.ensures.column) in
    IfOk-weaker c.valid_slots.result _ _ (λ counts e. e ∙ ap (λ (f : List ℕ → Slot). fold_column name uint32 f lists) same) c.valid_slots.ensures.ok
