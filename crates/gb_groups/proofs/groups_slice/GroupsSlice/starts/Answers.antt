use Rattle.std.proofs.Common.{sym, ◌∙◌, ap, map}
use Rattle.std.proofs.lemmas.List.{take_all}
use Rattle.gb_groups.specs.Slices.{start_of}
use Rattle.gb_groups.proofs.SliceLemmas.{firsts_are}
use Rattle.gb_groups.proofs.groups_slice.GroupsSlice.starts.Goals as goal

pub returns-clause-ok : goal.returns-clause-ok
returns-clause-ok c =
    let items = c.deref-slice-items.result.now in
    let all = take_all c.loop-slice.slice-index items c.loop-slice-test.false ∙ c.deref-slice-items.ensures.value ∙ c.self.view_is in
    c.loop-slice.invariant.firsts ∙ ap (map start_of) all ∙ sym (firsts_are c.args.self.now)
