use Rattle.std.proofs.Common.{◌<◌, [], length, subst, sym, ap, ◌∙◌, arith}
use Rattle.std.proofs.lemmas.List.{get_or-map, length-map}
use Rattle.gb_defs.specs.Groups.{AreMembers, rows_of_pair}
use Rattle.gb_groups.specs.GroupsType.{groups_of}
use Rattle.gb_agg_tests.proofs.folds.makes.Goals as goal

pub fold_group-requires : goal.fold_group-requires
fold_group-requires g c =
    let pairs = (groups_of c.args.groups.now).pairs in
    let i = c.loop-index.index in
    let within : i < length pairs = omega arith in
    subst (AreMembers (g.F.NumberFold.height c.args.fold.now)) (get_or-map rows_of_pair pairs i (0, []) [] within ∙ ap rows_of_pair (sym c.get.ensures))
    (c.requires i [] (omega (arith, within, length-map pairs rows_of_pair)))
