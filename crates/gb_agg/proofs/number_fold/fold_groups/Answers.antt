use Rattle.std.proofs.Common.{◌∙◌, ◌<◌, [], ℕ, List, ap, sym, length, map, take, get_or, arith}
use Rattle.std.proofs.lemmas.List.{get_or_default, length-map, length-take-le, take_all, take_more}
use Rattle.gb_defs.specs.ColumnType.{Flat}
use Rattle.gb_defs.specs.Groups.{AreMembers, rows_of_pair}
use Rattle.gb_base.specs.PlSmallStr.{name_of}
use Rattle.gb_groups.specs.GroupsIndicator.{pair_of}
use Rattle.gb_agg.specs.Folds.{fold_column}
use Rattle.gb_agg.proofs.FoldingLemmas.{column_next}
use Rattle.gb_agg.proofs.ListLemmas.{list_at}
use Rattle.gb_agg.proofs.number_fold.fold_groups.Goals as goal

pub fold_group-requires : goal.fold_group-requires
fold_group-requires g c =
    let pairs = c.args.groups.now.pairs in
    let place = c.loop-place.place in
    let pair = pair_of c.get.result in
    let lt : place < length pairs = omega (arith, c.loop-place-test.true, c.len-place-end.ensures) in
    list_at pairs place pair lt (c.get.ensures ∙ get_or_default pairs place (0, []) pair lt) (AreMembers (g.F.NumberFold.height c.args.fold.now)) c.requires.rows

pub push-requires : goal.push-requires
push-requires g c =
    let pairs = c.args.groups.now.pairs in
    let place = c.loop-place.place in
    let front = take place pairs in
    let lt : place < length pairs = omega (arith, c.loop-place-test.true, c.len-place-end.ensures) in
    omega (
      arith,
      ap (λ column. length column.slots) c.loop-place.invariant,
      length-map (map rows_of_pair front) (g.F.NumberFold.fold c.args.fold.now),
      length-map front rows_of_pair,
      length-take-le place pairs (omega (arith, lt)),
      lt,
      c.requires.few,
    )

pub loop-place-preserved : goal.loop-place-preserved
loop-place-preserved g c =
    let pairs = c.args.groups.now.pairs in
    let place = c.loop-place.place in
    let fold = g.F.NumberFold.fold c.args.fold.now in
    let t = Flat g.F.Out.Native.Native.flat in
    let lt : place < length pairs = omega (arith, c.loop-place-test.true, c.len-place-end.ensures) in
    let next = column_next rows_of_pair fold (name_of c.args.name) t (take place pairs) (get_or pairs place (0, [])) _ _ _ c.in_ok-push.ensures.ok
    (c.fold_group.ensures ∙ ap (λ (pair : ℕ × List ℕ). fold (rows_of_pair pair)) c.get.ensures) c.loop-place.invariant in
    next ∙ ap (λ (ps : List (ℕ × List ℕ)). fold_column (name_of c.args.name) t fold (map rows_of_pair ps)) (sym (take_more pairs place (0, []) lt))

pub returns-clause-ok : goal.returns-clause-ok
returns-clause-ok g c =
    let pairs = c.args.groups.now.pairs in
    c.loop-place.invariant
    ∙ ap (λ (ps : List (ℕ × List ℕ)). fold_column (name_of c.args.name) (Flat g.F.Out.Native.Native.flat) (g.F.NumberFold.fold c.args.fold.now) (map rows_of_pair ps))
    (take_all c.loop-place.place pairs (omega (arith, c.loop-place-test.false, c.len-place-end.ensures)))
