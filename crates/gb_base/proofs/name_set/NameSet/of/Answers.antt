use Rattle.std.proofs.Common.{◌≡◌, ◌+◌, ◌∷◌, ◌||◌, List, ℕ, [], ap, drop, subst, sym}
use Rattle.std.specs.List.{list_any}
use Rattle.std.specs.Str.{bytes_eq}
use Rattle.std.proofs.lemmas.List.{drop_all, drop_more}
use Rattle.gb_base.proofs.NameLemmas.{HasAllBut, all_but_more, all_in}
use Rattle.gb_base.proofs.NameSetLemmas.{names_in}
use Rattle.gb_base.proofs.name_set.NameSet.of.Goals as goal

pub loop-name-init : goal.loop-name-init
loop-name-init c = λ other. ap (λ set. list_any (bytes_eq other) set || list_any (bytes_eq other) (names_in c.args.names.now)) (sym c.new-set.ensures)

pub loop-name-preserved : goal.loop-name-preserved
loop-name-preserved c =
    let names = c.args.names.now in
    let at = c.loop-name.name-index in
    let has = subst (λ rest. HasAllBut (names_in names) rest c.loop-name.set) (ap names_in (drop_more names at _ c.loop-name-test.true)) c.loop-name.invariant in
    all_but_more (names_in names) (names_in (drop (at + 1) names)) c.loop-name.set _ _ has c.in_ok-insert.ensures.names

pub returns : goal.returns
returns c =
    let names = c.args.names.now in
    all_in (names_in names) c.loop-name.set (subst (λ rest. HasAllBut (names_in names) (names_in rest) c.loop-name.set) (drop_all c.loop-name.name-index names c.loop-name-test.false) c.loop-name.invariant)
