use Rattle.std.proofs.Common.{◌≡◌, ◌+◌, ◌∷◌, ◌∙◌, sym, ap, map, drop, subst, true, false, List, ℕ}
use Rattle.std.specs.List.{list_any}
use Rattle.std.specs.Str.{bytes_eq}
use Rattle.gb_base.specs.PlSmallStr.{name_of}
use Rattle.gb_base.proofs.NameLemmas.{HasOneMore, HasSeen, held, listed_more, seen_found, seen_more, unheld}
use Rattle.gb_base.proofs.name_set.repeated.Goals as goal

pub returns-then-not-branch-clause-ok : goal.returns-then-not-branch-clause-ok
returns-then-not-branch-clause-ok c =
    let names = c.args.names.now in
    let at = c.loop-name.name-index in
    let name = name_of c.name-item.result in
    let s : HasSeen (map name_of names) (name ∷ map name_of (drop (at + 1) names)) c.loop-name.seen =
    subst (λ rest. HasSeen (map name_of names) rest c.loop-name.seen) (listed_more name_of names at c.name-item.result c.loop-name-test.true c.name-item.is) c.loop-name.invariant in
    let known : list_any (bytes_eq c.as_str.result.now) c.loop-name.seen ≡ true = held _ _ c.in_ok-insert.ensures.new c.if-not-branch.true in
    seen_found name s (ap (λ (n : List ℕ). list_any (bytes_eq n) c.loop-name.seen) (sym c.as_str.ensures) ∙ known)

pub loop-name-preserved : goal.loop-name-preserved
loop-name-preserved c =
    let names = c.args.names.now in
    let at = c.loop-name.name-index in
    let name = name_of c.name-item.result in
    let s : HasSeen (map name_of names) (name ∷ map name_of (drop (at + 1) names)) c.loop-name.seen =
    subst (λ rest. HasSeen (map name_of names) rest c.loop-name.seen) (listed_more name_of names at c.name-item.result c.loop-name-test.true c.name-item.is) c.loop-name.invariant in
    let fresh : list_any (bytes_eq c.as_str.result.now) c.loop-name.seen ≡ false = unheld _ _ c.in_ok-insert.ensures.new c.if-not-branch.false in
    seen_more name s c.insert.new.self (ap (λ (n : List ℕ). list_any (bytes_eq n) c.loop-name.seen) (sym c.as_str.ensures) ∙ fresh)
    (subst (λ (n : List ℕ). HasOneMore n c.loop-name.seen c.insert.new.self) c.as_str.ensures c.in_ok-insert.ensures.names)
