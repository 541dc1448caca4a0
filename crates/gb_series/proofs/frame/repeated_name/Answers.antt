use Rattle.std.proofs.Common.{◌≡◌, ◌+◌, ◌∷◌, ◌∙◌, sym, ap, map, drop, subst, true, false, List, ℕ, Some}
use Rattle.std.specs.List.{list_any}
use Rattle.std.specs.Str.{bytes_eq}
use Rattle.gb_defs.specs.Column.{Frame, first_repeated, names_of}
use Rattle.gb_series.specs.Series.{value_of}
use Rattle.gb_series.proofs.FrameLemmas.{stored_more}
use Rattle.gb_base.proofs.NameLemmas.{HasOneMore, HasSeen, held, seen_found, seen_more, unheld}
use Rattle.gb_series.proofs.frame.repeated_name.Goals as goal

pub returns-then-not-branch-clause-ok : goal.returns-then-not-branch-clause-ok
returns-then-not-branch-clause-ok c =
    let columns = c.deref-column-items.result.now in
    let column = c.column-item.result in
    let at = c.loop-column.column-index in
    let name = (value_of column).name in
    let text : c.as_str.result.now ≡ name = c.as_str.ensures ∙ c.name.ensures in
    let s : HasSeen (names_of (map value_of columns)) (name ∷ names_of (map value_of (drop (at + 1) columns))) c.loop-column.seen =
    subst (λ (rest : Frame). HasSeen (names_of (map value_of columns)) (names_of rest) c.loop-column.seen)
    (stored_more value_of columns at column c.loop-column-test.true c.column-item.is) c.loop-column.invariant in
    let known : list_any (bytes_eq c.as_str.result.now) c.loop-column.seen ≡ true = held _ _ c.in_ok-insert.ensures.new c.if-not-branch.true in
    let found = seen_found name s (ap (λ (n : List ℕ). list_any (bytes_eq n) c.loop-column.seen) (sym text) ∙ known) in
    ap (λ bs. Some bs) c.name-then-not-branch.ensures ∙ found ∙ ap (λ cs. first_repeated (names_of (map value_of cs))) c.deref-column-items.ensures.value

pub loop-column-preserved : goal.loop-column-preserved
loop-column-preserved c =
    let columns = c.deref-column-items.result.now in
    let column = c.column-item.result in
    let at = c.loop-column.column-index in
    let name = (value_of column).name in
    let text : c.as_str.result.now ≡ name = c.as_str.ensures ∙ c.name.ensures in
    let s : HasSeen (names_of (map value_of columns)) (name ∷ names_of (map value_of (drop (at + 1) columns))) c.loop-column.seen =
    subst (λ (rest : Frame). HasSeen (names_of (map value_of columns)) (names_of rest) c.loop-column.seen)
    (stored_more value_of columns at column c.loop-column-test.true c.column-item.is) c.loop-column.invariant in
    let fresh : list_any (bytes_eq c.as_str.result.now) c.loop-column.seen ≡ false = unheld _ _ c.in_ok-insert.ensures.new c.if-not-branch.false in
    seen_more name s c.insert.new.self (ap (λ (n : List ℕ). list_any (bytes_eq n) c.loop-column.seen) (sym text) ∙ fresh)
    (subst (λ (n : List ℕ). HasOneMore n c.loop-column.seen c.insert.new.self) text c.in_ok-insert.ensures.names)
