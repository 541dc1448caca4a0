use Rattle.std.proofs.Common.{◌≡◌, ◌∙◌, ◌==◌, ◌||◌, true, false, ap, length, sym}
use Rattle.std.proofs.lemmas.Bool.{ne_eqb}
use Rattle.gb_paths.specs.Keys.{AreCodesOf}
use Rattle.gb_paths.proofs.ChoiceLemmas.{codes_used}
use Rattle.gb_paths.proofs.TupleLemmas.{no_tuples}
use Rattle.gb_paths.proofs.into_groups.group_perfect.Goals as goal

pub returns-then-len-eq0-clause-ok : goal.returns-then-len-eq0-clause-ok
returns-then-len-eq0-clause-ok g c pool =
    let column = g.C.SeriesTrait.value c.args.column.now in
    c.no_groups.ensures ∙ no_tuples column c.args.sorted pool (sym c.len.ensures.value ∙ c.if-len-eq0.true)

pub group_codes-requires-clause-codes : goal.group_codes-requires-clause-codes
group_codes-requires-clause-codes g c =
    let column = g.C.SeriesTrait.value c.args.column.now in
    let some : (length column.slots == 0) ≡ false = ne_eqb (length column.slots) 0 (λ none. c.if-len-eq0.false (c.len.ensures.value ∙ none)) in
    let used : column.all_used ≡ true = ap (λ b. b || column.all_used) (sym some) ∙ c.requires.perfect.used in
    let held = codes_used column.dtype column.slots (c.uses_all.ensures.holds (c.uses_all.ensures.value ∙ used)) c.len.ensures.fitting in
    let of_them : AreCodesOf column c.in-Some.codes.now c.in-Some.count = rw c.in-Some.is at c.codes.ensures in
    rw of_them.slots (rw of_them.texts at held)
