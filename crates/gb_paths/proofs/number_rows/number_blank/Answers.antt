use Rattle.std.proofs.Common.{arith}
use Rattle.std.specs.Cmp.{on_equiv}
use Rattle.std.proofs.lemmas.List.Elements.{recursion_from_All}
use Rattle.gb_defs.specs.Rows.{same_slot_at}
use Rattle.gb_defs.proofs.SlotLemmas.{slot_eq_equiv}
use Rattle.gb_paths.proofs.MemberLemmas.{few_members}
use Rattle.gb_paths.proofs.NumberingLemmas.{numbers_told}
use Rattle.gb_paths.proofs.number_rows.number_blank.Goals as goal

pub returns-clause-ok : goal.returns-clause-ok
returns-clause-ok g c =
    let rows = g.R.KeyRows.rows c.args.rows.now in
    let found = c.in_ok-found.found in
    numbers_told (same_slot_at rows.slot) (on_equiv rows.slot slot_eq_equiv) (g.M.Members.listed c.args.members.now) found.of_rows.items found.first.items
    c.requires.members.ascend c.in_ok-found.ensures.each
    (recursion_from_All _ found.of_rows.items c.in_ok-found.ensures.known) c.in_ok-found.ensures.classes

pub invariant_of-result-clause-few : goal.invariant_of-result-clause-few
invariant_of-result-clause-few g c =
    let rows = few_members _ _ c.requires.members in
    omega (arith, rows, c.in_ok-found.ensures.each, c.requires.hashes.within, c.requires.few)
