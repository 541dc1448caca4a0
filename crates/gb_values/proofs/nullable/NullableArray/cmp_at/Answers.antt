use Rattle.std.proofs.Common.{length, ◌∙◌, ap, arith}
use Rattle.gb_defs.specs.Slot.{is_nil, slot_at}
use Rattle.gb_values.proofs.FlagLemmas.{flagged_length, shown_at}
use Rattle.gb_values.proofs.nullable.NullableArray.cmp_at.Goals as goal

pub cmp_at-requires-clause-inside : goal.cmp_at-requires-clause-inside
cmp_at-requires-clause-inside g c =
    omega (arith, ap length c.self.view_is, flagged_length (g.V.Values.slots c.self.inside.values) c.self.inside.validity.flags.items, c.requires.inside)

pub cmp_at-requires-clause-other_inside : goal.cmp_at-requires-clause-other_inside
cmp_at-requires-clause-other_inside g c =
    omega (arith, ap length c.other.view_is, flagged_length (g.V.Values.slots c.other.inside.values) c.other.inside.validity.flags.items, c.requires.other_inside)

pub returns : goal.returns
returns g c =
    let here = ap (λ ss. slot_at ss c.args.i) c.self.view_is in
    let there = ap (λ ss. slot_at ss c.args.j) c.other.view_is in
    let first = shown_at (g.V.Values.slots c.self.inside.values) c.self.inside.validity.flags.items c.args.i (ap is_nil here ∙ c.requires.valid) ∙ here in
    let second = shown_at (g.V.Values.slots c.other.inside.values) c.other.inside.validity.flags.items c.args.j (ap is_nil there ∙ c.requires.other_valid) ∙ there in
    rw (first, second) at c.cmp_at.ensures
