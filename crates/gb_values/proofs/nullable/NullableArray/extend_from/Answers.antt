use Rattle.std.proofs.Common.{◌≤◌, ◌+◌, ◌++◌, length, take, drop, ◌∙◌, ap, arith, sym}
use Rattle.std.proofs.lemmas.Result.{err_from_is_err_and}
use Rattle.gb_values.specs.Array.{flagged_slots}
use Rattle.gb_values.proofs.FlagLemmas.{fits_part, flagged_filled, flagged_length, flagged_none, part_inside, part_more}
use Rattle.gb_values.proofs.nullable.NullableArray.extend_from.Goals as goal

pub extend_from-requires : goal.extend_from-requires
extend_from-requires g c =
    omega (arith, ap length c.other.view_is, flagged_length (g.V.Values.slots c.other.inside.values) c.other.inside.validity.flags.items, c.requires)

pub returns-then-is_empty-2-clause-ok : goal.returns-then-is_empty-2-clause-ok
returns-then-is_empty-2-clause-ok g c =
    let slots = g.V.Values.slots c.self.inside.values in
    let flags = c.self.inside.validity.flags.items in
    let others = g.V.Values.slots c.other.inside.values in
    let start = c.args.start in
    let count = c.args.count in
    let own = c.is_empty.ensures c.if-is_empty.true in
    let theirs = c.is_empty-then-is_empty.ensures c.if-is_empty-2.true in
    let seen = sym (flagged_none slots) ∙ ap (flagged_slots slots) (sym own) ∙ c.self.view_is in
    let other_seen = sym (flagged_none others) ∙ ap (flagged_slots others) (sym theirs) ∙ c.other.view_is in
    ap (λ ss. flagged_slots ss flags) c.in_ok-extend_from.ensures.ok ∙ ap (flagged_slots (slots ++ take count (drop start others))) own
    ∙ flagged_none (slots ++ take count (drop start others)) ∙ ap (λ ss. ss ++ take count (drop start others)) seen
    ∙ ap (λ ss. c.args.self.now ++ take count (drop start ss)) other_seen

pub extend_from-requires-2 : goal.extend_from-requires-2
extend_from-requires-2 g c =
    omega (arith, ap length c.other.view_is, flagged_length (g.V.Values.slots c.other.inside.values) c.other.inside.validity.flags.items, c.requires)

pub extend_reserved-requires-clause-inside : goal.extend_reserved-requires-clause-inside
extend_reserved-requires-clause-inside g c =
    let others = g.V.Values.slots c.other.inside.values in
    let more = c.other.inside.validity.flags.items in
    let le : c.args.start + c.args.count ≤ length others = omega (arith, ap length c.other.view_is, flagged_length others more, c.requires) in
    part_inside c.args.start c.args.count (length more) (length others) c.other.invariant le

pub returns-in_err-extend_from-2-clause-err : goal.returns-in_err-extend_from-2-clause-err
returns-in_err-extend_from-2-clause-err g c =
    let slots = g.V.Values.slots c.self.inside.values in
    let flags = c.self.inside.validity.flags.items in
    let err = err_from_is_err_and c.from_residual-in_err-extend_from-2.result c.from_residual-in_err-extend_from-2.ensures.1 in
    rw err.1
    (ap (λ ss. flagged_slots ss c.fill.new.self.flags.items) c.in_err-extend_from-2.ensures.err ∙ ap (flagged_slots slots) c.in_ok-fill.ensures.ok
    ∙ flagged_filled slots flags c.len.result ∙ c.self.view_is)

pub invariant_of-self-2 : goal.invariant_of-self-2
invariant_of-self-2 g c =
    let slots = g.V.Values.slots c.self.inside.values in
    let flags = c.self.inside.validity.flags.items in
    let others = g.V.Values.slots c.other.inside.values in
    let more = c.other.inside.validity.flags.items in
    let le : c.args.start + c.args.count ≤ length others = omega (arith, ap length c.other.view_is, flagged_length others more, c.requires) in
    rw (c.in_ok-extend_from-2.ensures.ok, c.extend_reserved.ensures, c.in_ok-fill.ensures.ok, c.len.ensures.value)
    (fits_part slots others flags more c.args.start c.args.count c.self.invariant c.other.invariant le)

pub returns-clause-ok : goal.returns-clause-ok
returns-clause-ok g c =
    let slots = g.V.Values.slots c.self.inside.values in
    let flags = c.self.inside.validity.flags.items in
    let others = g.V.Values.slots c.other.inside.values in
    let more = c.other.inside.validity.flags.items in
    let start = c.args.start in
    let count = c.args.count in
    let le : start + count ≤ length others = omega (arith, ap length c.other.view_is, flagged_length others more, c.requires) in
    rw (c.in_ok-extend_from-2.ensures.ok, c.extend_reserved.ensures, c.in_ok-fill.ensures.ok, c.len.ensures.value)
    (part_more slots others flags more start count c.self.invariant c.other.invariant le ∙ ap (λ ss. ss ++ take count (drop start (flagged_slots others more))) c.self.view_is
    ∙ ap (λ ss. c.args.self.now ++ take count (drop start ss)) c.other.view_is)
