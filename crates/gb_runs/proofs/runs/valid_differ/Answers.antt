use Rattle.std.proofs.Common.{◌∙◌, sym}
use Rattle.gb_defs.specs.Slot.{Nil, slot_at}
use Rattle.gb_runs.proofs.TogetherLemmas.{below_differ, else_differ}
use Rattle.gb_runs.proofs.runs.valid_differ.Goals as goal

pub returns-then-is_lt : goal.returns-then-is_lt
returns-then-is_lt g c =
    let a = slot_at c.args.a.now c.args.i in
    let b = slot_at c.args.b.now c.args.j in
    c.if-is_lt.true ∙ below_differ g.V.Values.dtype a b g.met.V.Values.sortable (c.len.ensures.fitting c.args.i Nil c.requires.inside) (sym c.cmp_at-order.ensures.less ∙ sym c.is_lt.ensures ∙ c.if-is_lt.true)

pub returns-else-is_lt : goal.returns-else-is_lt
returns-else-is_lt g c =
    let a = slot_at c.args.a.now c.args.i in
    let b = slot_at c.args.b.now c.args.j in
    c.is_gt.ensures ∙ c.cmp_at-order.ensures.greater
    ∙ else_differ g.V.Values.dtype a b g.met.V.Values.sortable (c.len.ensures.fitting c.args.i Nil c.requires.inside) (c.len-2.ensures.fitting c.args.j Nil c.requires.other_inside) c.requires.valid c.requires.other_valid
    (sym c.cmp_at-order.ensures.less ∙ sym c.is_lt.ensures ∙ c.if-is_lt.false)
