use Rattle.std.proofs.Common.{subst, refl, arith, List}
use Rattle.std.specs.List.{All}
use Rattle.std.proofs.lemmas.List.{take_all}
use Rattle.std.proofs.lemmas.List.Elements.{All-more}
use Rattle.gb_defs.specs.Slot.{Slot, Nil}
use Rattle.gb_cols.specs.Codes.{IsCodeBelow}
use Rattle.gb_cols.proofs.codes.chunk_in_range.Goals as goal

pub loop-i-preserved : goal.loop-i-preserved
loop-i-preserved g c =
    All-more (IsCodeBelow c.args.n) c.args.codes.now c.loop-i.i Nil (omega (arith, c.loop-i-test.true, c.len-i-end.ensures.value)) c.loop-i.invariant
    (subst (λ (s : Slot). IsCodeBelow c.args.n s) c.get.ensures (c.code_in_range.ensures.0 c.if-not-code_in_range.false))

pub returns : goal.returns
returns g c =
    (λ t. subst (λ (ss : List Slot). All (IsCodeBelow c.args.n) ss) (take_all c.loop-i.i c.args.codes.now (omega (arith, c.loop-i-test.false, c.len-i-end.ensures.value))) c.loop-i.invariant, λ all. refl)
