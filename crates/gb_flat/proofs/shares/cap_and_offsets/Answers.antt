use Rattle.std.proofs.Common.{◌∙◌, ◌++◌, ◌∷◌, [], ap₂, sym, arith}
use Rattle.std.proofs.lemmas.Grind.{common_steps}
use Rattle.gb_flat.proofs.OffsetLemmas.{starts_more}
use Rattle.gb_flat.proofs.shares.cap_and_offsets.Goals as goal

pub loop-list-preserved : goal.loop-list-preserved
loop-list-preserved g c = record {
  total = grind (arith, common_steps);
  starts =
      c.push_reserved.ensures.items
      ∙ (ap₂ (λ starts total. starts ++ total ∷ []) c.loop-list.invariant.starts c.loop-list.invariant.total
      ∙ sym (starts_more _ c.args.v.now c.loop-list.list-index c.list-item.result c.loop-list-test.true));
  so_far = grind (arith, common_steps);
  room = omega arith;
}
