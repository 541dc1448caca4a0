use Rattle.std.proofs.Common.{◌∙◌, ◌++◌, ◌∷◌, [], ap}
use Rattle.std.proofs.lemmas.List.{replicate_more}
use Rattle.gb_agg.proofs.row_fold.repeated.Goals as goal

pub loop-preserved : goal.loop-preserved
loop-preserved g c = c.in_ok-push.ensures.items ∙ ap (λ ss. ss ++ c.args.state ∷ []) c.loop.invariant ∙ replicate_more c.loop.counter c.args.state
