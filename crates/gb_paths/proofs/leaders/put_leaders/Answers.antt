use Rattle.std.proofs.Common.{◌∙◌, ap, arith, get_or, set}
use Rattle.gb_paths.proofs.LeaderLemmas.{put_more}
use Rattle.gb_paths.proofs.leaders.put_leaders.Goals as goal

pub loop-place-preserved : goal.loop-place-preserved
loop-place-preserved c =
    ap (λ xs. set xs (get_or c.args.rows.now c.loop-place.place 0) (get_or c.args.leaders.now c.loop-place.place 0)) c.loop-place.invariant
    ∙ put_more c.args.rows.now c.args.leaders.now c.loop-place.place c.args.all.now c.loop-place-test.true (omega arith)
