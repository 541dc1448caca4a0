use Rattle.std.proofs.Common.{◌+◌, ◌*◌, arith}
use Rattle.gb_cols.proofs.CodeLemmas.{held_more}
use Rattle.gb_cols.proofs.codes.codes_used.Goals as goal

pub loop-window-preserved : goal.loop-window-preserved
loop-window-preserved g c =
    held_more (c.loop-window.window * 16384) c.min.result ((c.loop-window.window + 1) * 16384) c.args.n c.args.codes.now.slots c.loop-window.invariant
    (c.window_used.ensures.0 c.if-not-window_used.false) (λ code late lt below. omega (arith, late, lt, below, c.min.ensures))
