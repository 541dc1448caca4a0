use Rattle.std.proofs.Common.{◌∙◌}
use Rattle.std.proofs.lemmas.List.{take_all}
use Rattle.gb_cols.proofs.chunked.ChunkedArraySeriesTrait.try_clone.Goals as goal

pub invariant_of-result : goal.invariant_of-result
invariant_of-result g c =
    let all = c.loop-chunk.invariant ∙ take_all c.loop-chunk.chunk-index c.deref-chunk-items.result.now c.loop-chunk-test.false ∙ c.deref-chunk-items.ensures.value in
    rw (all, c.in_ok-try_clone-3.ensures) (record { flag_true = c.self.invariant.flag_true; small = c.self.invariant.small; few = c.self.invariant.few })
