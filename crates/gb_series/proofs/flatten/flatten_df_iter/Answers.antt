use Rattle.std.proofs.Common.{rules, ◌≡◌, ◌∙◌, sym, ap, arith, nat_lt, List, subst, sum}
use Rattle.std.specs.Prelude.{All}
use Rattle.std.specs.List.{filter}
use Rattle.std.proofs.lemmas.Fn.{filter_same}
use Rattle.gb_defs.specs.Column.{Frame}
use Rattle.gb_series.specs.Frame.{IsInOneChunk, frame_chunks, frames_at}
use Rattle.gb_series.proofs.ChunkLemmas.{all_whole, sum_filled}
use Rattle.gb_series.proofs.flatten.flatten_df_iter.Goals as goal

pub invariant_of-result : goal.invariant_of-result
invariant_of-result c =
    let filled : c.retain.new.self.items ≡ filter (nat_lt 0) c.in_ok-lengths.lengths.items = filter_same _ (nat_lt 0) _ (λ len kept f called. search rules) _ _ c.retain.ensures.filtered in
    let few : sum c.retain.new.self.items ≡ sum (frame_chunks c.args.df.now) = ap sum filled ∙ sum_filled c.in_ok-lengths.lengths.items ∙ ap sum c.in_ok-lengths.ensures.ok in
    omega (arith, few, c.chunk_lengths.ensures.sum, c.height.ensures.value, c.height.ensures.small)

pub returns-clause-ok : goal.returns-clause-ok
returns-clause-ok c =
    let filled : c.retain.new.self.items ≡ filter (nat_lt 0) c.in_ok-lengths.lengths.items = filter_same _ (nat_lt 0) _ (λ len kept f called. search rules) _ _ c.retain.ensures.filtered in
    ap (frames_at c.args.df.now 0) (filled ∙ ap (filter (nat_lt 0)) c.in_ok-lengths.ensures.ok)

pub returns-clause-whole : goal.returns-clause-whole
returns-clause-whole c =
    subst (λ (frames : List Frame). All IsInOneChunk frames) (sym (returns-clause-ok c)) (all_whole c.args.df.now c.requires.aligned c.height.ensures.frame.aligned c.chunk_lengths.ensures.sum)
