use Rattle.std.proofs.Common.{◌∙◌, ◌∷◌, drop, ap, arith, sym}
use Rattle.std.proofs.Math.Seq.{drop-cons}
use Rattle.gb_defs.specs.Column.{ColumnValue}
use Rattle.gb_rows.proofs.PartLemmas.{left_chunks, none_behind, one_behind, still_few}
use Rattle.gb_rows.proofs.vertical.join_chunks.Goals as goal

pub loop-chunk-preserved : goal.loop-chunk-preserved
loop-chunk-preserved c =
    let rows = c.loop-chunk.rows in
    let new = c.append.new.self in
    let chunk = c.in-Some.chunk in
    let rest = c.loop-chunk.chunk-iterator.rest.items in
    let left = c.next.new.self.rest.items in
    let is = c.in-Some.ensures.steps.0 in
    let more = c.in_ok-append.ensures.ok in
    record {
      rows = one_behind rows new chunk rest left is _ more c.loop-chunk.invariant.rows;
      typed = ap (λ (c : ColumnValue). c.dtype) more ∙ c.loop-chunk.invariant.typed;
      each = left_chunks rows new chunk rest left is c.loop-chunk.invariant.each;
      few = still_few rows new chunk rest left is more c.loop-chunk.invariant.few;
    }

pub returns-clause-ok : goal.returns-clause-ok
returns-clause-ok c =
    let all = c.args.chunks.items in
    let first = c.remove-rows.result in
    let others = c.into_iter-chunk-iterator.ensures.into_iter_gives.0 ∙ c.remove-rows.ensures.items in
    let is = drop-cons all 0 first c.requires.some ∙ ap (λ c. c ∷ drop 1 all) (sym c.remove-rows.ensures.value) ∙ ap (λ l. first ∷ l) (sym others) in
    none_behind c.loop-chunk.rows first c.loop-chunk.chunk-iterator.rest.items _ all (omega (arith, c.in-None.ensures.steps.0, c.loop-chunk.chunk-iterator.rest.ok.0)) is c.requires.each c.loop-chunk.invariant.rows
