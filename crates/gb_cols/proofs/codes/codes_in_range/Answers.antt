use Rattle.std.proofs.Common.{◌≡◌, List, subst, sym, ap, ◌∙◌, true≢false}
use Rattle.std.specs.List.{All}
use Rattle.gb_defs.specs.Column.{ColumnValue}
use Rattle.gb_defs.specs.Slot.{Slot}
use Rattle.gb_cols.specs.Codes.{IsCodeBelow}
use Rattle.gb_cols.proofs.ChunkedLemmas.{all_slots, each_all, each_last, each_one}
use Rattle.gb_cols.proofs.codes.codes_in_range.Goals as goal

pub returns-then-not-chunk_in_range : goal.returns-then-not-chunk_in_range
returns-then-not-chunk_in_range g c =
    let P = λ (s : Slot). IsCodeBelow c.args.n s in
    let chunks = c.chunks.result.0.now in
    let last = c.chunks.result.1.now in
    let whole : all_slots chunks last ≡ c.args.codes.now.slots = ap (λ (v : ColumnValue). v.slots) (sym c.chunks.ensures) in (
      λ h. absurd (true≢false (sym h)),
      λ all.
          let here = each_one P chunks last c.chunk-item.result c.loop-chunk.chunk-index c.loop-chunk-test.true c.chunk-item.is (subst (λ (ss : List Slot). All P ss) (sym whole) all) in
          sym c.if-not-chunk_in_range.true ∙ c.chunk_in_range.ensures.1 here,
    )

pub returns : goal.returns
returns g c =
    let P = λ (s : Slot). IsCodeBelow c.args.n s in
    let chunks = c.chunks.result.0.now in
    let last = c.chunks.result.1.now in
    let whole : all_slots chunks last ≡ c.args.codes.now.slots = ap (λ (v : ColumnValue). v.slots) (sym c.chunks.ensures) in (
      λ h. subst (λ (ss : List Slot). All P ss) whole (each_all P chunks last c.loop-chunk.chunk-index c.loop-chunk-test.false c.loop-chunk.invariant (c.chunk_in_range-2.ensures.0 h)),
      λ all. c.chunk_in_range-2.ensures.1 (each_last P chunks last (subst (λ (ss : List Slot). All P ss) (sym whole) all)),
    )
