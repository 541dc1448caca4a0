use Rattle.std.proofs.Common.{◌≡◌, ◌∙◌, List, ℕ, ap, sym, subst}
use Rattle.std.specs.List.{All}
use Rattle.gb_defs.specs.Column.{ColumnValue}
use Rattle.gb_defs.specs.Slot.{Slot}
use Rattle.gb_cols.specs.Codes.{HasMarked, IsCodeBelow}
use Rattle.gb_cols.proofs.ChunkedLemmas.{all_slots, each_last, each_one, front_all, front_more}
use Rattle.gb_cols.proofs.CodeLemmas.{marked_more}
use Rattle.gb_cols.proofs.codes.mark_all.Goals as goal

pub mark_codes-requires : goal.mark_codes-requires
mark_codes-requires g c =
    let P = λ (s : Slot). IsCodeBelow c.args.n s in
    let chunks = c.chunks.result.0.now in
    let last = c.chunks.result.1.now in
    let whole : all_slots chunks last ≡ c.args.codes.now.slots = ap (λ (v : ColumnValue). v.slots) (sym c.chunks.ensures) in
    each_one P chunks last c.chunk-item.result c.loop-chunk.chunk-index c.loop-chunk-test.true c.chunk-item.is (subst (λ (ss : List Slot). All P ss) (sym whole) c.requires)

pub mark_codes-requires-2 : goal.mark_codes-requires-2
mark_codes-requires-2 g c =
    let P = λ (s : Slot). IsCodeBelow c.args.n s in
    let earlier = c.chunks.result.0.now in
    let last = c.chunks.result.1.now in
    let whole : all_slots earlier last ≡ c.args.codes.now.slots = ap (λ (v : ColumnValue). v.slots) (sym c.chunks.ensures) in
    each_last P earlier last (subst (λ (ss : List Slot). All P ss) (sym whole) c.requires)

pub loop-chunk-preserved : goal.loop-chunk-preserved
loop-chunk-preserved g c =
    let chunks = c.chunks.result.0.now in
    let marks = c.mark_codes.new.marks in
    subst (λ (ss : List Slot). HasMarked c.args.first ss c.args.marks.now marks) (sym (front_more chunks c.chunk-item.result c.loop-chunk.chunk-index c.loop-chunk-test.true c.chunk-item.is))
    (marked_more c.loop-chunk.invariant c.chunk-item.result marks c.mark_codes.ensures)

pub returns : goal.returns
returns g c =
    let chunks = c.chunks.result.0.now in
    let last = c.chunks.result.1.now in
    let marks = c.mark_codes-2.new.marks in
    let whole = front_all chunks last c.loop-chunk.chunk-index c.loop-chunk-test.false ∙ ap (λ (v : ColumnValue). v.slots) (sym c.chunks.ensures) in
    subst (λ (ss : List Slot). HasMarked c.args.first ss c.args.marks.now marks) whole (marked_more c.loop-chunk.invariant last marks c.mark_codes-2.ensures)
