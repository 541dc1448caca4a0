use Rattle.std.proofs.Common.{ℕ, ◌+◌, ◌∙◌, List, ap, sym, subst, length, arith}
use Rattle.gb_defs.specs.Column.{ColumnValue}
use Rattle.gb_defs.specs.Slot.{Slot}
use Rattle.gb_cols.proofs.ChunkedLemmas.{before_few, before_more, front_all, front_more, front_slots}
use Rattle.gb_logical.specs.CategoricalBuilder.{AreCoded}
use Rattle.gb_logical.proofs.CodingLemmas.{after_few, coded_more}
use Rattle.gb_logical.proofs.categorical.codes.code_column.Goals as goal

pub code_texts-requires : goal.code_texts-requires
code_texts-requires c =
    let chunks = c.chunks.result.0.now in
    let last = c.chunks.result.1.now in
    let i = c.loop-chunk.chunk-index in
    let whole = ap (λ (v : ColumnValue). length v.slots) (sym c.chunks.ensures) in
    let more = before_more chunks c.chunk-item.result i c.loop-chunk-test.true c.chunk-item.is in
    omega (arith, c.requires, whole, more, before_few chunks last (i + 1), ap length c.loop-chunk.invariant.texts_are, after_few c.args.known.now (front_slots chunks i))

pub code_texts-requires-2 : goal.code_texts-requires-2
code_texts-requires-2 c =
    let chunks = c.chunks.result.0.now in
    let last = c.chunks.result.1.now in
    let i = c.loop-chunk.chunk-index in
    let whole = ap (λ (v : ColumnValue). length v.slots) (sym c.chunks.ensures) in
    omega (arith, c.requires, whole, before_few chunks last i, ap length c.loop-chunk.invariant.texts_are, after_few c.args.known.now (front_slots chunks i))

pub loop-chunk-preserved : goal.loop-chunk-preserved
loop-chunk-preserved c =
    let chunks = c.chunks.result.0.now in
    let chunk = c.chunk-item.result in
    let known = c.code_texts.new.known in
    let codes = c.code_texts.new.codes in
    subst (λ (ss : List Slot). AreCoded c.args.known.now c.args.codes.now ss known codes) (sym (front_more chunks chunk c.loop-chunk.chunk-index c.loop-chunk-test.true c.chunk-item.is))
    (coded_more c.loop-chunk.invariant chunk known codes c.in_ok-code_texts.ensures.known c.in_ok-code_texts.ensures.codes)

-- all texts have their codes
coded : (c : goal.In_ok-code_texts-2) → AreCoded c.args.known.now c.args.codes.now c.args.texts.now.slots c.code_texts-2.new.known c.code_texts-2.new.codes
coded c =
    let chunks = c.chunks.result.0.now in
    let last = c.chunks.result.1.now in
    let known = c.code_texts-2.new.known in
    let codes = c.code_texts-2.new.codes in
    let whole = front_all chunks last c.loop-chunk.chunk-index c.loop-chunk-test.false ∙ ap (λ (v : ColumnValue). v.slots) (sym c.chunks.ensures) in
    subst (λ (ss : List Slot). AreCoded c.args.known.now c.args.codes.now ss known codes) whole
    (coded_more c.loop-chunk.invariant last known codes c.in_ok-code_texts-2.ensures.known c.in_ok-code_texts-2.ensures.codes)

pub returns-clause-known : goal.returns-clause-known
returns-clause-known c = (coded c).texts_are

pub returns-clause-codes : goal.returns-clause-codes
returns-clause-codes c = (coded c).codes_are
