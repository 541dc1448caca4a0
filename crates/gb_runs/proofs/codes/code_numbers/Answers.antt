use Rattle.std.proofs.Common.{◌≡◌, ◌∙◌, ◌++◌, List, ap, subst, sym}
use Rattle.std.specs.List.{All}
use Rattle.std.proofs.lemmas.List.{map-append}
use Rattle.gb_defs.specs.Column.{ColumnValue}
use Rattle.gb_defs.specs.Slot.{Slot}
use Rattle.gb_cols.proofs.ChunkedLemmas.{all_slots, each_last, each_one, front_all, front_more}
use Rattle.gb_cols.specs.Codes.{IsCodeBelow}
use Rattle.gb_runs.specs.Codes.{number_of, numbers_of}
use Rattle.gb_runs.proofs.codes.code_numbers.Goals as goal

pub push_numbers-requires-clause-codes : goal.push_numbers-requires-clause-codes
push_numbers-requires-clause-codes g c =
    let earlier = c.chunks.result.0.now in
    let last = c.chunks.result.1.now in
    let whole : all_slots earlier last ≡ c.args.column.now.slots = ap (λ (v : ColumnValue). v.slots) (sym c.chunks.ensures) in
    each_one (IsCodeBelow c.args.count) earlier last c.chunk-item.result c.loop-chunk.chunk-index c.loop-chunk-test.true c.chunk-item.is (subst (λ (ss : List Slot). All (IsCodeBelow c.args.count) ss) (sym whole) c.requires.codes)

pub push_numbers-requires-2-clause-codes : goal.push_numbers-requires-2-clause-codes
push_numbers-requires-2-clause-codes g c =
    let earlier = c.chunks.result.0.now in
    let last = c.chunks.result.1.now in
    let whole : all_slots earlier last ≡ c.args.column.now.slots = ap (λ (v : ColumnValue). v.slots) (sym c.chunks.ensures) in
    each_last (IsCodeBelow c.args.count) earlier last (subst (λ (ss : List Slot). All (IsCodeBelow c.args.count) ss) (sym whole) c.requires.codes)

pub loop-chunk-preserved : goal.loop-chunk-preserved
loop-chunk-preserved g c =
    let earlier = c.chunks.result.0.now in
    let chunk = c.chunk-item.result in
    let number = number_of c.args.count in
    c.in_ok-push_numbers.ensures ∙ ap (λ ns. ns ++ numbers_of c.args.count chunk) c.loop-chunk.invariant
    ∙ sym (ap (numbers_of c.args.count) (front_more earlier chunk c.loop-chunk.chunk-index c.loop-chunk-test.true c.chunk-item.is) ∙ map-append number _ chunk)

pub returns : goal.returns
returns g c =
    let earlier = c.chunks.result.0.now in
    let last = c.chunks.result.1.now in
    let number = number_of c.args.count in
    let whole = front_all earlier last c.loop-chunk.chunk-index c.loop-chunk-test.false ∙ ap (λ (v : ColumnValue). v.slots) (sym c.chunks.ensures) in
    c.in_ok-push_numbers-2.ensures ∙ ap (λ ns. ns ++ numbers_of c.args.count last) c.loop-chunk.invariant
    ∙ sym (map-append number _ last) ∙ ap (numbers_of c.args.count) whole
