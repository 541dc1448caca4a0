use Rattle.std.proofs.Common.{◌∙◌, length, ap, arith, Ok}
use Rattle.gb_text.proofs.PartsLemmas.{before_alike, before_few, columns_few, so_far_more}
use Rattle.gb_text.proofs.table.lines.Lines.read_parts.Goals as goal

pub with_columns-requires-clause-alike : goal.with_columns-requires-clause-alike
with_columns-requires-clause-alike g c =
    let s = rw c.in-Some.ensures.steps.0 at c.loop-part.invariant.0 in
    before_alike c.args.self.now c.args.cuts.now c.loop-part.all c.in-Some.part _ s c.in-Some-2.columns (c.in_ok-columns.was ∙ ap (λ found. Ok found) c.in-Some-2.is)

pub with_columns-requires-clause-few : goal.with_columns-requires-clause-few
with_columns-requires-clause-few g c =
    let s = rw c.in-Some.ensures.steps.0 at c.loop-part.invariant.0 in
    before_few c.args.self.now c.args.cuts.now c.loop-part.all c.in-Some.part _ s c.in-Some-2.columns (c.in_ok-columns.was ∙ ap (λ found. Ok found) c.in-Some-2.is) c.requires.few

pub with_columns-requires-clause-few_more : goal.with_columns-requires-clause-few_more
with_columns-requires-clause-few_more g c =
    let s = rw c.in-Some.ensures.steps.0 at c.loop-part.invariant.0 in
    columns_few c.args.self.now c.args.cuts.now c.loop-part.all c.in-Some.part _ s c.in-Some-2.columns (c.in_ok-columns.was ∙ ap (λ found. Ok found) c.in-Some-2.is) c.requires.few

pub loop-part-preserved : goal.loop-part-preserved
loop-part-preserved g c =
    let steps = c.in-Some.ensures.steps in
    let s = rw steps.0 at c.loop-part.invariant.0 in
    let short = ap length steps.0 in (
      so_far_more c.args.self.now c.args.cuts.now c.loop-part.all c.in-Some.part _ s c.in-Some-2.columns (c.in_ok-columns.was ∙ ap (λ found. Ok found) c.in-Some-2.is)
          c.in_ok-with_columns.field-0 c.in_ok-with_columns.ensures,
      omega (arith, steps.1, c.loop-part.invariant.1, short),
    )
