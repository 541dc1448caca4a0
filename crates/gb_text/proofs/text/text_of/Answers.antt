use Rattle.std.proofs.Common.{◌∙◌, ◌++◌, ◌∷◌, [], List, ℕ, Vec, Global, ap, append-nil, arith, eqb-true, length, sym}
use Rattle.gb_flat.specs.Buffers.{joined}
use Rattle.gb_text.proofs.TextLemmas.{columns_aligned, no_columns, some_columns, text_is}
use Rattle.gb_text.proofs.text.text_of.Goals as goal

pub returns-then-is_empty-clause-ok : goal.returns-then-is_empty-clause-ok
returns-then-is_empty-clause-ok g c =
    let columns = c.get_columns-columns.result.now in
    ap joined c.new.ensures.items ∙ sym (no_columns columns c.args.frame.now c.args.null_word.now c.get_columns-columns.ensures (eqb-true (length columns) 0 (sym c.if-is_empty.ensures)))

pub text_from_header-requires-clause-rows : goal.text_from_header-requires-clause-rows
text_from_header-requires-clause-rows g c =
    let columns = c.get_columns-columns.result.now in
    let aligned = columns_aligned c.height-height.result columns (rw (c.get_columns-columns.ensures, c.height-height.ensures.value) c.height-height.ensures.frame.aligned) in
    λ k d lt. let long = aligned k d lt in omega (arith, long)

pub returns-then-workers-lt2-clause-ok : goal.returns-then-workers-lt2-clause-ok
returns-then-workers-lt2-clause-ok g c =
    let columns = c.get_columns-columns.result.now in
    let text = text_is columns c.args.frame.now c.args.null_word.now c.get_columns-columns.ensures (some_columns (length columns) c.if-is_empty.ensures) in
    ap joined (c.in_ok-push.ensures.items ∙ ap (λ (ps : List (Vec ℕ Global)). ps ++ c.in_ok-text_from_header.field-0 ∷ []) c.new-parts.ensures.items)
    ∙ append-nil c.in_ok-text_from_header.field-0.items ∙ c.in_ok-text_from_header.ensures.ok ∙ sym (rw (← c.height-height.ensures.value) at text)

pub text_by_workers-requires-clause-high : goal.text_by_workers-requires-clause-high
text_by_workers-requires-clause-high g c κs within =
    columns_aligned c.height-height.result c.get_columns-columns.result.now (rw (c.get_columns-columns.ensures, c.height-height.ensures.value) c.height-height.ensures.frame.aligned)

pub returns-clause-ok : goal.returns-clause-ok
returns-clause-ok g c =
    let columns = c.get_columns-columns.result.now in
    let text = text_is columns c.args.frame.now c.args.null_word.now c.get_columns-columns.ensures (some_columns (length columns) c.if-is_empty.ensures) in
    c.in_ok-parts.ensures.ok ∙ sym (rw (← c.height-height.ensures.value) at text)
