use Rattle.std.proofs.Common.{◌∙◌, ◌++◌, ◌∷◌, [], List, ℕ, Vec, Global, ap, ap₂, append-nil, arith}
use Rattle.gb_defs.specs.Text.{header_line, row_line}
use Rattle.gb_flat.specs.Buffers.{joined}
use Rattle.gb_text.specs.Text.{contents_of}
use Rattle.gb_text.proofs.TextLemmas.{texts_joined}
use Rattle.gb_text.proofs.text.text_by_workers.Goals as goal

pub returns-clause-ok : goal.returns-clause-ok
returns-clause-ok g c =
    let contents = contents_of c.args.columns.now in
    let rows = c.in_ok-rows.rows.items in
    let head = c.in_ok-text_from_header.field-0 in
    let parts = c.in_ok-append.ensures.items ∙ ap (λ (ps : List (Vec ℕ Global)). ps ++ rows) (c.in_ok-push.ensures.items ∙ ap (λ (ps : List (Vec ℕ Global)). ps ++ head ∷ []) c.in_ok-parts.ensures.items) in
    let header = c.in_ok-text_from_header.ensures.ok ∙ append-nil (header_line contents) in
    let body = texts_joined (λ (t : Vec ℕ Global). t.items) (row_line c.args.null_word.now contents) c.args.height c.args.workers rows (omega (arith, c.requires.some)) c.in_ok-rows.ensures.len
    (λ k d lt. (c.in_ok-rows.ensures.each k d lt).1.0) in
    ap joined parts ∙ ap₂ (λ (a b : List ℕ). a ++ b) header body
