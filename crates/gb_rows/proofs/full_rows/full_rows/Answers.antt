use Rattle.std.proofs.Common.{◌≤◌, ◌<◌, ◌≡◌, ◌∙◌, length, map, ap, arith, sym}
use Rattle.gb_defs.specs.Slices.{between}
use Rattle.gb_rows.specs.Cells.{still_full}
use Rattle.gb_rows.specs.Lent.{lent_cells}
use Rattle.gb_rows.specs.declared.full_rows.FullRows.{FullRows}
use Rattle.gb_rows.specs.Zipped.{zip_onto}
use Rattle.gb_rows.proofs.LaidLemmas.{laid_done, laid_full, laid_more, none_null, zipped_all}
use Rattle.gb_rows.proofs.full_rows.full_rows.Goals.{then-has_nulls+in_ok-put_cells, else-has_nulls}
use Rattle.gb_rows.proofs.full_rows.full_rows.Goals as goal

pub loop-key-preserved : goal.loop-key-preserved
loop-key-preserved c =
    let keys = c.args.keys.now in
    let loop = c.loop-key in
    let key = c.key-item.result in
    let some = between c.args.start c.args.end (lent_cells key) in
    let lt : loop.key-index < length keys = omega (arith, c.loop-key-test.true, loop.auto.key-index-end) in
    let new : c.if-has_nulls.rows.full.items ≡ zip_onto still_full some loop.rows.full.items = elim c.if-has_nulls.branch [
      | then-has_nulls+in_ok-put_cells w ↦
          let from = w.rewind.new.self in
          let to = w.put_cells.new.sink in
          ap (λ (v : FullRows). v.full.items) w.rows-is
          ∙ zipped_all still_full some from.full.items from.next to.full.items to.next w.rewind.ensures.first w.in_ok-put_cells.ensures
          ∙ ap (zip_onto still_full some) w.rewind.ensures.rows
      | else-has_nulls w ↦
          ap (λ (v : FullRows). v.full.items) w.rows-is ∙ none_null c.args.start c.args.end (lent_cells key) loop.rows.full.items (sym c.has_nulls.ensures ∙ w.if-has_nulls.false)
    ] in
    laid_more still_full lent_cells c.args.start c.args.end keys loop.key-index key loop.rows.full.items c.if-has_nulls.rows.full.items lt c.key-item.is new ∙ loop.invariant

pub returns : goal.returns
returns c =
    let keys = c.args.keys.now in
    let loop = c.loop-key in
    let done : length keys ≤ loop.key-index = omega (arith, c.loop-key-test.false, loop.auto.key-index-end) in
    c.into_flags.ensures
    ∙ laid_done still_full lent_cells c.args.start c.args.end keys loop.key-index loop.rows.full.items _ done loop.invariant
    ∙ laid_full (map lent_cells keys) c.args.start c.args.end c.in_ok-rows.rows.full.items c.requires.order c.requires.long c.in_ok-rows.ensures
