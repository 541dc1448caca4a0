use Rattle.std.proofs.Common.{◌≡◌, ◌≤◌, ◌<◌, ◌+◌, ◌∙◌, map, length, get_or, set, sym, ap, subst, arith, refl}
use Rattle.std.proofs.lemmas.List.{get_or-map, length-map, length-set, map-set}
use Rattle.gb_defs.specs.Column.{ColumnValue, Frame}
use Rattle.gb_series.specs.Append.{CanUndo, CanUndoFrom, undone, undone_from}
use Rattle.gb_series.specs.Series.{value_of}
use Rattle.gb_series.specs.declared.series.Series.{Series}
use Rattle.gb_series.proofs.AppendLemmas.{fits_at, fits_long, fits_more, no_mark, undo_end, undo_more}
use Rattle.gb_series.proofs.append.undo_from.Goals as goal

pub loop-place-init : goal.loop-place-init
loop-place-init c =
    let columns = c.args.columns.now.items in
    record {
      long = refl;
      marked = omega (arith, fits_long c.args.start c.args.marks.now (map value_of columns) c.requires, length-map columns value_of);
      fits = c.requires;
      same = refl;
    }

pub undo-requires : goal.undo-requires
undo-requires c =
    let columns = c.loop-place.columns.items in
    let marks = c.args.marks.now in
    let at = c.loop-place.place in
    let column = c.index_mut.result.now in
    let within : at < length columns = omega (arith, c.loop-place-test.true, c.loop-place.invariant.long, c.len-place-end.ensures) in
    let read : get_or (map value_of columns) at (value_of column) ≡ value_of column =
    get_or-map value_of columns at column (value_of column) within ∙ ap (λ (s : Series). value_of s) (sym c.index_mut.ensures.value) in
    subst (λ (v : ColumnValue). CanUndo (get_or marks at no_mark) v) read
    (fits_at at marks (map value_of columns) no_mark (value_of column) c.loop-place.invariant.fits (omega (arith, within, length-map columns value_of)))

pub loop-place-preserved : goal.loop-place-preserved
loop-place-preserved c =
    let columns = c.loop-place.columns.items in
    let marks = c.args.marks.now in
    let at = c.loop-place.place in
    let column = c.index_mut.result.now in
    let frame = map value_of columns in
    let mark = get_or marks at no_mark in
    let within : at < length columns = omega (arith, c.loop-place-test.true, c.loop-place.invariant.long, c.len-place-end.ensures) in
    let read : get_or frame at (value_of column) ≡ value_of column =
    get_or-map value_of columns at column (value_of column) within ∙ ap (λ (s : Series). value_of s) (sym c.index_mut.ensures.value) in
    let back : value_of c.undo.new.column ≡ undone mark (get_or frame at (value_of column)) = c.undo.ensures ∙ ap (λ (v : ColumnValue). undone mark v) (sym read) in
    let wrote : map value_of (set columns at c.undo.new.column) ≡ set frame at (undone mark (get_or frame at (value_of column))) =
    map-set value_of columns at c.undo.new.column ∙ ap (λ (v : ColumnValue). set frame at v) back in
    record {
      long = length-set columns at c.undo.new.column ∙ c.loop-place.invariant.long;
      marked = c.loop-place.invariant.marked;
      fits = subst (λ (f : Frame). CanUndoFrom (at + 1) marks f) (sym wrote) (fits_more at marks frame (undone mark (get_or frame at (value_of column))) c.loop-place.invariant.fits);
      same =
          c.loop-place.invariant.same
          ∙ undo_more at marks frame no_mark (value_of column) c.loop-place.invariant.fits (omega (arith, within, length-map columns value_of))
          ∙ ap (λ (f : Frame). undone_from (at + 1) marks f) (sym wrote);
    }

pub returns : goal.returns
returns c =
    let columns = c.loop-place.columns.items in
    let le : length (map value_of columns) ≤ c.loop-place.place = omega (arith, c.loop-place-test.false, c.loop-place.invariant.long, c.len-place-end.ensures, length-map columns value_of) in
    sym (c.loop-place.invariant.same ∙ undo_end c.loop-place.place c.args.marks.now (map value_of columns) le)
