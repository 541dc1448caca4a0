use Rattle.std.proofs.Common.{◌≡◌, ◌∙◌, ℕ, List, ap, arith, length, map, refl, sym}
use Rattle.std.proofs.lemmas.List.FromFn.{fill_by_all}
use Rattle.std.proofs.lemmas.Result.{IfOk-weaker}
use Rattle.gb_defs.specs.Classes.{rows_below}
use Rattle.gb_defs.specs.Column.{ColumnValue, content, rechunked, taken}
use Rattle.gb_defs.specs.Slot.{Nil, Slot, slot_at}
use Rattle.gb_series.specs.Series.{value_of}
use Rattle.gb_frame.proofs.columns.key_at.Goals as goal

-- all rows are what the column has
all_taken : (c : ColumnValue) (rows : List ℕ) → rows ≡ rows_below (length rows) → length rows ≡ length c.slots → content (rechunked c) ≡ content (taken rows c)
all_taken c rows all many =
    let slots : c.slots ≡ map (slot_at c.slots) (rows_below (length c.slots)) = fill_by_all (slot_at c.slots) c.slots (length c.slots) Nil refl (λ k lt. refl) in
    ap (λ (ss : List Slot). content (record c { slots = ss })) (slots ∙ ap (λ n. map (slot_at c.slots) (rows_below n)) (sym many) ∙ ap (map (slot_at c.slots)) (sym all))

pub returns-then-rows-len-clause-ok : goal.returns-then-rows-len-clause-ok
returns-then-rows-len-clause-ok c =
    let key = value_of c.args.key.now in
    let rows = c.args.rows.now in
    let all : rows ≡ rows_below (length rows) = rw c.if-all.true at c.requires.all in
    let many : length rows ≡ length key.slots = omega arith in
    IfOk-weaker c.rechunk.result _ _ (λ made h. ap content h ∙ all_taken key rows all many) c.rechunk.ensures.ok
