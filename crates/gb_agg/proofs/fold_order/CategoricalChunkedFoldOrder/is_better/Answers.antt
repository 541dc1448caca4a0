use Rattle.std.proofs.Common.{◌≡◌, ◌∙◌, ◌&&◌, List, ap, false, not, subst, sym}
use Rattle.gb_defs.specs.Column.{ColumnValue}
use Rattle.gb_defs.specs.ColumnType.{ColumnType, uint32}
use Rattle.gb_defs.specs.Slot.{Slot, slot_at}
use Rattle.gb_logical.specs.Categorical.{is_enum_type, is_lexical_type}
use Rattle.gb_agg.specs.Extremes.{FoldsAsCompared, compares_better}
use Rattle.gb_agg.proofs.ExtremeLemmas.{better_as, code_order, lexical_type, text_folds}
use Rattle.gb_agg.proofs.fold_order.CategoricalChunkedFoldOrder.is_better.Goals as goal

pub returns-then-is_by_text : goal.returns-then-is_by_text
returns-then-is_by_text c =
    let column = c.args.self.now in
    let typed = lexical_type column.dtype _ c.get_rev_map.ensures (sym c.is_by_text.ensures ∙ c.if-is_by_text.true) in
    let folds = subst FoldsAsCompared (sym typed) (text_folds _) in
    c.compares_better.ensures ∙ better_as column.dtype column.dtype folds c.args.greatest (slot_at column.slots c.args.row) (slot_at column.slots c.args.other)

pub returns-else-is_by_text : goal.returns-else-is_by_text
returns-else-is_by_text c =
    let column = c.args.self.now in
    let codes = c.physical.result.now in
    let g = c.args.greatest in
    let a = slot_at column.slots c.args.row in
    let b = slot_at column.slots c.args.other in
    let other : is_lexical_type column.dtype && not (is_enum_type column.dtype) ≡ false = sym c.is_by_text.ensures ∙ c.if-is_by_text.false in
    let order = code_order column.dtype _ c.get_rev_map.ensures other in
    let same : codes.slots ≡ column.slots = sym (ap (λ (v : ColumnValue). v.slots) c.physical.ensures.column) in
    c.compares_better-else-is_by_text.ensures
    ∙ ap (λ (t : ColumnType). compares_better g t (slot_at codes.slots c.args.row) (slot_at codes.slots c.args.other)) c.physical.ensures.typed
    ∙ ap (λ (ss : List Slot). compares_better g uint32 (slot_at ss c.args.row) (slot_at ss c.args.other)) same
    ∙ better_as column.dtype uint32 order g a b
