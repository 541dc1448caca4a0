use Rattle.std.proofs.Common.{◌∙◌, ◌<◌, ◌≤◌, pos, FitsSigned, false, ap, arith, length, subst, sym}
use Rattle.std.specs.Int.{w64}
use Rattle.std.proofs.lemmas.Int.{to_z-of_z}
use Rattle.gb_defs.specs.Column.{ColumnValue}
use Rattle.gb_defs.specs.Slices.{between}
use Rattle.gb_defs.specs.Slot.{Items, items_of, slot_at}
use Rattle.gb_series.specs.Series.{value_of}
use Rattle.gb_values.specs.Array.{start_of}
use Rattle.gb_series.proofs.ListLemmas.{absent_slot, flag_inside, present_slot, row_high, row_inside, row_low, row_shown}
use Rattle.gb_series.proofs.RowLemmas.{get_or_any}
use Rattle.gb_series.proofs.nested.list.ListChunked.get_as_series.Goals as goal

pub index-requires : goal.index-requires
index-requires c =
    let own = c.self.inside in
    let row = c.args.row in
    let inside = subst (λ (v : ColumnValue). row < length v.slots) (sym c.self.view_is) c.requires in
    omega (arith, flag_inside own.rows own.present.items own.ends.items (value_of own.items) c.self.invariant row inside, own.present.ok.0)

pub returns-then-not-index-clause-slot : goal.returns-then-not-index-clause-slot
returns-then-not-index-clause-slot c =
    let own = c.self.inside in
    let row = c.args.row in
    let inside = subst (λ (v : ColumnValue). row < length v.slots) (sym c.self.view_is) c.requires in
    let flag_lt = flag_inside own.rows own.present.items own.ends.items (value_of own.items) c.self.invariant row inside in
    let flag = sym (c.index.ensures ∙ get_or_any own.present.items row _ false flag_lt) ∙ c.if-not-index.true in
    sym (absent_slot own.rows own.present.items own.ends.items (value_of own.items) c.self.invariant row flag) ∙ ap (λ v. slot_at v.slots row) c.self.view_is

pub start_at-start-requires : goal.start_at-start-requires
start_at-start-requires c =
    let own = c.self.inside in
    let row = c.args.row in
    let inside = subst (λ (v : ColumnValue). row < length v.slots) (sym c.self.view_is) c.requires in
    let lt = row_inside own.rows own.present.items own.ends.items (value_of own.items) c.self.invariant row inside in
    omega (arith, lt, ap length c.deref.ensures.value)

pub overflow_cast-start : goal.overflow_cast-start
overflow_cast-start c =
    let own = c.self.inside in
    let row = c.args.row in
    let inside = subst (λ (v : ColumnValue). row < length v.slots) (sym c.self.view_is) c.requires in
    let low = row_low own.rows own.present.items own.ends.items (value_of own.items) c.self.invariant row inside in
    let high = row_high own.rows own.present.items own.ends.items (value_of own.items) c.self.invariant row inside in
    let start = c.start_at-start.ensures ∙ ap (λ es. start_of 0 es row) c.deref.ensures.value in
    omega (arith, low, high, start, c.len.ensures.small, c.len.ensures.value)

pub index-requires-2 : goal.index-requires-2
index-requires-2 c =
    let own = c.self.inside in
    let row = c.args.row in
    let inside = subst (λ (v : ColumnValue). row < length v.slots) (sym c.self.view_is) c.requires in
    omega (arith, row_inside own.rows own.present.items own.ends.items (value_of own.items) c.self.invariant row inside, own.ends.ok.0)

pub overflow_sub-index : goal.overflow_sub-index
overflow_sub-index c =
    let own = c.self.inside in
    let row = c.args.row in
    let inside = subst (λ (v : ColumnValue). row < length v.slots) (sym c.self.view_is) c.requires in
    let lt = row_inside own.rows own.present.items own.ends.items (value_of own.items) c.self.invariant row inside in
    let low = row_low own.rows own.present.items own.ends.items (value_of own.items) c.self.invariant row inside in
    let start = c.start_at-start.ensures ∙ ap (λ es. start_of 0 es row) c.deref.ensures.value in
    let end = c.index-2.ensures ∙ get_or_any own.ends.items row _ 0 lt in
    omega (arith, low, start, end)

pub returns-clause-slot : goal.returns-clause-slot
returns-clause-slot c =
    let own = c.self.inside in
    let row = c.args.row in
    let inside = subst (λ (v : ColumnValue). row < length v.slots) (sym c.self.view_is) c.requires in
    let items = value_of own.items in
    let lt = row_inside own.rows own.present.items own.ends.items items c.self.invariant row inside in
    let flag_lt = flag_inside own.rows own.present.items own.ends.items items c.self.invariant row inside in
    let low = row_low own.rows own.present.items own.ends.items items c.self.invariant row inside in
    let high = row_high own.rows own.present.items own.ends.items items c.self.invariant row inside in
    let start = c.start_at-start.ensures ∙ ap (λ es. start_of 0 es row) c.deref.ensures.value in
    let end = c.index-2.ensures ∙ get_or_any own.ends.items row _ 0 lt in
    let fits : FitsSigned w64 (pos c.start_at-start.result) = omega (arith, low, high, start, c.len.ensures.small, c.len.ensures.value) in
    let rising : c.start_at-start.result ≤ c.index-2.result.now = omega (arith, low, start, end) in
    let few : c.index-2.result.now ≤ length items.slots = omega (arith, high, end) in
    let flag = sym (c.index.ensures ∙ get_or_any own.present.items row _ false flag_lt) ∙ c.if-not-index.false in
    let made = ap (λ v. v.slots) (rw (to_z-of_z w64 (pos c.start_at-start.result) fits) at c.in_ok-slots.ensures.ok) in
    let piece = made ∙ row_shown own.rows own.present.items own.ends.items items c.self.invariant _ _ rising few
    ∙ ap (λ s. between s c.index-2.result.now items.slots) start ∙ ap (λ e. between (start_of 0 own.ends.items row) e items.slots) end in
    ap (λ ss. Items (items_of ss)) piece ∙ sym (present_slot own.rows own.present.items own.ends.items items c.self.invariant row inside flag)
    ∙ ap (λ v. slot_at v.slots row) c.self.view_is
