use Rattle.std.proofs.Common.{◌++◌, [], ◌<◌, length, ◌∙◌, ap, arith, sym}
use Rattle.gb_defs.specs.CellText.{cell_text}
use Rattle.gb_defs.specs.Slot.{slot_at}
use Rattle.gb_values.proofs.CellLemmas.{text_alike}
use Rattle.gb_values.proofs.FlagLemmas.{flagged_length, no_nil_at, null_at, valid_at}
use Rattle.gb_values.proofs.nullable.NullableArray.write_cell.Goals as goal

pub write_cell-requires : goal.write_cell-requires
write_cell-requires g c =
    omega (arith, ap length c.self.view_is, flagged_length (g.V.Values.slots c.self.inside.values) c.self.inside.validity.flags.items, c.requires)

pub returns-then-is_valid : goal.returns-then-is_valid
returns-then-is_valid g c =
    let t = g.V.Values.dtype in
    let word = c.args.null_word.now in
    let slots = g.V.Values.slots c.self.inside.values in
    let flags = c.self.inside.validity.flags.items in
    let lt : c.args.i < length slots = omega (arith, ap length c.self.view_is, flagged_length slots flags, c.requires) in
    let alike = text_alike [] word t (slot_at slots c.args.i) (no_nil_at slots c.args.i (g.met.V.Values.none_null c.self.inside.values) lt) in
    let here = valid_at slots flags c.args.i (sym c.is_valid.ensures ∙ c.if-is_valid.true) ∙ ap (λ ss. slot_at ss c.args.i) c.self.view_is in
    let cell = alike ∙ ap (cell_text word t) here in
    rw cell at c.write_cell.ensures

pub returns-in_ok-extend_from_slice : goal.returns-in_ok-extend_from_slice
returns-in_ok-extend_from_slice g c =
    let t = g.V.Values.dtype in
    let word = c.args.null_word.now in
    let slots = g.V.Values.slots c.self.inside.values in
    let flags = c.self.inside.validity.flags.items in
    let here = null_at slots flags c.args.i (sym c.is_valid.ensures ∙ c.if-is_valid.false) ∙ ap (λ ss. slot_at ss c.args.i) c.self.view_is in
    c.in_ok-extend_from_slice.ensures.items ∙ ap (λ text. c.args.to.now.items ++ text) (c.as_bytes.ensures.value ∙ ap (cell_text word t) here)
