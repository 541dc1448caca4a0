use Rattle.std.proofs.Common.{◌∙◌, ◌∷◌, [], sym}
use Rattle.gb_defs.specs.RowBytes.{ended_bytes}
use Rattle.gb_rows.specs.Cells.{bytes_cell}
use Rattle.gb_rows.proofs.TakenLemmas.{appended_more, appended_next, has_next, taken_one, taken_past}
use Rattle.gb_rows.proofs.row_buffer.RowBufferCellSink.put_bytes.Goals as goal

pub returns-then-not-has_next : goal.returns-then-not-has_next
returns-then-not-has_next c = taken_past (bytes_cell c.args.value.now) c.args.self.now (sym c.has_next.ensures ∙ c.if-not-has_next.true)

pub append-requires : goal.append-requires
append-requires c = has_next c.args.self.now (sym c.has_next.ensures ∙ c.if-not-has_next.false)

pub append_ended-requires : goal.append_ended-requires
append_ended-requires c =
    let lt = has_next c.args.self.now (sym c.has_next.ensures ∙ c.if-not-has_next.false) in
    appended_next (1 ∷ []) c.args.self.now c.append.new.self lt c.in_ok-append.ensures

pub advance-requires : goal.advance-requires
advance-requires c =
    let lt = has_next c.args.self.now (sym c.has_next.ensures ∙ c.if-not-has_next.false) in
    let then = appended_next (1 ∷ []) c.args.self.now c.append.new.self lt c.in_ok-append.ensures in
    appended_next (ended_bytes c.args.value.now) c.append.new.self c.append_ended.new.self then c.in_ok-append_ended.ensures

pub returns : goal.returns
returns c =
    let lt = has_next c.args.self.now (sym c.has_next.ensures ∙ c.if-not-has_next.false) in
    let whole = appended_more (1 ∷ []) (ended_bytes c.args.value.now) c.args.self.now c.append.new.self c.append_ended.new.self lt c.in_ok-append.ensures c.in_ok-append_ended.ensures in
    rw c.advance.ensures (taken_one (bytes_cell c.args.value.now) c.args.self.now c.append_ended.new.self lt whole)
