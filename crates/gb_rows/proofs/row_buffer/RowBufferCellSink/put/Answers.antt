use Rattle.std.proofs.Common.{◌∙◌, sym}
use Rattle.gb_rows.proofs.TakenLemmas.{appended_next, has_next, taken_one, taken_past}
use Rattle.gb_rows.proofs.row_buffer.RowBufferCellSink.put.Goals as goal

pub returns-then-not-has_next : goal.returns-then-not-has_next
returns-then-not-has_next c = taken_past c.args.cell.now c.args.self.now (sym c.has_next.ensures ∙ c.if-not-has_next.true)

pub append-requires : goal.append-requires
append-requires c = has_next c.args.self.now (sym c.has_next.ensures ∙ c.if-not-has_next.false)

pub advance-requires : goal.advance-requires
advance-requires c =
    appended_next c.args.cell.now c.args.self.now c.append.new.self (has_next c.args.self.now (sym c.has_next.ensures ∙ c.if-not-has_next.false)) c.in_ok-append.ensures

pub returns : goal.returns
returns c =
    let lt = has_next c.args.self.now (sym c.has_next.ensures ∙ c.if-not-has_next.false) in
    rw c.advance.ensures (taken_one c.args.cell.now c.args.self.now c.append.new.self lt c.in_ok-append.ensures)
