use Rattle.gb_rows.proofs.TakenLemmas.{appended_more, appended_next}
use Rattle.gb_rows.proofs.row_buffer.RowBuffer.append_both.Goals as goal

pub append-requires-2 : goal.append-requires-2
append-requires-2 c = appended_next c.args.part.now c.args.self.now c.append.new.self c.requires c.in_ok-append.ensures

pub returns : goal.returns
returns c = appended_more c.args.part.now c.args.more.now c.args.self.now c.append.new.self c.append-2.new.self c.requires c.in_ok-append.ensures c.in_ok-append-2.ensures
