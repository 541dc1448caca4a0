use Rattle.std.proofs.Common.{◌∷◌, [], ◌++◌}
use Rattle.gb_defs.specs.RowBytes.{ended_bytes}
use Rattle.gb_rows.proofs.TakenLemmas.{appended_more, appended_next}
use Rattle.gb_rows.proofs.row_buffer.RowBuffer.append_ended.Goals as goal

pub loop-front-preserved : goal.loop-front-preserved
loop-front-preserved c =
    let front = c.in-Some.front.now ++ 0 ∷ 255 ∷ [] in
    record {
      next = appended_next front c.loop-front.self c.append_both.new.self c.loop-front.invariant.next c.in_ok-append_both.ensures;
      rest = λ after h. c.loop-front.invariant.rest after (rw c.in-Some.ensures.some.ended (appended_more front (ended_bytes c.in-Some.back.now) c.loop-front.self c.append_both.new.self after c.loop-front.invariant.next c.in_ok-append_both.ensures h));
    }

pub returns : goal.returns
returns c = c.loop-front.invariant.rest c.append_both-2.new.self (rw c.in_default.ensures.none c.in_ok-append_both-2.ensures)
