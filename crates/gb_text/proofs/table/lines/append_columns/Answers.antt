use Rattle.std.proofs.Common.{◌≢◌, ◌<◌, suc, length, get_or, arith}
use Rattle.std.proofs.lemmas.List.{get_or_default, get_or-set_other, length-set}
use Rattle.gb_text.proofs.LinesLemmas.{joining_more}
use Rattle.gb_text.proofs.table.lines.append_columns.Goals as goal

pub append-requires-clause-few : goal.append-requires-clause-few
append-requires-clause-few c =
    let own = c.loop-column.invariant.few c.loop-column.column-index c.column-item.result (omega arith) (omega arith) in
    let others = rw c.in-Some.ensures.items at c.loop-column.invariant.few_more in
    (own, others 0 c.in-Some.other (omega arith))

pub loop-column-preserved : goal.loop-column-preserved
loop-column-preserved c =
    let s = c.loop-column.invariant in
    let now = c.loop-column.column-items in
    let i = c.loop-column.column-index in
    let column = get_or now i c.column-item.result in
    let new = c.append.new.self in
    let within : i < length now = omega arith in
    let others = rw c.in-Some.ensures.items at s.few_more in
    record {
      joining = joining_more c.args.columns.now.items c.args.others.items i now c.loop-column.others.rest.items s.joining column c.in-Some.other c.next.new.self.rest.items c.in-Some.ensures.items within
          (get_or_default now i c.column-item.result column within) new c.in_ok-append.ensures;
      few = λ k d low high.
          let other : k ≢ i = omega (arith, low) in
          let below : k < length now = omega (arith, high, length-set now i new) in
          rw (get_or-set_other now i k new d other) (s.few k d (omega (arith, low)) below);
      few_more = λ k d lt. others (suc k) d (omega (arith, lt));
    }
