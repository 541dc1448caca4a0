use Rattle.std.proofs.Common.{◌≡◌, ◌+◌, [], ap, arith, length}
use Rattle.std.specs.Vec.Iter.{into_iter_items}
use Rattle.std.proofs.lemmas.List.{nil_from_length}
use Rattle.std.proofs.lemmas.Result.{err_from_is_err_and}
use Rattle.gb_frame.proofs.RoundLemmas.{all_pushed, next_pushed, next_refused, none_pushed}
use Rattle.gb_frame.proofs.columns.push_aggregates.Goals as goal

pub loop-column-init : goal.loop-column-init
loop-column-init g c =
    let found = c.in_ok-found.found in
    let gives = c.into_iter-column-iterator.ensures.into_iter_gives in
    let many : length found.items ≡ c.args.range.1 = omega (arith, c.in_ok-found.ensures.len, found.ok.0) in
    record {
      pushed = rw gives.0 (none_pushed c.args.frame.now c.args.over.now c.args.aggs.now c.args.range.0 c.args.range.1 c.args.columns.now.items found.items c.requires.inside many
          (λ k d lt. (c.in_ok-found.ensures.each k d (omega (arith, lt, many))).1.met) c.requires.before);
      left = omega (arith, gives.1, ap length gives.0, found.ok.0);
    }

pub returns-in_err-made-clause-err : goal.returns-in_err-made-clause-err
returns-in_err-made-clause-err g c =
    let to = c.args.range.0 + c.args.range.1 in
    let s = rw c.in-Some.ensures.steps.0 at c.loop-column.invariant.pushed in
    let p = err_from_is_err_and c.from_residual-in_err-made.result c.from_residual-in_err-made.ensures.1 in
    rw (p.1, p.2) (next_refused c.args.frame.now c.args.over.now c.args.aggs.now to c.loop-column.columns.items c.in-Some.column (into_iter_items c.next.new.self) s c.in_err-made.field-0.0 c.in_err-made.was)

pub loop-column-preserved : goal.loop-column-preserved
loop-column-preserved g c =
    let to = c.args.range.0 + c.args.range.1 in
    let steps = c.in-Some.ensures.steps in
    let s = rw steps.0 at c.loop-column.invariant.pushed in
    record {
      pushed = next_pushed c.args.frame.now c.args.over.now c.args.aggs.now to c.loop-column.columns.items c.in-Some.column (into_iter_items c.next.new.self) s
          c.in_ok-made.made c.in_ok-made.was c.push.new.self.items c.in_ok-push.ensures.items;
      left = omega (arith, steps.1, c.loop-column.invariant.left, ap length steps.0);
    }

pub returns-clause-ok : goal.returns-clause-ok
returns-clause-ok g c =
    let rest = into_iter_items c.loop-column.column-iterator in
    let none : rest ≡ [] = nil_from_length rest (omega (arith, c.in-None.ensures.steps.0, c.loop-column.invariant.left)) in
    all_pushed c.args.frame.now c.args.over.now c.args.aggs.now (c.args.range.0 + c.args.range.1) c.loop-column.columns.items rest c.loop-column.invariant.pushed none
