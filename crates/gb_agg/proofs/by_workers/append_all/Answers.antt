use Rattle.std.proofs.Common.{◌≡◌, ◌∙◌, [], ap, arith, length, sym}
use Rattle.std.proofs.lemmas.List.{length-append, nil_from_length}
use Rattle.std.specs.Vec.Iter.{into_iter_items}
use Rattle.gb_series.specs.Series.{value_of}
use Rattle.gb_agg.specs.Folds.{joined_content, slots_of_parts}
use Rattle.gb_agg.proofs.GroupPartLemmas.{few_more, joined_more, none_joined, typed_more}
use Rattle.gb_agg.proofs.by_workers.append_all.Goals as goal

pub append-requires-clause-typed : goal.append-requires-clause-typed
append-requires-clause-typed c =
    let typed = rw c.in-Some.ensures.steps.0 at c.loop-other.invariant.typed in
    typed 0 c.in-Some.other (omega arith)

pub append-requires-clause-few : goal.append-requires-clause-few
append-requires-clause-few c =
    let rest = into_iter_items c.next.new.self in
    let few = rw c.in-Some.ensures.steps.0 at c.loop-other.invariant.few in
    omega (arith, few, length-append (value_of c.in-Some.other).slots (slots_of_parts rest))

pub loop-other-preserved : goal.loop-other-preserved
loop-other-preserved c =
    let at = c.loop-other in
    let steps = c.in-Some.ensures.steps in
    let rest = into_iter_items c.next.new.self in
    let all = value_of at.all in
    let after = value_of c.append.new.self in
    let joined = rw steps.0 at at.invariant.joined in
    let typed = rw steps.0 at at.invariant.typed in
    let few = rw steps.0 at at.invariant.few in
    record {
      joined = joined_more all c.in-Some.other rest after c.in_ok-append.ensures.ok ∙ joined;
      typed = typed_more all c.in-Some.other rest after c.in_ok-append.ensures.ok typed;
      few = omega (arith, few, few_more all c.in-Some.other rest after c.in_ok-append.ensures.ok);
      left = omega (arith, steps.1, at.invariant.left, ap length steps.0);
    }

pub returns-clause-ok : goal.returns-clause-ok
returns-clause-ok c =
    let all = value_of c.loop-other.all in
    let rest = into_iter_items c.loop-other.other-iterator in
    let none : rest ≡ [] = nil_from_length rest (omega (arith, c.in-None.ensures.steps.0, c.loop-other.invariant.left)) in
    none_joined all ∙ ap (joined_content all) (sym none) ∙ c.loop-other.invariant.joined
