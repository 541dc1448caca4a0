use Rattle.std.proofs.Common.{◌≡◌, ◌∙◌, [], ap, arith, length, Ok}
use Rattle.std.specs.Vec.Iter.{into_iter_items}
use Rattle.std.proofs.lemmas.List.{nil_from_length}
use Rattle.gb_paths.proofs.PackLemmas.{all_packed, more_packed, next_many, none_packed}
use Rattle.gb_paths.proofs.number_several.pack_round.Goals as goal

pub loop-numbers-init : goal.loop-numbers-init
loop-numbers-init g c =
    let keys = c.args.keys.now in
    let found = c.in_ok-found.found in
    let gives = c.into_iter-numbers-iterator.ensures.into_iter_gives in
    let many : length found.items ≡ length keys = omega (arith, c.in_ok-found.ensures.len, found.ok.0) in
    record {
      packed = rw gives.0 (none_packed keys c.args.packed found.items c.requires.low many (λ k d lt. (c.in_ok-found.ensures.each k d (omega (arith, lt, many))).1.met));
      left = omega (arith, gives.1, ap length gives.0, found.ok.0);
    }

pub pack_more-requires-clause-long : goal.pack_more-requires-clause-long
pack_more-requires-clause-long g c κs within =
    let s = rw c.in-Some.ensures.steps.0 at c.loop-numbers.invariant.packed in
    next_many c.args.keys.now c.args.packed c.loop-numbers.packed c.in-Some.numbers (into_iter_items c.next.new.self) s c.requires.keyed c.in-Some-2.next (c.in_ok-next.was ∙ ap (λ found. Ok found) c.in-Some-2.is)

pub loop-numbers-preserved : goal.loop-numbers-preserved
loop-numbers-preserved g c =
    let steps = c.in-Some.ensures.steps in
    let s = rw steps.0 at c.loop-numbers.invariant.packed in
    let words = rw c.in-Some-3.is at c.in_ok-more.ensures.words in
    record {
      packed = more_packed c.args.keys.now c.args.packed c.loop-numbers.packed c.in-Some.numbers (into_iter_items c.next.new.self) s c.requires.keyed c.in-Some-2.next (c.in_ok-next.was ∙ ap (λ found. Ok found) c.in-Some-2.is)
          c.in-Some-3.more words.many words.low (λ a b ea eb p q. rw c.in-Some-3.is at (c.in_ok-more.ensures.ok a b ea eb p q));
      left = omega (arith, steps.1, c.loop-numbers.invariant.left, ap length steps.0);
    }

pub returns-clause-ok : goal.returns-clause-ok
returns-clause-ok g c =
    let rest = into_iter_items c.loop-numbers.numbers-iterator in
    let none : rest ≡ [] = nil_from_length rest (omega (arith, c.in-None.ensures.steps.0, c.loop-numbers.invariant.left)) in
    all_packed c.args.keys.now c.args.packed c.loop-numbers.packed rest c.loop-numbers.invariant.packed none
