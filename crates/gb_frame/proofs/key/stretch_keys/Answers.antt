use Rattle.std.proofs.Common.{◌≡◌, ◌∙◌, ◌++◌, suc, [], ◌∷◌, ap, append-nil, append_assoc, arith, length, sym}
use Rattle.std.proofs.lemmas.List.{map-append, nil_from_length}
use Rattle.std.specs.Vec.Iter.{into_iter_items}
use Rattle.gb_frame.specs.Key.{columns_of, high_keys, key_value}
use Rattle.gb_frame.proofs.key.stretch_keys.Goals as goal

pub stretched-requires-clause-long : goal.stretched-requires-clause-long
stretched-requires-clause-long c =
    let long = rw c.in-Some.ensures.steps.0 at c.loop-key.invariant.long in
    long 0 (key_value c.in-Some.key) (omega arith)

pub loop-key-preserved : goal.loop-key-preserved
loop-key-preserved c =
    let at = c.loop-key in
    let height = c.args.height in
    let steps = c.in-Some.ensures.steps in
    let rest = into_iter_items c.next.new.self in
    let so_far = rw steps.0 at at.invariant.so_far in
    let long = rw steps.0 at at.invariant.long in
    record {
      so_far =
          ap (λ ks. columns_of ks ++ high_keys height (columns_of rest)) c.in_ok-push.ensures.items
          ∙ ap (λ ks. ks ++ high_keys height (columns_of rest)) (map-append key_value at.all.items _)
          ∙ append_assoc (columns_of at.all.items) _ (high_keys height (columns_of rest))
          ∙ ap (λ k. columns_of at.all.items ++ k ∷ high_keys height (columns_of rest)) c.in_ok-stretched.ensures.ok ∙ so_far;
      long = λ i d lt. long (suc i) d (omega (arith, lt));
      left = omega (arith, steps.1, at.invariant.left, ap length steps.0);
    }

pub returns-clause-ok : goal.returns-clause-ok
returns-clause-ok c =
    let rest = into_iter_items c.loop-key.key-iterator in
    let height = c.args.height in
    let none : rest ≡ [] = nil_from_length rest (omega (arith, c.in-None.ensures.steps.0, c.loop-key.invariant.left)) in
    sym (append-nil (columns_of c.loop-key.all.items)) ∙ ap (λ rs. columns_of c.loop-key.all.items ++ high_keys height (columns_of rs)) (sym none) ∙ c.loop-key.invariant.so_far
