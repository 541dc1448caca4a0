use Rattle.std.proofs.Common.{◌≡◌, ◌∙◌, ◌++◌, [], ◌∷◌, ap, append-nil, append_assoc, arith, length, map, sym}
use Rattle.std.proofs.lemmas.List.{map-append, nil_from_length}
use Rattle.std.specs.Vec.Iter.{into_iter_items}
use Rattle.gb_series.specs.Series.{value_of}
use Rattle.gb_frame.specs.Key.{columns_of, key_value}
use Rattle.gb_frame.proofs.key.owned_keys.Goals as goal

pub loop-column-preserved : goal.loop-column-preserved
loop-column-preserved c =
    let at = c.loop-column in
    let steps = c.in-Some.ensures.steps in
    let rest = into_iter_items c.next.new.self in
    let so_far = rw steps.0 at at.invariant.so_far in
    record {
      so_far =
          ap (λ ks. columns_of ks ++ map value_of rest) c.in_ok-push.ensures.items
          ∙ ap (λ ks. ks ++ map value_of rest) (map-append key_value at.keys.items _)
          ∙ append_assoc (columns_of at.keys.items) (value_of c.in-Some.column ∷ []) (map value_of rest) ∙ so_far;
      left = omega (arith, steps.1, at.invariant.left, ap length steps.0);
    }

pub returns : goal.returns
returns c =
    let rest = into_iter_items c.loop-column.column-iterator in
    let none : rest ≡ [] = nil_from_length rest (omega (arith, c.in-None.ensures.steps.0, c.loop-column.invariant.left)) in
    sym (append-nil (columns_of c.loop-column.keys.items)) ∙ ap (λ rs. columns_of c.loop-column.keys.items ++ map value_of rs) (sym none) ∙ c.loop-column.invariant.so_far
