use Rattle.std.proofs.Common.{◌≡◌, ◌∙◌, ◌+◌, ◌++◌, ◌∷◌, ◌<◌, ap, append_assoc, arith, drop, get_or, length, map, sym, take}
use Rattle.std.proofs.lemmas.List.{drop_more, length-append}
use Rattle.std.proofs.lemmas.List.Elements.{recursion_from_All}
use Rattle.gb_paths.specs.Numbering.{firsts_in, renumbered}
use Rattle.gb_paths.proofs.PartLemmas.{front_read}
use Rattle.gb_paths.proofs.number_rows.renumber.Goals as goal

pub loop-part-preserved : goal.loop-part-preserved
loop-part-preserved c =
    let parts = c.args.parts.now in
    let i = c.loop-part.part-index in
    let part = c.part-item.result in
    let rest = c.loop-part.rest.now in
    let before = c.loop-part.all.items in
    let left = drop (i + 1) parts in
    let n = length part.first.items in
    let inside : i < length parts = c.loop-part-test.true in
    let next : drop i parts ≡ part ∷ left = drop_more parts i part inside ∙ ap (λ p. p ∷ left) (sym c.part-item.is) in
    let places = recursion_from_All (λ number. number < n) part.of_rows.items part.known in
    let long : c.len.result ≡ n = c.len.ensures ∙ part.first.ok.0 in
    let front = c.split_at.ensures.front ∙ ap (λ k. take k rest) long in
    let back = c.split_at.ensures.back ∙ ap (λ k. drop k rest) long in
    let read = map (λ place. get_or rest place 0) part.of_rows.items in
    let mine = ap (λ xs. map (λ place. get_or xs place 0) c.deref.result.now) front ∙ ap (map (λ place. get_or (take n rest) place 0)) c.deref.ensures.value ∙ front_read n rest part.of_rows.items places in
    let pushed = c.in_ok-push_numbers.ensures ∙ ap (λ ks. before ++ ks) mine in
    let many : length rest ≡ n + length (firsts_in left) = c.loop-part.invariant.many ∙ ap (λ ps. length (firsts_in ps)) next ∙ length-append part.first.items (firsts_in left) in
    record {
      so_far = ap (λ ks. ks ++ renumbered c.split_at.result.1.now left) pushed ∙ ap (λ ks. (before ++ read) ++ renumbered ks left) back
          ∙ append_assoc before read (renumbered (drop n rest) left) ∙ ap (λ ps. before ++ renumbered rest ps) (sym next) ∙ c.loop-part.invariant.so_far;
      many = omega (arith, many, c.split_at.ensures.back_len, long);
    }
