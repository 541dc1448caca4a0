use Rattle.std.proofs.Common.{◌≡◌, ◌∙◌, ◌≤◌, ◌++◌, ◌-◌, [], All, ap, arith, drop, length, replicate, subst, sym, take, ℕ}
use Rattle.std.proofs.lemmas.List.FromFn.{length-range_with_len}
use Rattle.gb_defs.specs.Classes.{agree_by, rows_below}
use Rattle.gb_defs.specs.Column.{Frame, frame_height}
use Rattle.gb_defs.specs.Groups.{HasRowNumbers}
use Rattle.gb_rows.specs.Lent.{keys_in}
use Rattle.gb_series.specs.Series.{value_of}
use Rattle.gb_paths.specs.Packed.{IsKeyOf, IsPacked, words_in}
use Rattle.gb_paths.specs.Tuples.{slots_of}
use Rattle.gb_paths.proofs.PackLemmas.{all_keyed, packed_none, part_behind, part_has}
use Rattle.gb_paths.proofs.SeveralLemmas.{first_lent}
use Rattle.gb_paths.proofs.number_several.pack_keys.Goals as goal

pub loop-place-init : goal.loop-place-init
loop-place-init g c =
    let lent = c.args.keys.now in
    let n = frame_height (keys_in lent) in
    let many : c.len.result ≡ n = c.len.ensures.value ∙ ap (λ key. length (value_of key.now).slots) c.index-keys-0.is ∙ first_lent lent c.index-keys-0.result c.requires.some in
    record {
      within = omega arith;
      so_far = rw many (packed_none n);
    }

pub pack_round-requires-clause-few : goal.pack_round-requires-clause-few
pack_round-requires-clause-few g c κs within =
    let n = frame_height (keys_in c.args.keys.now) in
    subst HasRowNumbers (sym (c.loop-place.invariant.so_far.many ∙ length-range_with_len 0 n)) c.requires.few

pub pack_round-requires-clause-keyed : goal.pack_round-requires-clause-keyed
pack_round-requires-clause-keyed g c κs within =
    let lent = c.args.keys.now in
    let keys = keys_in lent in
    let n = frame_height keys in
    let many = c.loop-place.invariant.so_far.many ∙ length-range_with_len 0 n in
    let from = c.loop-place.place in
    subst (λ (m : ℕ). All (IsKeyOf m) (keys_in (take (c.min-to.result - from) (drop from lent)))) (sym many)
    (part_has (IsKeyOf n) lent from (c.min-to.result - from) (all_keyed n keys c.requires.aligned c.requires.valued))

pub loop-place-preserved : goal.loop-place-preserved
loop-place-preserved g c =
    let lent = c.args.keys.now in
    let keys = keys_in lent in
    let n = frame_height keys in
    let from = c.loop-place.place in
    let to = c.min-to.result in
    let packed = c.loop-place.packed in
    let many : length (words_in packed.words) ≡ n = c.loop-place.invariant.so_far.many ∙ length-range_with_len 0 n in
    let within : to ≤ length lent = omega (arith, c.min-to.ensures) in
    let onward : from ≤ to = omega (arith, c.min-to.ensures, c.loop-place.invariant.within) in
    let mine : IsPacked (agree_by (slots_of (take from keys))) (rows_below (length (words_in packed.words))) packed = rw many c.loop-place.invariant.so_far in
    let made : IsPacked (agree_by (slots_of (take from keys ++ keys_in (take (to - from) (drop from lent))))) (rows_below (length (words_in packed.words))) c.in-Some.more =
    rw c.in-Some.is at (c.in_ok-more.ensures.ok (take from keys) mine) in
    record {
      within = within;
      so_far = subst (λ (ks : Frame). IsPacked (agree_by (slots_of ks)) (rows_below n) c.in-Some.more) (part_behind lent from to onward)
          (subst (λ (m : ℕ). IsPacked (agree_by (slots_of (take from keys ++ keys_in (take (to - from) (drop from lent))))) (rows_below m) c.in-Some.more) many made);
    }
