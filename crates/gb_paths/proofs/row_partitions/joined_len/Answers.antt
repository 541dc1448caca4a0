use Rattle.std.proofs.Common.{arith, ◌≡◌, ◌<◌, ◌∙◌, ap, length, get_or, [], subst, sym}
use Rattle.std.proofs.lemmas.List.{get_or-map}
use Rattle.std.proofs.lemmas.List.Folds.{length-flat_map-take}
use Rattle.smallvec.specs.SmallVec.{SmallVec}
use Rattle.gb_groups.specs.Groups.{lists_of}
use Rattle.gb_paths.proofs.row_partitions.joined_len.Goals as goal

pub overflow_add-count : goal.overflow_add-count
overflow_add-count c =
    let p = c.args.partition in
    let share = c.share-item.result in
    let list = c.index.result.now in
    let lt = c.loop-share-test.true in
    let all = length-flat_map-take (λ share. get_or (lists_of share.items) p []) c.args.shares.now c.loop-share.share-index share lt in
    let inside : p < length share.items = subst (λ s. p < length s.items) (sym c.share-item.is) (c.requires.each c.loop-share.share-index share lt) in
    let here : get_or (lists_of share.items) p [] ≡ list.items = get_or-map (λ (list : SmallVec _). list.items) share.items p list [] inside ∙ ap (λ (list : SmallVec _). list.items) (sym c.index.ensures) in
    let read = ap (λ s. length (get_or (lists_of s.items) p [])) (sym c.share-item.is) ∙ ap length here in
    omega (arith, all, read, c.len-count.ensures.value, c.loop-share.invariant, c.requires.few)
