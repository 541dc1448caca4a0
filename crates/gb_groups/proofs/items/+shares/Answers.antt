use Rattle.std.proofs.Common.{rules, take, drop, refl, arith}
use Rattle.gb_flat.specs.Buffers.{item_count}
use Rattle.gb_flat.proofs.FillLemmas.{is_cut}
use Rattle.gb_groups.specs.Parts.{HaveRoomFor}
use Rattle.gb_groups.proofs.items.+shares.Goals as goal

pub split_at-requires : goal.split_at-requires
split_at-requires g t c =
    let n = c.in-Some.share.now.1 in
    let cut = is_cut {starts' = drop n c.args.starts.now} {mine = take n c.args.parts.now} {others = drop n c.args.parts.now} c.in-Some.ensures.cases.0 c.if-is_empty.ensures c.requires.dealt c.requires.starts refl refl refl in
    omega arith

pub bounds-later_starts-0 : goal.bounds-later_starts-0
bounds-later_starts-0 g t c =
    let n = c.in-Some.share.now.1 in
    let cut = is_cut {mine = take n c.args.parts.now} {others = drop n c.args.parts.now} c.in-Some.ensures.cases.0 c.if-is_empty.ensures c.requires.dealt c.requires.starts c.split_at.ensures.back refl refl in
    let left = cut.some in
    search rules

pub overflow_sub-count : goal.overflow_sub-count
overflow_sub-count g t c =
    let n = c.in-Some.share.now.1 in
    let cut = is_cut {mine = take n c.args.parts.now} {others = drop n c.args.parts.now} c.in-Some.ensures.cases.0 c.if-is_empty.ensures c.requires.dealt c.requires.starts c.split_at.ensures.back refl refl in
    omega arith

pub split_at_mut-front-requires : goal.split_at_mut-front-requires
split_at_mut-front-requires g t c =
    let n = c.in-Some.share.now.1 in
    let cut = is_cut {mine = take n c.args.parts.now} {others = drop n c.args.parts.now} c.in-Some.ensures.cases.0 c.if-is_empty.ensures c.requires.dealt c.requires.starts c.split_at.ensures.back refl refl in
    omega arith

pub join_mut-requires-after_bounds : goal.join_mut-requires-after_bounds
join_mut-requires-after_bounds g t c κs within =
    let mine = c.split_at_mut-mine.result.0.now in
    let others = c.split_at_mut-mine.result.1.now in
    let cut = is_cut c.in-Some.ensures.cases.0 c.if-is_empty.ensures c.requires.dealt c.requires.starts c.split_at.ensures.back c.split_at_mut-mine.ensures.front c.split_at_mut-mine.ensures.back in
    let starts = cut.starts_are in
    let dealt = cut.dealt in
    let front : HaveRoomFor (item_count mine) c.split_at_mut-front.result.0.now c.split_at_mut-front_lists.result.0.now = record { first_room = omega arith; all_room = omega arith } in
    let back : HaveRoomFor (item_count others) c.split_at_mut-front.result.1.now c.split_at_mut-front_lists.result.1.now = record { first_room = omega arith; all_room = omega arith } in
    search rules
