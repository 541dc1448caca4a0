use Rattle.std.proofs.Common.{rules, drop, refl, arith}
use Rattle.gb_flat.proofs.FillLemmas.{is_cut}
use Rattle.gb_flat.proofs.fill.+shares.Goals as goal

pub fill_shares-split_at-requires-2 : goal.fill_shares-split_at-requires-2
fill_shares-split_at-requires-2 g t c =
    let cut = is_cut {starts' = drop c.in-Some.share.now.1 c.args.starts.now} c.in-Some.ensures.cases.0 c.if-is_empty.ensures c.requires.dealt c.requires.starts refl c.split_at.ensures.front c.split_at.ensures.back in
    omega arith

pub fill_shares-bounds-starts-0 : goal.fill_shares-bounds-starts-0
fill_shares-bounds-starts-0 g t c =
    let cut = is_cut c.in-Some.ensures.cases.0 c.if-is_empty.ensures c.requires.dealt c.requires.starts c.split_at-2.ensures.back c.split_at.ensures.front c.split_at.ensures.back in
    let some = cut.some in
    search rules

pub fill_shares-overflow_sub-next : goal.fill_shares-overflow_sub-next
fill_shares-overflow_sub-next g t c =
    let cut = is_cut c.in-Some.ensures.cases.0 c.if-is_empty.ensures c.requires.dealt c.requires.starts c.split_at-2.ensures.back c.split_at.ensures.front c.split_at.ensures.back in
    omega arith

pub fill_shares-split_at_mut-front-requires : goal.fill_shares-split_at_mut-front-requires
fill_shares-split_at_mut-front-requires g t c =
    let cut = is_cut c.in-Some.ensures.cases.0 c.if-is_empty.ensures c.requires.dealt c.requires.starts c.split_at-2.ensures.back c.split_at.ensures.front c.split_at.ensures.back in
    omega arith

pub fill_shares-fill_both-requires-clause-front : goal.fill_shares-fill_both-requires-clause-front
fill_shares-fill_both-requires-clause-front g t c κs within =
    let cut = is_cut c.in-Some.ensures.cases.0 c.if-is_empty.ensures c.requires.dealt c.requires.starts c.split_at-2.ensures.back c.split_at.ensures.front c.split_at.ensures.back in
    omega arith

pub fill_shares-fill_both-requires-clause-dealt : goal.fill_shares-fill_both-requires-clause-dealt
fill_shares-fill_both-requires-clause-dealt g t c κs within =
    let cut = is_cut c.in-Some.ensures.cases.0 c.if-is_empty.ensures c.requires.dealt c.requires.starts c.split_at-2.ensures.back c.split_at.ensures.front c.split_at.ensures.back in
    cut.dealt

pub fill_shares-fill_both-requires-clause-starts : goal.fill_shares-fill_both-requires-clause-starts
fill_shares-fill_both-requires-clause-starts g t c κs within =
    let cut = is_cut c.in-Some.ensures.cases.0 c.if-is_empty.ensures c.requires.dealt c.requires.starts c.split_at-2.ensures.back c.split_at.ensures.front c.split_at.ensures.back in
    cut.starts_are

pub fill_shares-fill_both-requires-clause-back : goal.fill_shares-fill_both-requires-clause-back
fill_shares-fill_both-requires-clause-back g t c κs within =
    let cut = is_cut c.in-Some.ensures.cases.0 c.if-is_empty.ensures c.requires.dealt c.requires.starts c.split_at-2.ensures.back c.split_at.ensures.front c.split_at.ensures.back in
    omega arith
