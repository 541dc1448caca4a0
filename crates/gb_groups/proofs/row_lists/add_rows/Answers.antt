use Rattle.std.proofs.Common.{arith, ◌<◌, ◌≤◌, length, get_or, refl, sym}
use Rattle.gb_groups.proofs.NumberLemmas.{more_all, more_more, more_none, more_room}
use Rattle.gb_groups.proofs.row_lists.add_rows.Goals as goal

pub loop-place-init : goal.loop-place-init
loop-place-init g c = more_none (g.M.Members.listed c.args.rows.now) c.args.numbers.now c.args.lists.now

pub push_reserved-requires : goal.push_reserved-requires
push_reserved-requires g c =
    let inside = c.requires.known c.loop-place.place 0 c.loop-place-test.true in
    let number = get_or c.args.numbers.now c.loop-place.place 0 in
    let have = c.loop-place.invariant in
    let here : number < length c.loop-place.lists = omega (arith, inside, have.as_many) in
    (omega arith, more_room (g.M.Members.listed c.args.rows.now) c.args.numbers.now c.requires.each c.loop-place.place number _ c.loop-place-test.true refl (sym c.row_at.ensures) c.args.lists.now c.loop-place.lists _ inside c.requires.room have)

pub loop-place-preserved : goal.loop-place-preserved
loop-place-preserved g c =
    let inside = c.requires.known c.loop-place.place 0 c.loop-place-test.true in
    let number = get_or c.args.numbers.now c.loop-place.place 0 in
    more_more (g.M.Members.listed c.args.rows.now) c.args.numbers.now c.requires.each c.loop-place.place number _ c.loop-place-test.true refl (sym c.row_at.ensures) c.args.lists.now c.loop-place.lists c.index-lists-number.result c.push_reserved.new.self inside c.push_reserved.ensures.items c.push_reserved.ensures.capacity c.loop-place.invariant

pub returns : goal.returns
returns g c =
    let all : length c.args.numbers.now ≤ c.loop-place.place = omega arith in
    more_all (g.M.Members.listed c.args.rows.now) c.args.numbers.now c.loop-place.place c.args.lists.now c.loop-place.lists c.requires.each all c.loop-place.invariant
