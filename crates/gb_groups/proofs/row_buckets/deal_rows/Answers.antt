use Rattle.std.proofs.Common.{arith, ◌<◌, ◌≤◌, ◌∙◌, length, get_or, refl, sym}
use Rattle.std.proofs.lemmas.List.{length-set}
use Rattle.gb_groups.specs.Buckets.{bucket_of}
use Rattle.gb_groups.proofs.BucketLemmas.{dealt_all, dealt_more}
use Rattle.gb_groups.proofs.row_buckets.deal_rows.Goals as goal

pub loop-place-init : goal.loop-place-init
loop-place-init g c = record { dealt = c.requires.empty; as_many = refl }

pub loop-place-preserved : goal.loop-place-preserved
loop-place-preserved g c =
    let number = get_or c.args.numbers.now c.loop-place.place 0 in
    let s = c.loop-place.invariant in
    let known = c.requires.known c.loop-place.place 0 c.loop-place-test.true in
    let inside : bucket_of number < length c.loop-place.buckets = omega (arith, known, s.as_many) in
    record {
      dealt = dealt_more (g.M.Members.listed c.args.rows.now) c.args.numbers.now c.requires.each c.loop-place.place number _ c.loop-place-test.true refl (sym c.row_at.ensures) c.loop-place.buckets c.index-buckets-number.result c.push.new.self inside c.in_ok-push.ensures.rows c.in_ok-push.ensures.numbers s.dealt;
      as_many = length-set c.loop-place.buckets (bucket_of number) c.push.new.self ∙ s.as_many;
    }

pub returns-clause-buckets : goal.returns-clause-buckets
returns-clause-buckets g c =
    let all : length c.args.numbers.now ≤ c.loop-place.place = omega arith in
    dealt_all (g.M.Members.listed c.args.rows.now) c.args.numbers.now c.loop-place.place c.loop-place.buckets c.requires.each all c.loop-place.invariant.dealt
