use Rattle.std.proofs.Common.{arith, ◌<◌, ◌∙◌, ap, length, refl, sym}
use Rattle.gb_groups.specs.Buckets.{bucket_of}
use Rattle.gb_groups.specs.Numbers.{lists_by}
use Rattle.gb_groups.proofs.BucketLemmas.{all_roomy, bucket_at, bucket_each, bucket_known, bucket_room, more_of_none, upto_all, upto_more, upto_none}
use Rattle.gb_groups.proofs.row_lists.fill_lists.Goals as goal

pub add_rows-requires-clause-room : goal.add_rows-requires-clause-room
add_rows-requires-clause-room g c = all_roomy c.args.numbers.now c.args.lists.now c.requires.room

pub returns-then-lists-le-NEAR_GROUPS : goal.returns-then-lists-le-NEAR_GROUPS
returns-then-lists-le-NEAR_GROUPS g c = more_of_none (g.M.Members.listed c.args.rows.now) c.args.numbers.now c.args.lists.now c.add_rows.new.lists c.requires.room c.add_rows.ensures

pub loop-bucket-init : goal.loop-bucket-init
loop-bucket-init g c = record { up_to = upto_none (g.M.Members.listed c.args.rows.now) c.args.numbers.now c.args.lists.now c.requires.room; as_many = refl }

pub add_rows-requires-in-loop-bucket-clause-each : goal.add_rows-requires-in-loop-bucket-clause-each
add_rows-requires-in-loop-bucket-clause-each g c =
    let rows = g.M.Members.listed c.args.rows.now in
    let numbers = c.args.numbers.now in
    let j = c.loop-bucket.bucket-index in
    let is = bucket_at rows numbers _ c.deref-bucket-items.result.now j c.bucket-item.result c.in_ok-buckets.ensures.buckets c.deref-bucket-items.ensures.value c.loop-bucket-test.true c.bucket-item.is in
    ap length c.as_slice-in-loop-bucket.ensures.value ∙ bucket_each rows numbers c.requires.each j c.bucket-item.result is ∙ ap length (sym c.as_slice.ensures.value)

pub add_rows-requires-in-loop-bucket-clause-known : goal.add_rows-requires-in-loop-bucket-clause-known
add_rows-requires-in-loop-bucket-clause-known g c =
    let rows = g.M.Members.listed c.args.rows.now in
    let numbers = c.args.numbers.now in
    let j = c.loop-bucket.bucket-index in
    let is = bucket_at rows numbers _ c.deref-bucket-items.result.now j c.bucket-item.result c.in_ok-buckets.ensures.buckets c.deref-bucket-items.ensures.value c.loop-bucket-test.true c.bucket-item.is in
    rw (c.as_slice-in-loop-bucket.ensures.value, c.loop-bucket.invariant.as_many) (bucket_known rows numbers c.requires.each j c.bucket-item.result is (λ number. number < length c.args.lists.now) c.requires.known)

pub add_rows-requires-in-loop-bucket-clause-room : goal.add_rows-requires-in-loop-bucket-clause-room
add_rows-requires-in-loop-bucket-clause-room g c =
    let rows = g.M.Members.listed c.args.rows.now in
    let numbers = c.args.numbers.now in
    let j = c.loop-bucket.bucket-index in
    let is = bucket_at rows numbers _ c.deref-bucket-items.result.now j c.bucket-item.result c.in_ok-buckets.ensures.buckets c.deref-bucket-items.ensures.value c.loop-bucket-test.true c.bucket-item.is in
    rw c.as_slice-in-loop-bucket.ensures.value (bucket_room rows numbers c.requires.each j c.bucket-item.result is c.loop-bucket.lists c.loop-bucket.invariant.up_to)

pub loop-bucket-preserved : goal.loop-bucket-preserved
loop-bucket-preserved g c =
    let rows = g.M.Members.listed c.args.rows.now in
    let numbers = c.args.numbers.now in
    let j = c.loop-bucket.bucket-index in
    let is = bucket_at rows numbers _ c.deref-bucket-items.result.now j c.bucket-item.result c.in_ok-buckets.ensures.buckets c.deref-bucket-items.ensures.value c.loop-bucket-test.true c.bucket-item.is in
    let have = rw (c.as_slice.ensures.value, c.as_slice-in-loop-bucket.ensures.value) at c.add_rows-in-loop-bucket.ensures in
    record {
      up_to = upto_more rows numbers c.requires.each j c.bucket-item.result is c.loop-bucket.lists c.add_rows-in-loop-bucket.new.lists c.loop-bucket.invariant.up_to have;
      as_many = have.as_many ∙ c.loop-bucket.invariant.as_many;
    }

pub returns : goal.returns
returns g c =
    let rows = g.M.Members.listed c.args.rows.now in
    let numbers = c.args.numbers.now in
    let s = c.loop-bucket.invariant in
    let all : bucket_of (length c.loop-bucket.lists) < c.loop-bucket.bucket-index =
    omega (arith, c.loop-bucket-test.false, ap length c.deref-bucket-items.ensures.value, c.in_ok-buckets.ensures.all, c.requires.counted, ap bucket_of (s.as_many ∙ sym c.requires.counted)) in
    upto_all rows numbers c.loop-bucket.bucket-index c.loop-bucket.lists all s.up_to ∙ ap (lists_by rows numbers) s.as_many
