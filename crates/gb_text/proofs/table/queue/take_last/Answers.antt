use Rattle.std.proofs.Common.{◌≡◌, [], rules}
use Rattle.gb_text.proofs.QueueLemmas.{last_alike, last_joined, last_others_few, queue_has_few}
use Rattle.gb_text.proofs.table.queue.take_last.Goals as goal

pub join_all-requires : goal.join_all-requires
join_all-requires g c =
    let s = c.requires.last in
    record { queue = record { names = s.names; null_word = s.null_word; header = s.header; bytes = s.bytes; few = s.few; queue = s.queue } }

pub append_block-requires-clause-alike : goal.append_block-requires-clause-alike
append_block-requires-clause-alike g c =
    let s = c.requires.last in
    let kept : c.join_all.new.ahead.held.items ≡ c.args.done.text.items = search rules in
    let q = rw (c.in_ok-join_all.ensures.none, kept) at (c.in_ok-join_all.ensures.stays s.names s.null_word s.header s.bytes s.queue) in
    let p = rw (c.in_ok-found.was, c.in-Some.is) at s.done.found in
    last_alike s.names s.null_word s.header s.bytes c.args.done c.join_all.new.columns.items q s.done c.in-Some.more.items p

pub append_block-requires-clause-few : goal.append_block-requires-clause-few
append_block-requires-clause-few g c =
    let s = c.requires.last in
    let kept : c.join_all.new.ahead.held.items ≡ c.args.done.text.items = search rules in
    let q = rw (c.in_ok-join_all.ensures.none, kept) at (c.in_ok-join_all.ensures.stays s.names s.null_word s.header s.bytes s.queue) in
    queue_has_few s.names s.null_word s.header s.bytes [] c.args.done.text.items c.join_all.new.columns.items q s.few

pub append_block-requires-clause-few_more : goal.append_block-requires-clause-few_more
append_block-requires-clause-few_more g c =
    let s = c.requires.last in
    let kept : c.join_all.new.ahead.held.items ≡ c.args.done.text.items = search rules in
    let q = rw (c.in_ok-join_all.ensures.none, kept) at (c.in_ok-join_all.ensures.stays s.names s.null_word s.header s.bytes s.queue) in
    let p = rw (c.in_ok-found.was, c.in-Some.is) at s.done.found in
    last_others_few s.names s.null_word s.header s.bytes c.args.done c.join_all.new.columns.items q s.done c.in-Some.more.items p s.few

pub returns-in_ok-keep_from-in-Some : goal.returns-in_ok-keep_from-in-Some
returns-in_ok-keep_from-in-Some g c = λ names null_word header bytes done was.
    let kept : c.join_all.new.ahead.held.items ≡ c.args.done.text.items = search rules in
    let q = rw (c.in_ok-join_all.ensures.none, kept) at (c.in_ok-join_all.ensures.stays names null_word header bytes was) in
    let p = rw (c.in_ok-found.was, c.in-Some.is) at done.found in
    let last = last_joined names null_word header bytes c.args.done c.join_all.new.columns.items q done c.in-Some.more.items p c.append_block.new.columns.items c.in_ok-append_block-in-Some.ensures in
    rw (c.in_ok-join_all.ensures.none, c.in_ok-keep_from-in-Some.ensures, kept) last

pub returns-then-not-branch : goal.returns-then-not-branch
returns-then-not-branch g c = λ names null_word header bytes done was. c.in_ok-join_all.ensures.stays names null_word header bytes was
