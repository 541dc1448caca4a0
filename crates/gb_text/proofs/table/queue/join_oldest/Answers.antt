use Rattle.std.proofs.Common.{◌∷◌}
use Rattle.gb_text.proofs.QueueLemmas.{head_alike, head_joined, head_others_few, head_part, queue_back, queue_has_few}
use Rattle.gb_text.proofs.table.queue.join_oldest.Goals as goal

pub append_block-requires-clause-alike : goal.append_block-requires-clause-alike
append_block-requires-clause-alike g c =
    let s = c.requires.queue in
    let j = c.in-Some.job in
    let jobs = c.pop_front.new.self.items in
    let held = c.args.ahead.now.held.items in
    let columns = c.args.columns.now.items in
    let more = c.in-Some-found.more.items in
    let lines = rw (c.in_ok-found.was, c.in-Some-found.is) at c.join-done.ensures.found in
    let q = rw c.in-Some.ensures.items at s.queue in
    let p = head_part s.names s.null_word s.header s.bytes j jobs held columns q more lines in
    head_alike s.names s.null_word s.header s.bytes j jobs held columns q more p

pub append_block-requires-clause-few : goal.append_block-requires-clause-few
append_block-requires-clause-few g c =
    let s = c.requires.queue in
    queue_has_few s.names s.null_word s.header s.bytes c.args.ahead.now.jobs.items c.args.ahead.now.held.items c.args.columns.now.items s.queue s.few

pub append_block-requires-clause-few_more : goal.append_block-requires-clause-few_more
append_block-requires-clause-few_more g c =
    let s = c.requires.queue in
    let j = c.in-Some.job in
    let jobs = c.pop_front.new.self.items in
    let held = c.args.ahead.now.held.items in
    let columns = c.args.columns.now.items in
    let more = c.in-Some-found.more.items in
    let lines = rw (c.in_ok-found.was, c.in-Some-found.is) at c.join-done.ensures.found in
    let q = rw c.in-Some.ensures.items at s.queue in
    let p = head_part s.names s.null_word s.header s.bytes j jobs held columns q more lines in
    head_others_few s.names s.null_word s.header s.bytes j jobs held columns q more p s.few

pub returns-in_ok-append_block-in-Some-found-clause-stays : goal.returns-in_ok-append_block-in-Some-found-clause-stays
returns-in_ok-append_block-in-Some-found-clause-stays g c = λ names null_word header bytes was.
    let j = c.in-Some.job in
    let jobs = c.pop_front.new.self.items in
    let held = c.args.ahead.now.held.items in
    let columns = c.args.columns.now.items in
    let more = c.in-Some-found.more.items in
    let lines = rw (c.in_ok-found.was, c.in-Some-found.is) at c.join-done.ensures.found in
    let q = rw c.in-Some.ensures.items at was in
    let p = head_part names null_word header bytes j jobs held columns q more lines in
    head_joined names null_word header bytes j jobs held columns q more p c.append_block.new.columns.items c.in_ok-append_block-in-Some-found.ensures

pub returns-in_ok-put_back-in-None-clause-stays : goal.returns-in_ok-put_back-in-None-clause-stays
returns-in_ok-put_back-in-None-clause-stays g c = λ names null_word header bytes was.
    let j = c.in-Some.job in
    let jobs = c.pop_front.new.self.items in
    let q = rw c.in-Some.ensures.items at was in
    let back = rw (c.join-done.ensures.text_is, c.join-done.ensures.place_is) at c.in_ok-put_back-in-None.ensures.held in
    rw c.in_ok-put_back-in-None.ensures.none (queue_back names null_word header bytes (j ∷ jobs) c.args.ahead.now.held.items c.args.columns.now.items q _ back)
