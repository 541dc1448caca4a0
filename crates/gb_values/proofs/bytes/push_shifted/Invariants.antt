use Rattle.std.proofs.Common.{◌≡◌, ◌+◌, ◌-◌, ◌≤◌, ◌++◌, take, length, vec_len, vec_capacity}
use Rattle.gb_values.proofs.ExtendLemmas.{shifted}
use Rattle.gb_values.proofs.bytes.push_shifted.Given as goal

abbrev pub invariant-loop-end : goal.invariant-loop-end
invariant-loop-end l =
    record { items : l.ends.items ≡ l.fn.ends.items ++ shifted l.base l.from (take l.end-index l.more); room : vec_len l.ends + (length l.more - l.end-index) ≤ vec_capacity l.ends }
