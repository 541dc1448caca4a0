use Rattle.std.proofs.Common.{rules}
use Rattle.gb_defs.specs.Request.{with_number}
use Rattle.gb_run.proofs.words.Numbers.with.Goals as goal

pub returns-in_err-once : goal.returns-in_err-once
unfolding with_number
returns-in_err-once c = search rules

pub returns-in_err-once-2 : goal.returns-in_err-once-2
unfolding with_number
returns-in_err-once-2 c = search rules

pub returns-in_err-once-3 : goal.returns-in_err-once-3
unfolding with_number
returns-in_err-once-3 c = search rules

pub returns-in_err-once-4 : goal.returns-in_err-once-4
unfolding with_number
returns-in_err-once-4 c = search rules

pub returns-in_err-once-5 : goal.returns-in_err-once-5
unfolding with_number
returns-in_err-once-5 c = search rules

pub returns-else-eq-5 : goal.returns-else-eq-5
unfolding with_number
returns-else-eq-5 c = search rules

pub returns-in_ok-once : goal.returns-in_ok-once
unfolding with_number
returns-in_ok-once c = search rules

pub returns-in_ok-once-2 : goal.returns-in_ok-once-2
unfolding with_number
returns-in_ok-once-2 c = search rules

pub returns-in_ok-once-3 : goal.returns-in_ok-once-3
unfolding with_number
returns-in_ok-once-3 c = search rules

pub returns-in_ok-once-4 : goal.returns-in_ok-once-4
unfolding with_number
returns-in_ok-once-4 c = search rules

pub returns-in_ok-once-5 : goal.returns-in_ok-once-5
unfolding with_number
returns-in_ok-once-5 c = search rules
