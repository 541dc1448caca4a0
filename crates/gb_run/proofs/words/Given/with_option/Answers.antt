use Rattle.std.proofs.Common.{rules}
use Rattle.gb_defs.specs.Request.{with_option}
use Rattle.gb_run.proofs.words.Given.with_option.Goals as goal

pub returns-then-eq-clause-ok : goal.returns-then-eq-clause-ok
unfolding with_option
returns-then-eq-clause-ok c = search rules

pub returns-then-eq-2-clause-ok : goal.returns-then-eq-2-clause-ok
unfolding with_option
returns-then-eq-2-clause-ok c = search rules

pub returns-then-eq-3-clause-ok : goal.returns-then-eq-3-clause-ok
unfolding with_option
returns-then-eq-3-clause-ok c = search rules

pub returns-clause-ok : goal.returns-clause-ok
unfolding with_option
returns-clause-ok c = search rules
