use Rattle.gb_run.proofs.RunLemmas.{group_told, long_input}
use Rattle.gb_run.proofs.run.run.Goals as goal

pub returns-clause-long_input : goal.returns-clause-long_input
returns-clause-long_input g c = λ q bytes e t long. long_input _ q bytes e t long _ c.answer.ensures.cause

pub returns-clause-group : goal.returns-clause-group
returns-clause-group g c = group_told _ _ c.answer.ensures.cause
