use Rattle.gb_text.proofs.TextLemmas.{begun_all}
use Rattle.gb_text.proofs.text.written.Goals as goal

pub returns-in-Ok-clause-ok : goal.returns-in-Ok-clause-ok
returns-in-Ok-clause-ok c = λ text begun. begun_all c.args.writer text c.in-Ok.text.items begun c.in-Ok.ensures.ok
