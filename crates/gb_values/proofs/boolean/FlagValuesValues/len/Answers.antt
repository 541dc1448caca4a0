use Rattle.gb_values.proofs.ValueLemmas.{flags_fit}
use Rattle.gb_values.proofs.boolean.FlagValuesValues.len.Goals as goal

pub returns-clause-fitting : goal.returns-clause-fitting
returns-clause-fitting c = flags_fit c.args.self.now
