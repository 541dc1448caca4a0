use Rattle.std.proofs.Common.{refl}
use Rattle.gb_defs.specs.Hash.{boost_combine, folded_multiply, hash_bytes, null_hash}
use Rattle.gb_defs.proofs.row_bytes.hashes.Goals as goal

pub returns-clause-one : goal.returns-clause-one
unfolding hash_bytes null_hash boost_combine
returns-clause-one c = refl

pub returns-clause-flag : goal.returns-clause-flag
unfolding boost_combine
returns-clause-flag c = refl

pub returns-clause-zeros : goal.returns-clause-zeros
unfolding folded_multiply
returns-clause-zeros c = refl

pub returns-clause-numbers : goal.returns-clause-numbers
unfolding folded_multiply
returns-clause-numbers c = refl
