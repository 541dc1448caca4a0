use Rattle.std.proofs.Common.{refl}
use Rattle.gb_defs.specs.Hash.{seed_mix, null_hash, hash_bytes}
use Rattle.gb_defs.proofs.hashes.slots.Goals as goal

pub returns-clause-mixed : goal.returns-clause-mixed
unfolding seed_mix
returns-clause-mixed c = refl

pub returns-clause-null_slot : goal.returns-clause-null_slot
unfolding null_hash seed_mix
returns-clause-null_slot c = refl

pub returns-clause-number : goal.returns-clause-number
unfolding seed_mix
returns-clause-number c = refl

pub returns-clause-negative : goal.returns-clause-negative
unfolding seed_mix
returns-clause-negative c = refl

pub returns-clause-wide : goal.returns-clause-wide
unfolding seed_mix
returns-clause-wide c = refl

pub returns-clause-empty : goal.returns-clause-empty
unfolding hash_bytes null_hash
returns-clause-empty c = refl

pub returns-clause-text_unmixed : goal.returns-clause-text_unmixed
unfolding hash_bytes null_hash
returns-clause-text_unmixed c = refl

pub returns-clause-text : goal.returns-clause-text
unfolding hash_bytes null_hash seed_mix
returns-clause-text c = refl
