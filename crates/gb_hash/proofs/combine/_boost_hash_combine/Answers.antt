-- Sums that were cut one by one are the whole sum cut once.
use Rattle.std.proofs.Common.{ap, arith}
use Rattle.std.specs.Prelude.{bit_xor}
use Rattle.gb_defs.specs.Hash.{boost_combine}
use Rattle.gb_hash.proofs.combine._boost_hash_combine.Goals as goal

pub returns : goal.returns
unfolding boost_combine
returns c = ap (bit_xor c.args.l) (omega arith)
