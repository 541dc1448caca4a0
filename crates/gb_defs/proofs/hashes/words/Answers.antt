use Rattle.std.proofs.Common.{refl}
use Rattle.gb_defs.specs.Hash.{folded_multiply, boost_combine, partition_of}
use Rattle.gb_defs.proofs.hashes.words.Goals as goal

pub returns-clause-both_halves : goal.returns-clause-both_halves
unfolding folded_multiply
returns-clause-both_halves c = refl

pub returns-clause-high_half : goal.returns-clause-high_half
unfolding folded_multiply
returns-clause-high_half c = refl

pub returns-clause-nothing_joined : goal.returns-clause-nothing_joined
unfolding boost_combine
returns-clause-nothing_joined c = refl

pub returns-clause-right_joined : goal.returns-clause-right_joined
unfolding boost_combine
returns-clause-right_joined c = refl

pub returns-clause-left_joined : goal.returns-clause-left_joined
unfolding boost_combine
returns-clause-left_joined c = refl

pub returns-clause-second_of_three : goal.returns-clause-second_of_three
unfolding partition_of
returns-clause-second_of_three c = refl

pub returns-clause-last_of_four : goal.returns-clause-last_of_four
unfolding partition_of
returns-clause-last_of_four c = refl

pub returns-clause-first_of_seven : goal.returns-clause-first_of_seven
unfolding partition_of
returns-clause-first_of_seven c = refl
