use Rattle.std.proofs.Common.{refl}
use Rattle.gb_defs.specs.Request.{agg_of, given_from, method_named, number_within, request, with_number, with_option}
use Rattle.gb_defs.proofs.worked.requests.Goals as goal

pub returns-clause-spelled : goal.returns-clause-spelled
unfolding request given_from with_option with_number number_within agg_of method_named
returns-clause-spelled c = refl

pub returns-clause-colon : goal.returns-clause-colon
unfolding request given_from with_option with_number number_within agg_of method_named
returns-clause-colon c = refl

pub returns-clause-command_alone : goal.returns-clause-command_alone
unfolding request given_from with_option with_number number_within agg_of method_named
returns-clause-command_alone c = refl

pub returns-clause-no_value : goal.returns-clause-no_value
unfolding request given_from with_option with_number number_within agg_of method_named
returns-clause-no_value c = refl

pub returns-clause-unknown_method : goal.returns-clause-unknown_method
unfolding request given_from with_option with_number number_within agg_of method_named
returns-clause-unknown_method c = refl

pub returns-clause-any_order : goal.returns-clause-any_order
unfolding request given_from with_option with_number number_within agg_of method_named
returns-clause-any_order c = refl

pub returns-clause-two_keys : goal.returns-clause-two_keys
unfolding request given_from with_option with_number number_within agg_of method_named
returns-clause-two_keys c = refl

pub returns-clause-out_of_range : goal.returns-clause-out_of_range
unfolding request given_from with_option with_number number_within agg_of method_named
returns-clause-out_of_range c = refl

pub returns-clause-value_like_an_option : goal.returns-clause-value_like_an_option
unfolding request given_from with_option with_number number_within agg_of method_named
returns-clause-value_like_an_option c = refl

pub returns-clause-no_key : goal.returns-clause-no_key
unfolding request given_from with_option with_number number_within agg_of method_named
returns-clause-no_key c = refl

pub returns-clause-methods : goal.returns-clause-methods
unfolding request given_from with_option with_number number_within agg_of method_named
returns-clause-methods c = refl

pub returns-clause-lists : goal.returns-clause-lists
unfolding request given_from with_option with_number number_within agg_of method_named
returns-clause-lists c = refl

pub returns-clause-groups_alone : goal.returns-clause-groups_alone
unfolding request given_from with_option with_number number_within agg_of method_named
returns-clause-groups_alone c = refl
