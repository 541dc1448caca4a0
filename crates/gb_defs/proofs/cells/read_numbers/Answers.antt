use Rattle.std.proofs.Common.{refl}
use Rattle.gb_defs.specs.Cell.{cell_slot}
use Rattle.gb_defs.proofs.cells.read_numbers.Goals as goal

pub returns-clause-null : goal.returns-clause-null
unfolding cell_slot
returns-clause-null c = refl

pub returns-clause-nothing_but_null : goal.returns-clause-nothing_but_null
unfolding cell_slot
returns-clause-nothing_but_null c = refl

pub returns-clause-yes : goal.returns-clause-yes
unfolding cell_slot
returns-clause-yes c = refl

pub returns-clause-no : goal.returns-clause-no
unfolding cell_slot
returns-clause-no c = refl

pub returns-clause-other_case : goal.returns-clause-other_case
unfolding cell_slot
returns-clause-other_case c = refl

pub returns-clause-greatest_byte : goal.returns-clause-greatest_byte
unfolding cell_slot
returns-clause-greatest_byte c = refl

pub returns-clause-past_a_byte : goal.returns-clause-past_a_byte
unfolding cell_slot
returns-clause-past_a_byte c = refl

pub returns-clause-minus_unsigned : goal.returns-clause-minus_unsigned
unfolding cell_slot
returns-clause-minus_unsigned c = refl

pub returns-clause-least_byte : goal.returns-clause-least_byte
unfolding cell_slot
returns-clause-least_byte c = refl

pub returns-clause-past_least_byte : goal.returns-clause-past_least_byte
unfolding cell_slot
returns-clause-past_least_byte c = refl

pub returns-clause-no_digit : goal.returns-clause-no_digit
unfolding cell_slot
returns-clause-no_digit c = refl

pub returns-clause-day : goal.returns-clause-day
unfolding cell_slot
returns-clause-day c = refl

pub returns-clause-past_days : goal.returns-clause-past_days
unfolding cell_slot
returns-clause-past_days c = refl

pub returns-clause-widest : goal.returns-clause-widest
unfolding cell_slot
returns-clause-widest c = refl

pub returns-clause-hundredths : goal.returns-clause-hundredths
unfolding cell_slot
returns-clause-hundredths c = refl

pub returns-clause-no_whole : goal.returns-clause-no_whole
unfolding cell_slot
returns-clause-no_whole c = refl

pub returns-clause-point_last : goal.returns-clause-point_last
unfolding cell_slot
returns-clause-point_last c = refl

pub returns-clause-digit_too_many : goal.returns-clause-digit_too_many
unfolding cell_slot
returns-clause-digit_too_many c = refl

pub returns-clause-point_alone : goal.returns-clause-point_alone
unfolding cell_slot
returns-clause-point_alone c = refl
