use Rattle.std.proofs.Common.{refl}
use Rattle.std.specs.Str.{chars, is_utf8}
use lib.Utf8.{encode}
use Rattle.gb_defs.specs.Cell.{cell_slot}
use Rattle.gb_defs.proofs.cells.read_bytes.Goals as goal

pub returns-clause-pairs : goal.returns-clause-pairs
unfolding cell_slot is_utf8 chars encode
returns-clause-pairs c = refl

pub returns-clause-no_bytes : goal.returns-clause-no_bytes
unfolding cell_slot is_utf8 chars encode
returns-clause-no_bytes c = refl

pub returns-clause-half_a_byte : goal.returns-clause-half_a_byte
unfolding cell_slot is_utf8 chars encode
returns-clause-half_a_byte c = refl

pub returns-clause-no_digits : goal.returns-clause-no_digits
unfolding cell_slot is_utf8 chars encode
returns-clause-no_digits c = refl

pub returns-clause-category : goal.returns-clause-category
unfolding cell_slot is_utf8 chars encode
returns-clause-category c = refl

pub returns-clause-codes_by_place : goal.returns-clause-codes_by_place
unfolding cell_slot is_utf8 chars encode
returns-clause-codes_by_place c = refl
