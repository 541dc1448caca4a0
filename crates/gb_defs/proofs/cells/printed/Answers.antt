use Rattle.std.proofs.Common.{refl}
use Rattle.std.specs.Fmt.{digits}
use Rattle.gb_defs.proofs.cells.printed.Goals as goal

pub returns-clause-null : goal.returns-clause-null
unfolding digits
returns-clause-null c = refl

pub returns-clause-yes : goal.returns-clause-yes
unfolding digits
returns-clause-yes c = refl

pub returns-clause-hundredths : goal.returns-clause-hundredths
unfolding digits
returns-clause-hundredths c = refl

pub returns-clause-below_one : goal.returns-clause-below_one
unfolding digits
returns-clause-below_one c = refl

pub returns-clause-no_scale : goal.returns-clause-no_scale
unfolding digits
returns-clause-no_scale c = refl

pub returns-clause-pairs : goal.returns-clause-pairs
unfolding digits
returns-clause-pairs c = refl

pub returns-clause-category : goal.returns-clause-category
unfolding digits
returns-clause-category c = refl

pub returns-clause-list : goal.returns-clause-list
unfolding digits
returns-clause-list c = refl

pub returns-clause-empty_list : goal.returns-clause-empty_list
unfolding digits
returns-clause-empty_list c = refl

pub returns-clause-quoted : goal.returns-clause-quoted
unfolding digits
returns-clause-quoted c = refl

pub returns-clause-parts : goal.returns-clause-parts
unfolding digits
returns-clause-parts c = refl

pub returns-clause-list_word : goal.returns-clause-list_word
unfolding digits
returns-clause-list_word c = refl

pub returns-clause-array_word : goal.returns-clause-array_word
unfolding digits
returns-clause-array_word c = refl

pub returns-clause-struct_word : goal.returns-clause-struct_word
unfolding digits
returns-clause-struct_word c = refl
