use Rattle.std.proofs.Common.{◌≡◌, map, length}
use Rattle.std.specs.String.{string_bytes}
use Rattle.gb_defs.specs.Request as asked
use Rattle.gb_run.specs.Words.{given_of}
use Rattle.gb_run.proofs.words.given_from.Given as goal

abbrev pub invariant-loop-option : goal.invariant-loop-option
invariant-loop-option l = asked.given_from (map string_bytes l.options) asked.nothing ≡ asked.given_from (map string_bytes l.left) (given_of l.given)

abbrev pub decreases-loop-option : goal.decreases-loop-option
decreases-loop-option l = length l.left
