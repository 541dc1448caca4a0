use Rattle.std.proofs.Common.{◌≡◌, ◌++◌, ◌∷◌, take}
use Rattle.std.specs.List.{flat_map}
use Rattle.gb_series.specs.Text.{escaped}
use Rattle.gb_series.proofs.nested.text.write_quoted.Given as goal

abbrev pub invariant-loop-byte : goal.invariant-loop-byte
invariant-loop-byte l = l.to.items ≡ l.fn.to.items ++ (34 ∷ flat_map escaped (take l.byte-index l.text))
