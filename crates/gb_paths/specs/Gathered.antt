-- Rows of a list, by their places in it.
use Rattle.std.specs.Prelude.{ℕ, List, get_or, length}
use Rattle.gb_defs.specs.Groups.{AreMembers}
use Rattle.gb_defs.specs.Rows.{Rows}
use Rattle.gb_hash.specs.Keys.{HashAlike}

-- what stands at each place
abbrev pub gathered : Rows → List ℕ → Rows
gathered rows members = record {
  count = length members;
  slot = λ place. rows.slot (get_or members place 0);
  hash = λ place. rows.hash (get_or members place 0);
}

-- rows with one slot have one hash
pub gathered_alike : (rows : Rows) (members : List ℕ) → AreMembers rows.count members → HashAlike rows → HashAlike (gathered rows members)
gathered_alike rows members inside alike i j lt lt' same = alike _ _ (inside.below i 0 lt) (inside.below j 0 lt') same
