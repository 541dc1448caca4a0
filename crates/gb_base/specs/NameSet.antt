-- Sets of names.
use Rattle.std.specs.Prelude.{◌≡◌, ℕ, List}
use Rattle.std.specs.List.{list_any}
use Rattle.std.specs.Str.{bytes_eq}

-- a set has these names and no others
abbrev pub AreAmong : List (List ℕ) → List (List ℕ) → Type 0
AreAmong names set = (name : List ℕ) → list_any (bytes_eq name) set ≡ list_any (bytes_eq name) names
