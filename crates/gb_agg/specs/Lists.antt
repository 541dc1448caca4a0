-- Lists of rows, one behind the other.
use Rattle.std.specs.Prelude.{◌≡◌, ℕ, List, All, length}
use Rattle.std.specs.List.{flat_map}
use Rattle.gb_defs.specs.Groups.{HasRowNumbers}
use Rattle.gb_values.specs.Array.{Rises}
use Rattle.gb_series.specs.Rows.{pieces_to}

-- the rows have numbers
abbrev pub HaveNumbers : List ℕ → Type 0
HaveNumbers rows = All HasRowNumbers rows

-- the rows of lists, one list's behind the other's, and where those of each end
pub record AreListed (lists : List (List ℕ)) (rows ends : List ℕ) : Type 0 where
  pub joined : rows ≡ flat_map (λ list. list) lists
  pub rises : Rises 0 ends (length rows)
  pub pieces : pieces_to 0 ends rows ≡ lists
