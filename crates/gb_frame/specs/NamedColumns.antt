-- The columns of a frame by their names.
use Rattle.std.specs.Prelude.{◌≡◌, ℕ, List, Option, option_map}
use Rattle.std.specs.Borrow.{Bor}
use Rattle.std.specs.BTreeMap.{BTreeMap, get_by}
use Rattle.std.specs.Cmp.Lexicographic.{slice_cmp}
use Rattle.std.specs.Ordering.{nat_cmp}
use Rattle.gb_defs.specs.Column.{ColumnValue, Frame, find_column}
use Rattle.gb_series.specs.Series.{value_of}
use Rattle.gb_series.specs.declared.series.Series.{Series}

-- the column that is stored under a name
abbrev pub stored_under : BTreeMap (Bor (List ℕ)) (Bor Series) → List ℕ → Option ColumnValue
stored_under stored name = option_map (λ s. value_of s.now) (get_by (λ key. slice_cmp nat_cmp name key.now) stored)

-- each column of the frame is stored under its name, the first where many have one
abbrev pub AreStored : Frame → BTreeMap (Bor (List ℕ)) (Bor Series) → Type 0
AreStored frame stored = (name : List ℕ) → stored_under stored name ≡ find_column frame name
