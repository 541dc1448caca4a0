-- What contracts see of the columns that rows are grouped by.
use Rattle.std.specs.Prelude.{◌≡◌, ◌⊎◌, ℕ, List, All, length, map}
use Rattle.gb_defs.specs.Answer.{height_of, stretched_key}
use Rattle.gb_defs.specs.Column.{ColumnValue, Frame}
use Rattle.gb_series.specs.Series.{value_of}
use Rattle.gb_frame.specs.declared.key.Key.{Key}
use Rattle.gb_frame.specs.declared.key.Key.TheVariants.{Lent, Owned}

abbrev pub key_value : Key → ColumnValue
key_value (Lent column) = value_of column.now
key_value (Owned column) = value_of column

abbrev pub columns_of : List Key → Frame
columns_of keys = map key_value keys

-- the key has so many rows, or one
abbrev pub IsOrOne : ℕ → ColumnValue → Type 0
IsOrOne height key = (length key.slots ≡ height) ⊎ (length key.slots ≡ 1)

abbrev pub AreOrOne : ℕ → Frame → Type 0
AreOrOne height keys = All (IsOrOne height) keys

-- each key of so many rows
abbrev pub high_keys : ℕ → Frame → Frame
high_keys height keys = map (stretched_key height) keys

-- each key of the height of what is grouped
abbrev pub stretched_keys : Frame → Frame → Frame
stretched_keys frame keys = high_keys (height_of frame keys) keys
