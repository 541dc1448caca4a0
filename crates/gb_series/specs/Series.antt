-- What contracts see of a column of any type.
use Rattle.std.specs.Prelude.{ℕ, ◌+◌, pos, List, [], ◌∷◌, Option, None, Some}
use Rattle.std.specs.Borrow.{Bor}
use Rattle.gb_defs.specs.Column.{ColumnValue, NotSorted, flagged, sliced}
use Rattle.gb_defs.specs.Slot.{Slot, Nil, Items, items_of}
use Rattle.gb_flat_series.specs.FlatSeries.{column_of}
use Rattle.gb_series.specs.declared.series.Series.{Series}
use Rattle.gb_series.specs.declared.series.Series.TheVariants as series

abbrev pub value_of : Series → ColumnValue
value_of (series.Flat c) = column_of c
value_of (series.List c) = c.value
value_of (series.Array c) = c.value
value_of (series.Struct c) = c.value

-- the slot that holds a series, or a null
abbrev pub row_slot_of : Option Series → Slot
row_slot_of None = Nil
row_slot_of (Some series) = Items (items_of (value_of series).slots)

-- the same of a series that is lent
abbrev pub lent_slot : Option (Bor Series) → Slot
lent_slot None = Nil
lent_slot (Some series) = Items (items_of (value_of series.now).slots)

-- so many rows from a row on, with no flag
abbrev pub part_at : ℕ → ℕ → ColumnValue → ColumnValue
part_at start len column = flagged NotSorted (sliced (pos start) len column)

-- parts of these lengths, one after the other from a row on
abbrev pub cut_at : ColumnValue → ℕ → List ℕ → List ColumnValue
cut_at column start [] = []
cut_at column start (len ∷ lens) = part_at start len column ∷ cut_at column (start + len) lens
