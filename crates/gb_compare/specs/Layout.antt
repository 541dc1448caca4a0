-- In which layout a column is compared, and which column a layout compares.
use Rattle.std.specs.Prelude.{◌≡◌, Bool, true, false, ◌==◌, length}
use Rattle.std.specs.List.{All, list_any}
use Rattle.gb_defs.specs.Column.{ColumnValue}
use Rattle.gb_defs.specs.Slot.{Slot, is_nil}
use Rattle.gb_cols.specs.Codes.{IsCodeBelow}
use Rattle.gb_logical.specs.Categorical.{coded_as}
use Rattle.gb_flat_series.specs.FlatSeries.{IsFlat}
use Rattle.gb_flat_series.specs.declared.series.FlatSeries.TheVariants as flat
use Rattle.gb_series.specs.Series.{value_of}
use Rattle.gb_series.specs.declared.series.Series.{Series}
use Rattle.gb_series.specs.declared.series.Series.TheVariants as series
use Rattle.gb_compare.specs.Placed.{placed_below, text_type}
use Rattle.gb_compare.specs.declared.layout.EqInner.{EqInner}
use Rattle.gb_compare.specs.declared.layout.EqInner.TheVariants as equal
use Rattle.gb_compare.specs.declared.layout.OrdInner.{OrdInner}
use Rattle.gb_compare.specs.declared.layout.OrdInner.TheVariants as ordered
use Rattle.gb_compare.specs.declared.categories.LocalCategorical.{LocalCategorical}

-- one chunk or several, with no null or with some; nothing but nulls; codes of texts
pub data Layout : Type 0 where
  OneValid : Layout
  OneWithNulls : Layout
  ManyValid : Layout
  ManyWithNulls : Layout
  OnlyNulls : Layout
  ByTexts : Layout

abbrev pub chunk_layout : Bool → Bool → Layout
chunk_layout true false = OneValid
chunk_layout true true = OneWithNulls
chunk_layout false false = ManyValid
chunk_layout false true = ManyWithNulls

-- by how many chunks there are, and whether some slot is null
abbrev pub plain_layout : ColumnValue → Layout
plain_layout c = chunk_layout (length c.chunks == 1) (list_any is_nil c.slots)

-- the layout that a series takes where its slots are told to be equal
abbrev pub eq_layout_for : Series → Layout
eq_layout_for (series.Flat (flat.Null c)) = OnlyNulls
eq_layout_for s = plain_layout (value_of s)

-- and where they are put in order
abbrev pub ord_layout_for : Series → Layout
ord_layout_for (series.Flat (flat.Null c)) = OnlyNulls
ord_layout_for (series.Flat (flat.Categorical c)) = ByTexts
ord_layout_for s = plain_layout (value_of s)

-- ---- the layouts, and the columns that they compare

abbrev pub eq_column : EqInner → ColumnValue
eq_column (equal.SingleNoNull s) = value_of s.0.now
eq_column (equal.Single s) = value_of s.now
eq_column (equal.MultiNoNull s) = value_of s.0.now
eq_column (equal.Multi s) = value_of s.now
eq_column (equal.Null c) = c.now

abbrev pub eq_layout : EqInner → Layout
eq_layout (equal.SingleNoNull s) = OneValid
eq_layout (equal.Single s) = OneWithNulls
eq_layout (equal.MultiNoNull s) = ManyValid
eq_layout (equal.Multi s) = ManyWithNulls
eq_layout (equal.Null c) = OnlyNulls

-- the codes as a column of categories
abbrev pub local_column : LocalCategorical → ColumnValue
local_column c = coded_as (text_type c.rev_map.now) false c.cats.now

-- every code has a text
abbrev pub HasTexts : LocalCategorical → Type 0
HasTexts c = All (IsCodeBelow (length c.rev_map.now)) c.cats.now.slots

abbrev pub ord_column : OrdInner → ColumnValue
ord_column (ordered.SingleNoNull s) = value_of s.0.now
ord_column (ordered.Single s) = value_of s.now
ord_column (ordered.MultiNoNull s) = value_of s.0.now
ord_column (ordered.Multi s) = value_of s.now
ord_column (ordered.Null c) = c.now
ord_column (ordered.Local c) = local_column c

abbrev pub ord_layout : OrdInner → Layout
ord_layout (ordered.SingleNoNull s) = OneValid
ord_layout (ordered.Single s) = OneWithNulls
ord_layout (ordered.MultiNoNull s) = ManyValid
ord_layout (ordered.Multi s) = ManyWithNulls
ord_layout (ordered.Null c) = OnlyNulls
ord_layout (ordered.Local c) = ByTexts

-- its slots have an order
abbrev pub HasOrder : OrdInner → Type 0
HasOrder (ordered.SingleNoNull s) = IsFlat (value_of s.0.now).dtype
HasOrder (ordered.Single s) = IsFlat (value_of s.now).dtype
HasOrder (ordered.MultiNoNull s) = IsFlat (value_of s.0.now).dtype
HasOrder (ordered.Multi s) = IsFlat (value_of s.now).dtype
HasOrder (ordered.Null c) = Unit {0}
HasOrder (ordered.Local c) = HasTexts c

-- a column has the slots of another, in the same order
pub record ComparesLike (c other : ColumnValue) : Type 0 where
  pub slots : other.slots ≡ c.slots
  pub placed : (nulls_last : Bool) (a b : Slot) → placed_below nulls_last other.dtype a b ≡ placed_below nulls_last c.dtype a b
