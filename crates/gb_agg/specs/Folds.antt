-- Folds over lists of rows.
use Rattle.std.specs.Prelude.{◌≡◌, ◌++◌, ℕ, Bool, List, length, map, All, Option, Some, None, Result, IfErr, IfOk, OnOk, if◌then◌else◌}
use Rattle.std.specs.List.{flat_map}
use Rattle.gb_defs.specs.Slot.{Items, Slot, items_of}
use Rattle.gb_defs.specs.ColumnType.{ColumnType}
use Rattle.gb_defs.specs.Column.{ColumnValue, Content, content, fresh_column}
use Rattle.gb_defs.specs.Fold.{Method, Min, Max, Sum, fold_of, fold_type, number_slot, sum_type}
use Rattle.gb_defs.specs.Groups.{AreMembers, Grouping, HasRowNumbers, lists_in}
use Rattle.gb_defs.specs.Fault.{Fault, has_least, has_sum, unfit_operation, unfit_or}
use Rattle.gb_base.specs.PolarsError.{Explains}
use Rattle.gb_base.specs.declared.error.PolarsError.{PolarsError}
use Rattle.gb_series.specs.Series.{value_of}
use Rattle.gb_series.specs.declared.series.Series.{Series}
use Rattle.gb_agg.specs.Method.{method_of}
use Rattle.gb_agg.specs.declared.method.GroupByMethod.{GroupByMethod}

-- the fold of a column over a list of rows
abbrev pub fold_in : Method → ColumnValue → List ℕ → Slot
fold_in method c rows = fold_of method c.dtype c.slots rows

-- how many rows there are
abbrev pub rows_fold : List ℕ → Slot
rows_fold rows = number_slot (length rows)

-- the rows as a list
abbrev pub list_of_rows : List ℕ → Slot
list_of_rows rows = Items (items_of (map number_slot rows))

-- a column of what is made of each list of rows
abbrev pub fold_column : List ℕ → ColumnType → (List ℕ → Slot) → List (List ℕ) → ColumnValue
fold_column name dtype fold lists = fresh_column name dtype (map fold lists)

-- the sums of a column over lists of rows, where its type has sums
abbrev pub sums_of_column : List ℕ → ColumnValue → List (List ℕ) → Option ColumnValue
sums_of_column name c lists = if has_sum c.dtype then Some (fold_column name (sum_type c.dtype) (fold_in Sum c) lists) else None

-- the method of the least slot, or of the greatest
abbrev pub extreme : Bool → Method
extreme greatest = if greatest then Max else Min

-- an aggregate of a column over lists of rows, under the column's name, in one chunk with no flag
abbrev pub folded : Method → ColumnValue → List (List ℕ) → ColumnValue
folded method c lists = fold_column c.name (fold_type method c.dtype) (fold_in method c) lists

-- the least slots of a column over lists of rows, or the greatest, where its type has them
abbrev pub extremes_of_column : Bool → ColumnValue → List (List ℕ) → Option ColumnValue
extremes_of_column greatest c lists = if has_least c.dtype then Some (folded (extreme greatest) c lists) else None

-- why an aggregate of a column is refused for the column's type
abbrev pub unfit_of : Method → ColumnValue → Option Fault
unfit_of method c = unfit_or c.name (unfit_operation method c.dtype) None

-- the rows of the groups are rows of the column, and the groups have numbers
pub record AreGroupsOf (c : ColumnValue) (groups : Grouping) : Type 0 where
  pub rows : All (AreMembers (length c.slots)) (lists_in groups)
  pub few : HasRowNumbers (length groups.pairs)

-- the column has the aggregate of the other for each group
abbrev pub IsAggregateOf : GroupByMethod → ColumnValue → Grouping → Series → Type 0
IsAggregateOf method c groups s = content (value_of s) ≡ content (folded (method_of method) c (lists_in groups))

-- an aggregate of a column for each group, or why its type has none
pub record Aggregates (method : GroupByMethod) (c : ColumnValue) (groups : Grouping) (made : Result Series PolarsError) : Type 0 where
  pub ok : IfOk made (IsAggregateOf method c groups)
  pub fits : OnOk made (unfit_of (method_of method) c ≡ None)
  pub err : IfErr made (λ e. Explains e (unfit_of (method_of method) c))

-- the slots of columns, one behind another
abbrev pub slots_of_parts : List Series → List Slot
slots_of_parts parts = flat_map (λ s. (value_of s).slots) parts

-- a column with the slots of others behind its own
abbrev pub joined_content : ColumnValue → List Series → Content
joined_content c parts = record { name = c.name; dtype = c.dtype; slots = c.slots ++ slots_of_parts parts }
