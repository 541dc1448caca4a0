-- Rows of the least or of the greatest slots of groups.
use Rattle.std.specs.Prelude.{◌≡◌, ℕ, Bool, false, not, true, List, if◌then◌else◌}
use Rattle.gb_defs.specs.Column.{ColumnValue}
use Rattle.gb_defs.specs.ColumnType.{ColumnType}
use Rattle.gb_defs.specs.Fault.{has_least}
use Rattle.gb_defs.specs.Fold as fold
use Rattle.gb_defs.specs.Order.{ByText, InFolds, below}
use Rattle.gb_defs.specs.Slot.{Slot, Nil}
use Rattle.gb_compare.specs.Placed.{placed_below}
use Rattle.gb_agg.specs.Folds.{extreme, fold_in}
use Rattle.gb_agg.specs.Picks.{ArePicks}

-- whether a slot is less than another in folds: nulls before every value, or behind every value
abbrev pub ranked_below : Bool → ColumnType → Slot → Slot → Bool
ranked_below nulls_last t Nil Nil = false
ranked_below nulls_last t Nil b = not nulls_last
ranked_below nulls_last t a Nil = nulls_last
ranked_below nulls_last t a b = below InFolds t a b

-- a slot is less than another, or greater where that is asked; a null is neither
abbrev pub is_better : Bool → ColumnType → Slot → Slot → Bool
is_better greatest t a b = if greatest then ranked_below false t b a else ranked_below true t a b

-- the least of slots, or the greatest
abbrev pub extreme_of : Bool → ColumnType → List Slot → Slot
extreme_of greatest t slots = if greatest then fold.greatest t slots else fold.least t slots

-- the same by how columns are compared, categories by their texts
abbrev pub compares_better : Bool → ColumnType → Slot → Slot → Bool
compares_better greatest t a b = if greatest then placed_below false t b a else placed_below true t a b

-- in folds, slots of the type are in the order in which a column is compared
abbrev pub FoldsAsCompared : ColumnType → Type 0
FoldsAsCompared t = (a b : Slot) → below InFolds t a b ≡ below ByText t a b
