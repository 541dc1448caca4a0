-- Columns of nothing but nulls.
use Rattle.std.specs.Prelude.{◌≡◌, ℕ, ◌-◌, nat_lt, min, List, [], ◌∷◌, false, length, replicate, sum}
use Rattle.std.specs.List.{filter}
use Rattle.gb_defs.specs.Slot.{Slot, Nil}
use Rattle.gb_defs.specs.ColumnType as column
use Rattle.gb_defs.specs.Column.{ColumnValue, NotSorted}

-- the column of nulls with chunks of these lengths
abbrev pub null_column : List ℕ → List ℕ → ColumnValue
null_column name chunks = record { name = name; dtype = column.Flat column.Null; slots = replicate (sum chunks) Nil; chunks = chunks; sorted = NotSorted; all_used = false }

-- every slot is null
abbrev pub AreNulls : List Slot → Type 0
AreNulls slots = slots ≡ replicate (length slots) Nil

-- how many places of a chunk stand from one up to another, as a chunk's length, unless there are none
abbrev pub counted_part : ℕ → ℕ → ℕ → List ℕ
counted_part from to chunk = filter (nat_lt 0) ((min to chunk - from) ∷ [])
