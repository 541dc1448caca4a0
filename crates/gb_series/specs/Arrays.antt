-- Columns of arrays: lists that all have one width.
use Rattle.std.specs.Prelude.{◌≡◌, ℕ, length, false}
use Rattle.std.specs.List.{All}
use Rattle.gb_defs.specs.Slot.{Slot, Nil, Num, Bytes, Items, listed}
use Rattle.gb_defs.specs.ColumnType.{ColumnType, Flat, ListOf, ArrayOf, StructOf, part_type}
use Rattle.gb_defs.specs.Column.{ColumnValue, NotSorted}

-- a slot that holds slots holds so many
abbrev pub HasWidth : ℕ → Slot → Type 0
HasWidth width Nil = Unit {0}
HasWidth width (Num n) = Unit {0}
HasWidth width (Bytes bytes) = Unit {0}
HasWidth width (Items parts) = length (listed parts) ≡ width

-- the column of arrays that are these lists
abbrev pub array_column : ℕ → ColumnValue → ColumnValue
array_column width lists =
    record { name = lists.name; dtype = ArrayOf (part_type lists.dtype 0) width; slots = lists.slots; chunks = lists.chunks; sorted = NotSorted; all_used = false }

-- the lists are lists, and each has the width
pub record IsArray (width : ℕ) (lists : ColumnValue) : Type 0 where
  pub lists_are : lists.dtype ≡ ListOf (part_type lists.dtype 0)
  pub wide : All (HasWidth width) lists.slots

-- how many items arrays of the type have
abbrev pub width_of : ColumnType → ℕ
width_of (Flat t) = 0
width_of (ListOf t) = 0
width_of (ArrayOf t width) = width
width_of (StructOf fs) = 0
