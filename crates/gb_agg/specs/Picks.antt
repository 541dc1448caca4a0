-- Rows that are picked of groups.
use Rattle.std.specs.Prelude.{◌≡◌, ℕ, ◌<◌, ◌≤◌, List, length, map}
use Rattle.std.specs.List.{All}
use Rattle.gb_defs.specs.Column.{ColumnValue}
use Rattle.gb_defs.specs.Slot.{Slot, slot_at}

-- a row of the column, or the row behind its last one, where a null is read
abbrev pub IsPick : ColumnValue → ℕ → Type 0
IsPick c row = row ≤ length c.slots

-- a row for each list, whose slot is what is made of the list
pub record ArePicks (c : ColumnValue) (fold : List ℕ → Slot) (lists : List (List ℕ)) (rows : List ℕ) : Type 0 where
  pub inside : All (IsPick c) rows
  pub picked : map (slot_at c.slots) rows ≡ map fold lists

-- the row that is picked of some rows, or the row behind the last one where there are none
pub record IsPicked (c : ColumnValue) (fold : List ℕ → Slot) (rows : List ℕ) (row : ℕ) : Type 0 where
  pub some : 0 < length rows → row < length c.slots
  pub none : length rows ≡ 0 → row ≡ length c.slots
  pub picked : slot_at c.slots row ≡ fold rows
