-- What is known of a column while its cells are read.
use Rattle.std.specs.Prelude.{◌≡◌, ℕ, ◌≤◌, Bool, List, length, Option, Some, None, option_map, refl, if◌then◌else◌}
use Rattle.std.specs.Coded.{Coded, code_by, coded×, coded_bool}
use Rattle.gb_defs.specs.Cell.{cell_slot}
use Rattle.gb_defs.specs.Column.{ColumnValue, column_code, fresh_column, rechunked}
use Rattle.gb_defs.specs.Slot.{Slot, Nil}
use Rattle.gb_defs.specs.Table.{read_column}
use Rattle.gb_cols.specs.Column.{HasRoom, pushed}
use Rattle.gb_numbers.specs.Taken.{if_taken}

-- whether the slots that the cells read as are kept, and the column so far. Where they are not kept a
-- null stands for each
pub record Building : Type 0 where
  pub keeps : Bool
  pub column : ColumnValue

abbrev pub building_code : Coded Building
building_code = code_by (Bool × ColumnValue) (coded× coded_bool column_code) (λ b. (b.keeps, b.column)) (λ p. record { keeps = p.0; column = p.1 }) (λ b. refl)

abbrev pub kept_slot : Bool → Slot → Slot
kept_slot keeps slot = if keeps then slot else Nil

-- one slot more
abbrev pub taken : Building → Slot → Building
taken b slot = record { keeps = b.keeps; column = pushed b.column (kept_slot b.keeps slot) }

-- the slot of a cell more, None where it does not read
abbrev pub building_with : List ℕ → Building → List ℕ → Option Building
building_with null_word b cell = option_map (taken b) (cell_slot null_word b.column.dtype cell)

-- whether the cell reads, and if so its slot is the next
abbrev pub BuildsCell : List ℕ → Building → Building → List ℕ → Bool → Type 0
BuildsCell null_word old new cell took = if_taken took new ≡ building_with null_word old cell

-- there is room for one slot more
abbrev pub IsRoomy : Building → Type 0
IsRoomy b = HasRoom b.column

-- the column in one chunk
abbrev pub in_one_chunk : Building → Building
in_one_chunk b = record { keeps = b.keeps; column = rechunked b.column }

-- slots with no flag, which are not too many for codes
pub record IsWholeColumn (c : ColumnValue) : Type 0 where
  pub fresh : rechunked c ≡ fresh_column c.name c.dtype c.slots
  pub few : length c.slots ≤ 4294967295

abbrev pub IsWhole : Building → Type 0
IsWhole b = IsWholeColumn b.column

-- the column whose cells read as these slots, in one chunk
abbrev pub read_as : ColumnValue → ColumnValue
read_as c = read_column c.name c.dtype c.slots

-- the same, where they are kept
abbrev pub read_if_kept : Building → Option ColumnValue
read_if_kept b = if b.keeps then Some (read_as b.column) else None
