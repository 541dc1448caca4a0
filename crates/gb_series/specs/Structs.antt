-- Columns of structs: which rows are null, and the fields, whose first rows count.
use Rattle.std.specs.Prelude.{◌≡◌, ℕ, zero, suc, ◌+◌, ◌<◌, ◌≤◌, ◌^◌, Bool, List, [], ◌∷◌, ◌++◌, length, map, take, true, false, None, Option}
use Rattle.std.specs.List.{All}
use Rattle.std.specs.Option.{option_or}
use Rattle.gb_base.specs.DataType.{fields_of}
use Rattle.gb_defs.specs.CellText.{part_text}
use Rattle.gb_defs.specs.Fault as fault
use Rattle.gb_defs.specs.Slot.{Slot, Items, is_nil, items_of, slot_at}
use Rattle.gb_defs.specs.ColumnType.{ColumnType, Fields, Fits, Flat, ListOf, ArrayOf, StructOf, NoFields}
use Rattle.gb_defs.specs.Column.{ColumnValue, Frame, NotSorted, all_have_length, first_repeated, names_of}
use Rattle.gb_cols.specs.Column.{appended}
use Rattle.gb_series.specs.Rows.{rows_of}

-- the slots of a row, one a field
abbrev pub across : Frame → ℕ → List Slot
across fields row = map (λ f. slot_at f.slots row) fields

-- those of so many rows from a row on
abbrev pub rows_across : Frame → ℕ → ℕ → List (List Slot)
rows_across fields start zero = []
rows_across fields start (suc n) = across fields start ∷ rows_across fields (suc start) n

-- a field's name and type
abbrev pub field_part : ColumnValue → List ℕ × ColumnType
field_part f = (f.name, f.dtype)

abbrev pub struct_type : Frame → ColumnType
struct_type fields = StructOf (fields_of (map field_part fields))

-- the column of structs of these fields, with the name and the chunks of a column of as many rows
abbrev pub struct_column : ColumnValue → List Bool → Frame → ColumnValue
struct_column rows present fields =
    record { name = rows.name; dtype = struct_type fields; slots = rows_of present (rows_across fields 0 (length present)); chunks = rows.chunks; sorted = NotSorted; all_used = false }

-- each row has a flag, each field has the rows, and no two fields have one name
pub record IsStruct (rows : ColumnValue) (present : List Bool) (fields : Frame) : Type 0 where
  pub flags : length present ≡ length rows.slots
  pub long : All (λ f. length present ≤ length f.slots) fields
  pub distinct : first_repeated (names_of fields) ≡ None

-- two fields have one name, or some field's length is not that of the flags
abbrev pub struct_fault : ℕ → Frame → Option fault.Fault
struct_fault count fields = option_or (fault.duplicate_of (first_repeated (names_of fields))) (fault.misaligned_fault fields (all_have_length count fields))

-- each slot of a field fits the field's type
abbrev pub FitsOwn : ColumnValue → Type 0
FitsOwn f = All (Fits f.dtype) f.slots

-- each of these rows is one of a field
abbrev pub HasRows : List ℕ → ColumnValue → Type 0
HasRows rows f = All (λ row. row < length f.slots) rows

-- the fields of a column of structs: they have its type, at least its rows, and what each row holds that is not null
pub record AreFieldsOf (c : ColumnValue) (fields : Frame) : Type 0 where
  pub typed : struct_type fields ≡ c.dtype
  pub long : All (λ f. length c.slots ≤ length f.slots) fields
  pub held : (row : ℕ) → row < length c.slots → is_nil (slot_at c.slots row) ≡ false → slot_at c.slots row ≡ Items (items_of (across fields row))

-- the parts of a struct's type
abbrev pub fields_in : ColumnType → Fields
fields_in (Flat t) = NoFields
fields_in (ListOf t) = NoFields
fields_in (ArrayOf t width) = NoFields
fields_in (StructOf fs) = fs

-- the text of a row of fields
abbrev pub struct_text : Frame → ℕ → List ℕ
struct_text fields row = part_text (struct_type fields) (Items (items_of (across fields row)))

-- ---- fields that change

-- a field is as it was up to a row
pub record KeepsRows (count : ℕ) (f g : ColumnValue) : Type 0 where
  pub part : field_part g ≡ field_part f
  pub rows : take count g.slots ≡ take count f.slots

-- so is each field
abbrev pub KeepAll : ℕ → Frame → Frame → Type 0
KeepAll count [] [] = Unit {0}
KeepAll count [] (g ∷ gs) = ⊥
KeepAll count (f ∷ fs) [] = ⊥
KeepAll count (f ∷ fs) (g ∷ gs) = KeepsRows count f g × KeepAll count fs gs

-- another column was put behind the first rows of a column, so many
pub record IsPutBehind (count : ℕ) (before other after : ColumnValue) : Type 0 where
  pub first : ColumnValue
  pub kept : KeepsRows count before first
  pub exact : length first.slots ≡ count
  pub joined : after ≡ appended first other
  pub few : count + length other.slots < 2 ^ 63

-- a field has so many rows of its own, and behind them so many of another
pub record IsJoined (count more : ℕ) (f o g : ColumnValue) : Type 0 where
  pub part : field_part g ≡ field_part f
  pub rows : g.slots ≡ take count f.slots ++ take more o.slots

-- so has each field
abbrev pub AreJoined : ℕ → ℕ → Frame → Frame → Frame → Type 0
AreJoined count more (f ∷ fs) (o ∷ os) (g ∷ gs) = IsJoined count more f o g × AreJoined count more fs os gs
AreJoined count more [] [] [] = Unit {0}
AreJoined count more _ _ _ = ⊥
