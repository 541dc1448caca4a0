-- How a table's text is taken up, record by record, and the fault of a record.
use Rattle.std.specs.Prelude.{◌≡◌, map, ℕ, suc, Bool, true, List, [], ◌∷◌, Option, Some, Result, Ok, Err}
use denote.Ref.{Bor}
use Rattle.gb_defs.specs.Slot.{Slot}
use Rattle.gb_defs.specs.Column.{fresh_column}
use Rattle.gb_defs.specs.Table.{TableFault, Head, heads_of, record_slots, slots_of_column}
use Rattle.gb_text.specs.Building.{Building, kept_slot, taken}
use Rattle.csv.specs.declared.reader.Reader.{Reader}
use Rattle.csv.specs.declared.reader.Trim.TheVariants as trim
use Rattle.csv.specs.declared.parser.State.TheVariants as st
use Rattle.csv.specs.Reading.{Ready, default_config, source_of, strip_bom}

-- what a result holds, changed, where there is no fault
abbrev pub map_ok : {A B : Type 0} → (A → B) → Result A TableFault → Result B TableFault
map_ok f (Ok x) = Ok (f x)
map_ok f (Err fault) = Err fault

-- ---- a record

abbrev pub head_in : Building → Head
head_in b = record { name = b.column.name; dtype = b.column.dtype }

-- the columns with a slot more each, as far as there are slots
abbrev pub taken_each : List Building → List Slot → List Building
taken_each [] slots = []
taken_each (b ∷ bs) [] = []
taken_each (b ∷ bs) (slot ∷ slots) = taken b slot ∷ taken_each bs slots

-- the columns with the slots of a record of this row at their ends, or the record's fault
abbrev pub columns_with : List ℕ → ℕ → List Building → List (List ℕ) → Result (List Building) TableFault
columns_with null_word row bs fields = map_ok (taken_each bs) (record_slots null_word row (map head_in bs) fields)

-- the column of these slots, which are kept or not
abbrev pub built_of : Bool → Head → List Slot → Building
built_of keeps head slots = record { keeps = keeps; column = fresh_column head.name head.dtype (map (kept_slot keeps) slots) }

-- the columns from the k-th on with the slots that their cells read as, kept where that is asked
abbrev pub built_from : (List ℕ → Bool) → ℕ → List Head → List (List Slot) → List Building
built_from asked k [] rows = []
built_from asked k (head ∷ heads) rows = built_of (asked head.name) head (slots_of_column k rows) ∷ built_from asked (suc k) heads rows

-- the columns of a header, with no slots, or the header's fault
abbrev pub columns_of_header : (List ℕ → Bool) → List (List ℕ) → Result (List Building) TableFault
columns_of_header asked fields = map_ok (λ heads. built_from asked 0 heads []) (heads_of fields)

-- ---- a reader

-- the reader gives whole records of any length, and no header row
pub record GivesRecords (reader : Reader (Bor (List ℕ))) : Type 0 where
  pub trim : reader.trim ≡ trim.None
  pub ready : Ready reader
  pub config : reader.config ≡ default_config
  pub flexible : reader.flexible ≡ true

-- the bytes of a slice that are left
abbrev pub left_of : Bor (List ℕ) → Option (List ℕ)
left_of s = Some s.now

-- the reader has yet to give the records of these bytes
pub record HasRecordsOf (bytes : List ℕ) (reader : Reader (Bor (List ℕ))) : Type 0 where
  pub gives : GivesRecords reader
  pub source : source_of left_of reader ≡ Some (strip_bom bytes)
  pub state : reader.state ≡ st.StartRecord
