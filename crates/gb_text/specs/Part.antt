-- Columns that were read from a part of a table's text, and how such columns are joined.
use Rattle.std.specs.Prelude.{◌≡◌, ℕ, ◌+◌, ◌-◌, ◌≤◌, List, [], ◌∷◌, map, length, drop, slice_index, All, Option, Some, None, Result, Ok, IfOk, IfErr, IfSome, Vec}
use Rattle.csv.specs.declared.parser.State.{State}
use Rattle.csv.specs.declared.parser.State.TheVariants as st
use Rattle.csv.specs.Reading.{Reached, default_config}
use Rattle.csv.specs.Records.{fields_of}
use Rattle.gb_defs.specs.Slot.{Slot}
use Rattle.gb_defs.specs.Table.{Head, heads_of, rows_from}
use Rattle.gb_cols.specs.Column.{appended}
use Rattle.gb_text.specs.Asked.{is_asked, names_in}
use Rattle.gb_text.specs.Building.{Building, in_one_chunk}
use Rattle.gb_text.specs.Plain.{GoesOn}
use Rattle.gb_text.specs.Refusal.{IsRefusedTable}
use Rattle.gb_text.specs.Table.{built_from, built_of, columns_of_header, head_in}
use Rattle.gb_text.specs.declared.status.TableError.{TableError}
use Rattle.gb_text.specs.declared.table.lines.Lines.{Lines}

-- ---- columns that are joined

-- the column with another's slots behind
abbrev pub joined_to : Building → Building → Building
joined_to b d = record { keeps = b.keeps; column = appended b.column d.column }

-- each column with the slots of that at its place behind
abbrev pub joined : List Building → List Building → List Building
joined [] ds = []
joined (b ∷ bs) [] = []
joined (b ∷ bs) (d ∷ ds) = joined_to b d ∷ joined bs ds

-- the column with no slots
abbrev pub emptied : Building → Building
emptied b = built_of b.keeps (head_in b) []

-- so few slots that those of two columns fit into one
abbrev pub HasFew : Building → Type 0
HasFew b = length b.column.slots ≤ 4294967295

-- the columns before, where there are any, with these behind
abbrev pub IsWith : {A : Type 0} → Option (Vec Building A) → List Building → List Building → Type 0
IsWith None columns all = map in_one_chunk all ≡ map in_one_chunk columns
IsWith (Some before) columns all = map in_one_chunk all ≡ map in_one_chunk (joined before.items columns)

-- ---- parts of a text

-- the columns of a header with the records from one place of a text to a later one, in one chunk each
pub record IsPart (names : List (List ℕ)) (null_word : List ℕ) (header : List (List ℕ)) (text rest : List ℕ) (columns : List Building) : Type 0 where
  pub heads : List Head
  pub rows : List (List (List ℕ))
  pub slots : List (List Slot)
  pub state : State
  pub left : List ℕ
  pub heads_are : heads_of header ≡ Ok heads
  pub reached : Reached default_config st.StartRecord text rows state left
  pub goes_on : GoesOn state left rest
  pub slots_are : (row : ℕ) → rows_from null_word row heads rows ≡ Ok slots
  pub columns_are : columns ≡ built_from (is_asked names) 0 heads slots

-- the columns are those of some header, with no slots
pub record IsSomeStart (columns : List Building) : Type 0 where
  pub names : List (List ℕ)
  pub header : List (List ℕ)
  pub start : columns_of_header (is_asked names) header ≡ Ok columns

-- for each header that gives the columns, others have the records from a text to what stands behind them
abbrev pub HasLines : List Building → List ℕ → List ℕ → List ℕ → List Building → Type 0
HasLines columns null_word text rest all =
    (names header : List (List ℕ)) → columns_of_header (is_asked names) header ≡ Ok columns
    → IsPart names null_word header text rest (map in_one_chunk all)

-- the columns of the lines from one place to another, whatever their chunks
abbrev pub HasPart : Lines → ℕ → ℕ → List Building → Type 0
HasPart l from to columns =
    IsPart (names_in l.names.now) l.null_word.now (fields_of l.header.now) (drop from l.text.now) (drop to l.text.now) (map in_one_chunk columns)

-- the error is want of memory, or the fault of the header
abbrev pub IsHeaderRefused : Lines → TableError → Type 0
IsHeaderRefused l e = IsRefusedTable e (columns_of_header (is_asked (names_in l.names.now)) (fields_of l.header.now))

-- the columns of the part behind a cut, if all of it reads
pub record ReadsPart {A : Type 0} (l : Lines) (cuts : List ℕ) (k : ℕ) (r : Result (Option (Vec Building A)) TableError) : Type 0 where
  pub ok : IfOk r (λ found. IfSome found (λ columns. HasPart l (slice_index cuts k) (slice_index cuts (k + 1)) columns.items))
  pub err : IfErr r (IsHeaderRefused l)

-- places of a text, the first at its front
pub record AreCuts (long : ℕ) (cuts : List ℕ) : Type 0 where
  pub some : 2 ≤ length cuts
  pub front : slice_index cuts 0 ≡ 0
  pub inside : All (λ cut. cut ≤ long) cuts

-- the last of the places
abbrev pub last_cut : List ℕ → ℕ
last_cut cuts = slice_index cuts (length cuts - 1)
