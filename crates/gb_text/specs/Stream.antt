-- A table that is read from its source block by block: what was read, and what it comes to.
use Rattle.std.specs.Prelude.{◌≡◌, ◌≢◌, ℕ, ◌+◌, ◌-◌, ◌<◌, ◌≤◌, List, [], ◌∷◌, ◌++◌, length, map, get_or, drop, Option, IfErr, IfOk, IfSome, option_map, Result, Ok, Err}
use Rattle.std.specs.Bool.{OnTrue}
use Rattle.std.specs.Str.{IsAscii}
use Rattle.csv.specs.Reading.{strip_bom}
use Rattle.csv.specs.Records.{Row, fields_of}
use Rattle.gb_base.specs.Device.{Rose}
use Rattle.gb_defs.specs.Table as table
use Rattle.gb_defs.specs.Column.{ColumnValue, rechunked}
use Rattle.gb_text.specs.Asked.{asked_table, is_asked, names_in}
use Rattle.gb_text.specs.Building.{Building, in_one_chunk}
use Rattle.gb_text.specs.Part.{IsPart}
use Rattle.gb_text.specs.Plain.{BeginsWith, IsBehind}
use Rattle.gb_text.specs.Moved.{HasMoved, HasTaken, IsInputFault, IsReadToEnd}
use Rattle.gb_text.specs.Status.{fault_value}
use Rattle.gb_text.specs.Table.{columns_of_header}
use Rattle.gb_text.specs.declared.streams.Progress.{Progress}
use Rattle.gb_text.specs.declared.table.blocks.Reading.{Reading}
use Rattle.gb_text.specs.declared.table.blocks.Start.{Start}
use Rattle.gb_text.specs.declared.status.Status.{Status}
use Rattle.gb_text.specs.declared.status.Status.TheVariants.{Table, ReadFault, TooLong, NoMemory}

-- ---- the source

-- bytes were moved from the front of what was left behind those that are held, and counted
pub record HasFilled (read read_after : ℕ) (held held_after : List ℕ) (before after : Option (List ℕ)) : Type 0 where
  pub count : ℕ
  pub counted : read_after ≡ read + count
  pub moved : HasMoved count held held_after before after

-- what it came to to move the next bytes of a source behind those that are held, of an input of which so many were read before
pub record IsFilled (limit read : ℕ) (held held_after : List ℕ) (before after : Option (List ℕ)) (faults faults_after : ℕ) (result : Result Progress Status) : Type 0 where
  pub filled : IfOk result (λ p. HasFilled read p.read held held_after before after)
  pub within : IfOk result (λ p. p.read ≤ limit)
  pub ended : IfOk result (λ p. OnTrue p.ended (IfSome after (λ rest. rest ≡ [])))
  pub ascii : IfOk result (λ p. OnTrue p.ascii (IsAscii held_after))
  pub err : IfErr result (λ s. IsInputFault faults faults_after (limit - read) before s)
  pub taken : result ≢ Err ReadFault → HasTaken (limit - read + 65536) before after
  pub kept : faults ≤ faults_after

-- the source had bytes within the limit of which this holds, and all were read
pub record HasReadAll (limit : ℕ) (before after : Option (List ℕ)) (P : List ℕ → Type 0) : Type 0 where
  pub bytes : List ℕ
  pub told : IfSome before (λ told. bytes ≡ told)
  pub ended : IsReadToEnd before after
  pub within : length bytes ≤ limit
  pub holds : P bytes

-- why no table was read: it is at fault, and all of it was read, or its source failed or was too long
abbrev pub IsRefusedInput : List ℕ → ℕ → ℕ → ℕ → Option (List ℕ) → Option (List ℕ) → Status → Type 0
IsRefusedInput null_word faults faults_after limit before after (Table fault) = HasReadAll limit before after (λ bytes. table.table bytes null_word ≡ Err (fault_value fault))
IsRefusedInput null_word faults faults_after limit before after ReadFault = Rose faults faults_after
IsRefusedInput null_word faults faults_after limit before after TooLong = IfSome before (λ bytes. limit < length bytes)
IsRefusedInput null_word faults faults_after limit before after NoMemory = Unit {0}
IsRefusedInput null_word faults faults_after limit before after _ = ⊥

-- ---- the table so far

-- behind a byte order mark the bytes begin with the header, and the rest stands behind it
pub record IsHeaded (bytes : List ℕ) (header : List (List ℕ)) (rest : List ℕ) : Type 0 where
  pub some : 0 < length (strip_bom bytes)
  pub feed : get_or (strip_bom bytes) 0 0 ≢ 10
  pub return : get_or (strip_bom bytes) 0 0 ≢ 13
  pub begins : BeginsWith header (strip_bom bytes) rest

-- the bytes are a header and the records of the columns, and behind these what is held
pub record IsFront (names : List (List ℕ)) (null_word : List ℕ) (header : List (List ℕ)) (bytes held : List ℕ) (columns : List Building) : Type 0 where
  pub rest : List ℕ
  pub headed : IsHeaded bytes header rest
  pub part : IsPart names null_word header rest held (map in_one_chunk columns)
  pub behind : IsBehind bytes held

-- the header that the bytes begin with, its columns with no slots, and the place of the lines behind it
pub record IsStarted (names : List (List ℕ)) (bytes : List ℕ) (start : Start) : Type 0 where
  pub long : 3 ≤ length bytes
  pub inside : start.lines < length bytes
  pub headed : IsHeaded bytes (fields_of start.header) (drop start.lines bytes)
  pub columns_are : columns_of_header (is_asked names) (fields_of start.header) ≡ Ok start.columns.items

-- the same of bytes within the longest input
pub record IsFewFront (names : List (List ℕ)) (null_word : List ℕ) (header : List (List ℕ)) (held : List ℕ) (columns : List Building) : Type 0 where
  pub bytes : List ℕ
  pub few : length bytes ≤ 4294967295
  pub front : IsFront names null_word header bytes held columns

-- what was read from the source is a front of the table, of which some is held
pub record IsStreamed (names : List (List ℕ)) (null_word : List ℕ) (header : List (List ℕ)) (limit : ℕ) (first left : Option (List ℕ)) (read : ℕ) (held : List ℕ) (columns : List Building) : Type 0 where
  pub bytes : List ℕ
  pub told : first ≡ option_map (λ more. bytes ++ more) left
  pub counted : read ≡ length bytes
  pub within : read ≤ limit
  pub long : 3 ≤ length bytes
  pub some : 0 < length held
  pub front : IsFront names null_word header bytes held columns

-- the same of some source
pub record IsSomeStreamed (names : List (List ℕ)) (null_word : List ℕ) (header : List (List ℕ)) (limit : ℕ) (left : Option (List ℕ)) (read : ℕ) (held : List ℕ) (columns : List Building) : Type 0 where
  pub first : Option (List ℕ)
  pub streamed : IsStreamed names null_word header limit first left read held columns

-- the columns have read a front of some table, and what is held stands behind it
pub record IsSomeFront (null_word held : List ℕ) (columns : List Building) : Type 0 where
  pub names : List (List ℕ)
  pub header : List (List ℕ)
  pub bytes : List ℕ
  pub few : length bytes ≤ 4294967295
  pub front : IsFront names null_word header bytes held columns

-- how many rows the first column has
abbrev pub rows_read : List Building → ℕ
rows_read [] = 0
rows_read (b ∷ bs) = length b.column.slots

-- ---- the same, by what a table is read for

abbrev pub IsFrontBy : Reading → Row → List ℕ → List ℕ → List Building → Type 0
IsFrontBy r header bytes held columns = IsFront (names_in r.names.now) r.null_word.now (fields_of header) bytes held columns

abbrev pub IsReadBy : Reading → Row → ℕ → Option (List ℕ) → Option (List ℕ) → ℕ → List ℕ → List Building → Type 0
IsReadBy r header limit first left read held columns = IsStreamed (names_in r.names.now) r.null_word.now (fields_of header) limit first left read held columns

-- what comes of reading on to the end of the source, where what was read is a front of the table
pub record ReadsOn (r : Reading) (header : Row) (limit : ℕ) (left left_after : Option (List ℕ)) (read : ℕ) (held : List ℕ) (columns : List Building) (faults faults_after : ℕ) (result : Result (List ColumnValue) Status) : Type 0 where
  pub ok : IfOk result (λ frame. (first : Option (List ℕ)) → IsReadBy r header limit first left read held columns
      → HasReadAll limit first left_after (λ bytes. asked_table (names_in r.names.now) bytes r.null_word.now ≡ Ok (map rechunked frame)))
  pub err : IfErr result (λ s. (first : Option (List ℕ)) → IsReadBy r header limit first left read held columns
      → IsRefusedInput r.null_word.now faults faults_after limit first left_after s)
  pub taken : result ≢ Err ReadFault → (first : Option (List ℕ)) → IsReadBy r header limit first left read held columns
      → HasTaken (limit + 65536) first left_after
  pub kept : faults ≤ faults_after
