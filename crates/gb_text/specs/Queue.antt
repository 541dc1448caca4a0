-- The blocks of a table that threads read, and what is held of its source behind them.
use Rattle.std.specs.Prelude.{◌≡◌, ℕ, ◌<◌, ◌≤◌, List, [], ◌∷◌, ◌++◌, length, take, drop, map, Option, Ok, IfOk, IfSome}
use Rattle.std.specs.String.{string_bytes}
use Rattle.csv.specs.Records.{Row, fields_of}
use Rattle.gb_text.specs.Asked.{is_asked, names_in}
use Rattle.gb_text.specs.Building.{Building, in_one_chunk}
use Rattle.gb_text.specs.Part.{IsPart}
use Rattle.gb_text.specs.Stream.{IsFront, IsStreamed}
use Rattle.gb_text.specs.Table.{columns_of_header}
use Rattle.gb_text.specs.declared.table.blocks.Reading.{Reading}
use Rattle.gb_text.specs.declared.table.jobs.Block.{Block}
use Rattle.gb_text.specs.declared.table.jobs.Done.{Done}
use Rattle.gb_text.specs.declared.table.jobs.Job.{Job}

-- ---- the blocks

-- the block that the thread reads
abbrev pub block_of : Job → Block
block_of j = j.handle.promise.block.value

-- the lines of the blocks, and behind them what is held
abbrev pub unread : List Job → List ℕ → List ℕ
unread [] held = held
unread (j ∷ js) held = take (block_of j).place (block_of j).text.items ++ unread js held

-- something stands behind the place of a text, and the rest begins with it
pub record IsTail (text : List ℕ) (place : ℕ) (rest : List ℕ) : Type 0 where
  pub some : 0 < length (drop place text)
  pub more : List ℕ
  pub goes_on : rest ≡ drop place text ++ more

-- a block of the table with this header, behind which the rest stands
pub record IsBlock (names : List (List ℕ)) (null_word : List ℕ) (header : List (List ℕ)) (b : Block) (rest : List ℕ) : Type 0 where
  pub null_word_is : string_bytes b.null_word ≡ null_word
  pub start : columns_of_header (is_asked names) header ≡ Ok b.columns.items
  pub tail : IsTail b.text.items b.place rest

abbrev pub AreBlocks : List (List ℕ) → List ℕ → List (List ℕ) → List Job → List ℕ → Type 0
AreBlocks names null_word header [] held = Unit {0}
AreBlocks names null_word header (j ∷ js) held = IsBlock names null_word header (block_of j) (unread js held) × AreBlocks names null_word header js held

-- the columns of a block, if all its lines read
pub record IsDone (names : List (List ℕ)) (null_word : List ℕ) (header : List (List ℕ)) (d : Done) : Type 0 where
  pub some : 0 < length (drop d.place d.text.items)
  pub within : d.place ≤ length d.text.items
  pub found : IfOk d.found (λ found. IfSome found (λ all. IsPart names null_word header d.text.items (drop d.place d.text.items) (map in_one_chunk all.items)))

-- ---- the table so far

-- the columns have read a front of the table, behind which the blocks stand
pub record IsQueue (names : List (List ℕ)) (null_word : List ℕ) (header : List (List ℕ)) (bytes : List ℕ) (jobs : List Job) (held : List ℕ) (columns : List Building) : Type 0 where
  pub front : IsFront names null_word header bytes (unread jobs held) columns
  pub blocks : AreBlocks names null_word header jobs held
  pub some : 0 < length (unread jobs held)

-- the same of some table within the longest input
pub record IsSomeQueue (jobs : List Job) (held : List ℕ) (columns : List Building) : Type 0 where
  pub names : List (List ℕ)
  pub null_word : List ℕ
  pub header : List (List ℕ)
  pub bytes : List ℕ
  pub few : length bytes ≤ 4294967295
  pub queue : IsQueue names null_word header bytes jobs held columns

-- the same of some table with this header
pub record IsSomeQueueOf (names : List (List ℕ)) (null_word : List ℕ) (header : List (List ℕ)) (jobs : List Job) (held : List ℕ) (columns : List Building) : Type 0 where
  pub bytes : List ℕ
  pub few : length bytes ≤ 4294967295
  pub queue : IsQueue names null_word header bytes jobs held columns

-- of whichever table this is the queue, that is its queue too
abbrev pub StaysQueue : List Job → List ℕ → List Building → List Job → List ℕ → List Building → Type 0
StaysQueue jobs held columns jobs_after held_after columns_after =
    (names : List (List ℕ)) (null_word : List ℕ) (header : List (List ℕ)) (bytes : List ℕ)
    → IsQueue names null_word header bytes jobs held columns
    → IsQueue names null_word header bytes jobs_after held_after columns_after

-- a block of some table was read that stands behind the others
pub record IsSomeLast (jobs : List Job) (d : Done) (columns : List Building) : Type 0 where
  pub names : List (List ℕ)
  pub null_word : List ℕ
  pub header : List (List ℕ)
  pub bytes : List ℕ
  pub few : length bytes ≤ 4294967295
  pub done : IsDone names null_word header d
  pub queue : IsQueue names null_word header bytes jobs d.text.items columns

-- of whichever table it is the last block of the queue, what comes of it is the queue
abbrev pub PassesLast : List Job → Done → List Building → List Job → List ℕ → List Building → Type 0
PassesLast jobs d columns jobs_after held_after columns_after =
    (names : List (List ℕ)) (null_word : List ℕ) (header : List (List ℕ)) (bytes : List ℕ)
    → IsDone names null_word header d
    → IsQueue names null_word header bytes jobs d.text.items columns
    → IsQueue names null_word header bytes jobs_after held_after columns_after

-- ---- the source

-- what was read from the source is a front of the table, the blocks, and what is held
pub record IsQueued (names : List (List ℕ)) (null_word : List ℕ) (header : List (List ℕ)) (limit : ℕ) (first left : Option (List ℕ)) (read : ℕ) (jobs : List Job) (held : List ℕ) (columns : List Building) : Type 0 where
  pub streamed : IsStreamed names null_word header limit first left read (unread jobs held) columns
  pub blocks : AreBlocks names null_word header jobs held

-- the same of some source
pub record IsSomeQueued (names : List (List ℕ)) (null_word : List ℕ) (header : List (List ℕ)) (limit : ℕ) (left : Option (List ℕ)) (read : ℕ) (jobs : List Job) (held : List ℕ) (columns : List Building) : Type 0 where
  pub first : Option (List ℕ)
  pub queued : IsQueued names null_word header limit first left read jobs held columns

-- ---- the same, by what a table is read for

abbrev pub IsQueueBy : Reading → Row → List ℕ → List Job → List ℕ → List Building → Type 0
IsQueueBy r header bytes jobs held columns = IsQueue (names_in r.names.now) r.null_word.now (fields_of header) bytes jobs held columns

abbrev pub IsQueuedBy : Reading → Row → ℕ → Option (List ℕ) → Option (List ℕ) → ℕ → List Job → List ℕ → List Building → Type 0
IsQueuedBy r header limit first left read jobs held columns = IsQueued (names_in r.names.now) r.null_word.now (fields_of header) limit first left read jobs held columns
