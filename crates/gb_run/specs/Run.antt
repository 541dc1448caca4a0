-- How a run of the program ends, over what its devices had before it and have after it. A device that
-- does not tell its bytes has None.
use Rattle.std.specs.Prelude.{◌≡◌, ℕ, ◌<◌, ◌≤◌, Bool, true, false, List, [], ◌++◌, length, map, ◌⊎◌, ◌∷◌, Option, Some, None, IfSome, IsSome, String}
use Rattle.std.specs.String.{string_bytes}
use Rattle.gb_defs.specs.Fault.{Fault}
use Rattle.gb_defs.specs.Outcome.{Outcome, BadTable, BadGroup, Report, outcome}
use Rattle.gb_defs.specs.Request as asked
use Rattle.gb_defs.specs.Table as table
use Rattle.gb_base.specs.Device.{Rose}
use Rattle.gb_text.specs.Moved.{HasWritten, Holds, HoldsPart}
use Rattle.gb_text.specs.StatusLine.{status_line}
use Rattle.gb_defs.specs.Notes.{IsTraceLine, IsTracedIn, asks_trace}
use Rattle.gb_text.specs.Status.{Tells, fault_value}
use Rattle.gb_text.specs.Stream.{HasReadAll}
use Rattle.gb_text.specs.declared.status.Status.{Status}
use Rattle.gb_text.specs.declared.status.Status.TheVariants.{Done, Usage, Table, Group, ReadFault, WriteFault, TooLong, NoMemory}

-- ---- what is asked, and what it comes to

-- what the words ask, the bytes that the source tells, and the longest input
pub record Task : Type 0 where
  pub request : Option asked.Request
  pub input : Option (List ℕ)
  pub limit : ℕ

-- the request that the words spell
abbrev pub asked_by : {A : Type 0} → List (String A) → Option asked.Request
asked_by words = asked.request (map string_bytes words)

abbrev pub task_of : {A : Type 0} → List (String A) → Option (List ℕ) → ℕ → Task
task_of words input limit = record { request = asked_by words; input = input; limit = limit }

-- where the words spell a request and the source tells its bytes
abbrev pub WhereTold : Task → (asked.Request → List ℕ → Type 0) → Type 0
WhereTold task P = (q : asked.Request) (bytes : List ℕ) → task.request ≡ Some q → task.input ≡ Some bytes → P q bytes

-- the words spell a request; where the bytes are told they are within the limit, and this is the outcome
pub record Comes (task : Task) (o : Outcome) : Type 0 where
  pub asked : IsSome task.request
  pub comes : WhereTold task (λ q bytes. (length bytes ≤ task.limit) × (outcome q bytes ≡ o))

-- where all is told and within the limit, this holds of the outcome
abbrev pub OfOutcome : Task → (Outcome → Type 0) → Type 0
OfOutcome task P = WhereTold task (λ q bytes. length bytes ≤ task.limit → P (outcome q bytes))

-- the words spell a request, and the bytes that the source tells are more than the limit
pub record IsTooLong (task : Task) : Type 0 where
  pub asked : IsSome task.request
  pub long : IfSome task.input (λ bytes. task.limit < length bytes)

-- the outcome is a text, of which this holds
abbrev pub Writes : Task → (List ℕ → Type 0) → Type 0
Writes task P = (text : List ℕ) × Comes task (Report text) × P text

-- ---- statuses

abbrev pub IsOneOf : List Status → Status → Type 0
IsOneOf [] s = ⊥
IsOneOf (t ∷ ts) s = (s ≡ t) ⊎ IsOneOf ts s

-- the status names this fault of the table
abbrev pub IsTable : table.TableFault → Status → Type 0
IsTable f (Table fault) = f ≡ fault_value fault
IsTable f _ = ⊥

-- whether a run with this status has read its input to the end
abbrev pub has_ended : Status → Bool
has_ended Done = true
has_ended (Table fault) = true
has_ended (Group e) = true
has_ended WriteFault = true
has_ended _ = false

-- why there is no text for this outcome
abbrev pub IsRefusedReport : Status → Outcome → Type 0
IsRefusedReport (Table fault) o = o ≡ BadTable (fault_value fault)
IsRefusedReport (Group e) o = (f : Fault) × Tells e f × (o ≡ BadGroup f)
IsRefusedReport NoMemory o = Unit {0}
IsRefusedReport _ o = ⊥

-- why there is no text, for what bytes come to
abbrev pub IsRefusedText : (List ℕ → Outcome) → ℕ → ℕ → ℕ → Option (List ℕ) → Option (List ℕ) → Status → Type 0
IsRefusedText comes faults faults_after limit before after ReadFault = Rose faults faults_after
IsRefusedText comes faults faults_after limit before after TooLong = IfSome before (λ bytes. limit < length bytes)
IsRefusedText comes faults faults_after limit before after NoMemory = Unit {0}
IsRefusedText comes faults faults_after limit before after s = HasReadAll limit before after (λ bytes. IsRefusedReport s (comes bytes))

-- ---- a run

-- what a run is given, and what its devices tell before and after it
pub record Run : Type 0 where
  pub task : Task
  pub read_faults : ℕ
  pub read_faults_after : ℕ
  pub held : Option (List ℕ)
  pub held_after : Option (List ℕ)
  pub write_faults : ℕ
  pub write_faults_after : ℕ

-- why a run has no answer
abbrev pub HasNoAnswer : Task → ℕ → ℕ → Status → Type 0
HasNoAnswer task faults faults_after Usage = task.request ≡ None
HasNoAnswer task faults faults_after (Table fault) = Comes task (BadTable (fault_value fault))
HasNoAnswer task faults faults_after (Group e) = (f : Fault) × Tells e f × Comes task (BadGroup f)
HasNoAnswer task faults faults_after ReadFault = IsSome task.request × Rose faults faults_after
HasNoAnswer task faults faults_after TooLong = IsTooLong task
HasNoAnswer task faults faults_after NoMemory = Unit {0}
HasNoAnswer task faults faults_after _ = ⊥

-- why a run ended with this status
abbrev pub HasCause : Run → Status → Type 0
HasCause run Done = Writes run.task (λ text. Holds text run.held run.held_after)
HasCause run WriteFault = Writes run.task (λ text. HoldsPart text run.held run.held_after) × Rose run.write_faults run.write_faults_after
HasCause run s = HasNoAnswer run.task run.read_faults run.read_faults_after s

-- ---- the notes of a run

-- the line of the trace is one of this task's
abbrev pub IsTraceOf : Task → List ℕ → Type 0
IsTraceOf task line = (q : asked.Request) → task.request ≡ Some q → IsTraceLine (asks_trace q) (λ trace. IfSome task.input (λ bytes. IsTracedIn bytes q trace)) line

-- a run with an answer tells how it came by it, and one with none does not
abbrev pub HasTraceLine : Task → Status → List ℕ → Type 0
HasTraceLine task Done line = IsTraceOf task line
HasTraceLine task WriteFault line = IsTraceOf task line
HasTraceLine task s line = line ≡ []

-- the line of the trace and behind it that of the status were written, or the notes failed and have a part
pub record AreNotes (task : Task) (s : Status) (before after : Option (List ℕ)) (faults faults_after : ℕ) : Type 0 where
  pub line : List ℕ
  pub traced : HasTraceLine task s line
  pub written : HasWritten (line ++ status_line s) before after faults faults_after

-- a text and the line of a trace are the answer to a request over the bytes of a table
pub record IsAnswerTo (q : asked.Request) (bytes text line : List ℕ) : Type 0 where
  pub text_is : outcome q bytes ≡ Report text
  pub traced : IsTraceLine (asks_trace q) (IsTracedIn bytes q) line

-- the same of the task
pub record IsAnswer (task : Task) (text line : List ℕ) : Type 0 where
  pub comes : Comes task (Report text)
  pub traced : IsTraceOf task line
