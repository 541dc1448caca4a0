-- What was moved from a source, and what a sink holds. A device that does not tell its bytes has None.
use Rattle.std.specs.Prelude.{◌≡◌, ◌⊎◌, ℕ, ◌<◌, ◌≤◌, ◌+◌, List, [], ◌++◌, length, take, Option, Some, None, IfSome, option_map}
use Rattle.gb_base.specs.Device.{Rose}
use Rattle.gb_text.specs.declared.status.Status.{Status}
use Rattle.gb_text.specs.declared.status.Status.TheVariants.{ReadFault, TooLong, NoMemory}

-- at most this many bytes were taken from the front
abbrev pub HasTaken : ℕ → Option (List ℕ) → Option (List ℕ) → Type 0
HasTaken most None after = Unit {0}
HasTaken most (Some before) None = ⊥
HasTaken most (Some before) (Some after) = length before ≤ length after + most

-- where the source tells its bytes, none is left
abbrev pub IsReadToEnd : Option (List ℕ) → Option (List ℕ) → Type 0
IsReadToEnd before after = IfSome before (λ _. after ≡ Some [])

-- so many bytes were moved from the front of what was left behind the bytes
pub record HasMoved (count : ℕ) (bytes bytes_after : List ℕ) (before after : Option (List ℕ)) : Type 0 where
  pub piece : List ℕ
  pub long : length piece ≡ count
  pub bytes_is : bytes_after ≡ bytes ++ piece
  pub left_is : before ≡ option_map (λ rest. piece ++ rest) after

-- why no bytes were moved
abbrev pub IsPieceFault : ℕ → ℕ → Status → Type 0
IsPieceFault faults faults_after ReadFault = Rose faults faults_after
IsPieceFault faults faults_after NoMemory = Unit {0}
IsPieceFault faults faults_after _ = ⊥

-- why the input was not read to its end
abbrev pub IsInputFault : ℕ → ℕ → ℕ → Option (List ℕ) → Status → Type 0
IsInputFault faults faults_after limit left ReadFault = Rose faults faults_after
IsInputFault faults faults_after limit left TooLong = IfSome left (λ bytes. limit < length bytes)
IsInputFault faults faults_after limit left NoMemory = Unit {0}
IsInputFault faults faults_after limit left _ = ⊥

-- what a sink holds is what it held and a part of the text, less than the whole
pub record HoldsPart (text : List ℕ) (before after : Option (List ℕ)) : Type 0 where
  pub count : ℕ
  pub less : count < length text
  pub part : after ≡ option_map (λ held. held ++ take count text) before

-- the text was written behind what the sink held
abbrev pub Holds : List ℕ → Option (List ℕ) → Option (List ℕ) → Type 0
Holds text before after = after ≡ option_map (λ held. held ++ text) before

-- the text was written whole, or the sink failed and has taken a part of it
abbrev pub HasWritten : List ℕ → Option (List ℕ) → Option (List ℕ) → ℕ → ℕ → Type 0
HasWritten text before after faults faults_after = Holds text before after ⊎ (Rose faults faults_after × HoldsPart text before after)
