-- The line that tells how a run ended, where it has no answer.
use Rattle.std.specs.Prelude.{◌≡◌, ◌⊎◌, ℕ, Bool, true, false, List, [], ◌∷◌, ◌++◌, codes}
use Rattle.gb_base.specs.ErrorText.{error_text}
use Rattle.gb_text.specs.FaultText.{fault_text}
use Rattle.gb_text.specs.declared.status.Status.{Status}
use Rattle.gb_text.specs.declared.status.Status.TheVariants.{Done, Usage, Table, Group, ReadFault, WriteFault, TooLong, NoMemory}

-- a text as a line of its own
abbrev pub line : List ℕ → List ℕ
line text = text ++ 10 ∷ []

abbrev pub status_line : Status → List ℕ
status_line Done = []
status_line Usage = line (codes "error: usage")
status_line (Table fault) = line (codes "error: table: " ++ fault_text fault)
status_line (Group e) = line (codes "error: " ++ error_text e)
status_line ReadFault = line (codes "error: read fault")
status_line WriteFault = line (codes "error: write fault")
status_line TooLong = line (codes "error: input too long")
status_line NoMemory = line (codes "error: no memory")

-- whether the line of a status names what was at fault, so that it takes memory to write it
abbrev pub names_fault : Status → Bool
names_fault (Table fault) = true
names_fault (Group e) = true
names_fault _ = false

-- the status is told as this one: as itself, or as want of memory where there is none for its line
abbrev pub IsToldAs : Status → Status → Type 0
IsToldAs status told = (told ≡ status) ⊎ ((names_fault status ≡ true) × (told ≡ NoMemory))
