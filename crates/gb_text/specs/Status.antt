-- The exit status, and the status that an error comes to.
use Rattle.std.specs.Prelude.{◌≡◌, ℕ, Option, Some, None}
use Rattle.gb_defs.specs.Fault as fault
use Rattle.gb_defs.specs.Table as table
use Rattle.gb_base.specs.PolarsError.{cause_of}
use Rattle.gb_base.specs.declared.error.PolarsError.{PolarsError}
use Rattle.gb_text.specs.declared.status.TableFault.{TableFault}
use Rattle.gb_text.specs.declared.status.TableFault.TheVariants.{NoHeader, SameName, Ragged, BadCell}
use Rattle.gb_text.specs.declared.status.TableError.{TableError}
use Rattle.gb_text.specs.declared.status.TableError.TheVariants as error
use Rattle.gb_text.specs.declared.status.Status.{Status}
use Rattle.gb_text.specs.declared.status.Status.TheVariants.{Done, Usage, Table, Group, ReadFault, WriteFault, TooLong, NoMemory}

-- the exit status of the program
abbrev pub code_of : Status → ℕ
code_of Done = 0
code_of Usage = 2
code_of (Table fault) = 3
code_of (Group e) = 4
code_of ReadFault = 5
code_of WriteFault = 6
code_of TooLong = 7
code_of NoMemory = 9

-- the fault of the definitions that a table's fault is
abbrev pub fault_value : TableFault → table.TableFault
fault_value NoHeader = table.NoHeader
fault_value (SameName column) = table.SameName column
fault_value (Ragged row found wanted) = table.Ragged row found wanted
fault_value (BadCell row column) = table.BadCell row column

abbrev pub of_table : TableError → Status
of_table (error.Fault fault) = Table fault
of_table error.NoMemory = NoMemory

-- the error tells this fault
abbrev pub Tells : PolarsError → fault.Fault → Type 0
Tells e f = cause_of e ≡ Some f

-- the status of a grouping with this fault
abbrev pub IsTold : fault.Fault → Status → Type 0
IsTold f (Group e) = Tells e f
IsTold f _ = ⊥

-- the status that an error's cause comes to
abbrev pub IsToldOf : Option fault.Fault → Status → Type 0
IsToldOf None s = s ≡ NoMemory
IsToldOf (Some cause) s = IsTold cause s

abbrev pub IsStatusOf : PolarsError → Status → Type 0
IsStatusOf e s = IsToldOf (cause_of e) s
