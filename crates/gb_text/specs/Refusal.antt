-- Why a table is refused.
use Rattle.std.specs.Prelude.{◌≡◌, Result, Err}
use Rattle.gb_defs.specs.Table as table
use Rattle.gb_text.specs.Status.{fault_value}
use Rattle.gb_text.specs.declared.status.TableError.{TableError}
use Rattle.gb_text.specs.declared.status.TableError.TheVariants.{Fault, NoMemory}

-- the error is want of memory, or it is the fault of what was read
abbrev pub IsRefusedTable : {A : Type 0} → TableError → Result A table.TableFault → Type 0
IsRefusedTable (Fault fault) read = read ≡ Err (fault_value fault)
IsRefusedTable NoMemory read = Unit {0}
