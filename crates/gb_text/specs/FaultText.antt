-- The line that tells the fault of a table.
use Rattle.std.specs.Prelude.{ℕ, List, ◌++◌, codes}
use Rattle.std.specs.Fmt.{decimal}
use Rattle.gb_text.specs.declared.status.TableFault.{TableFault}
use Rattle.gb_text.specs.declared.status.TableFault.TheVariants.{NoHeader, SameName, Ragged, BadCell}

abbrev pub fault_text : TableFault → List ℕ
fault_text NoHeader = codes "no header"
fault_text (SameName column) = codes "column " ++ decimal column ++ codes ": name used before"
fault_text (Ragged row found wanted) = codes "row " ++ decimal row ++ codes ": " ++ decimal found ++ codes " fields, " ++ decimal wanted ++ codes " wanted"
fault_text (BadCell row column) = codes "row " ++ decimal row ++ codes ", column " ++ decimal column ++ codes ": bad cell"
