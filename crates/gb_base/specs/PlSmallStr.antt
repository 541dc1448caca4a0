-- What contracts see of a name: its bytes.
use Rattle.std.specs.Prelude.{◌≡◌, ℕ, List}
use Rattle.std.specs.String.{string_bytes}
use Rattle.gb_base.specs.declared.small_str.PlSmallStr.{PlSmallStr}
use Rattle.gb_base.specs.declared.error.PolarsError.{PolarsError}
use Rattle.gb_base.specs.declared.error.PolarsError.TheVariants.{NoMemory}

abbrev pub name_of : PlSmallStr → List ℕ
name_of name = string_bytes name.text

-- the error is want of memory
abbrev pub IsNoMemory : PolarsError → Type 0
IsNoMemory e = e ≡ NoMemory
