-- The lines that tell errors.
use Rattle.std.specs.Prelude.{ℕ, List, ◌++◌, codes}
use Rattle.std.specs.Fmt.{decimal}
use Rattle.gb_base.specs.declared.error.PolarsError.{PolarsError}
use Rattle.gb_base.specs.declared.error.PolarsError.TheVariants.{ComputeError, ShapeMismatch, TooManyRows, ColumnNotFound, InvalidOperation, Duplicate, SchemaMismatch, NoMemory}
use Rattle.gb_base.specs.declared.error.Operation.{Operation}
use Rattle.gb_base.specs.declared.error.Operation.TheVariants.{Sum, Product, Min, Max, Hash, RowEncoding}
use Rattle.gb_base.specs.PlSmallStr.{name_of}

-- the words for an operation
abbrev pub operation_text : Operation → List ℕ
operation_text Sum = codes "sum"
operation_text Product = codes "product"
operation_text Min = codes "min"
operation_text Max = codes "max"
operation_text Hash = codes "hash"
operation_text RowEncoding = codes "row encoding"

-- the line for an error
abbrev pub error_text : PolarsError → List ℕ
error_text ComputeError = codes "compute"
error_text ShapeMismatch = codes "shape mismatch"
error_text (TooManyRows rows) = codes "too many rows: " ++ decimal rows
error_text (ColumnNotFound name) = codes "column not found: " ++ name_of name
error_text (InvalidOperation operation name) = codes "invalid operation: " ++ operation_text operation ++ codes " of " ++ name_of name
error_text (Duplicate name) = codes "duplicate column: " ++ name_of name
error_text (SchemaMismatch name) = codes "schema mismatch: " ++ name_of name
error_text NoMemory = codes "no memory"
