-- What an error says of the causes that the definitions name.
use Rattle.std.specs.Prelude.{◌≡◌, Option, Some, None}
use Rattle.gb_defs.specs.Fault as fault
use Rattle.gb_base.specs.declared.error.PolarsError.{PolarsError}
use Rattle.gb_base.specs.declared.error.PolarsError.TheVariants.{ComputeError, ShapeMismatch, TooManyRows, ColumnNotFound, InvalidOperation, Duplicate, SchemaMismatch, NoMemory}
use Rattle.gb_base.specs.declared.error.Operation.{Operation}
use Rattle.gb_base.specs.declared.error.Operation.TheVariants.{Sum, Product, Min, Max, Hash, RowEncoding}
use Rattle.gb_base.specs.PlSmallStr.{name_of}

abbrev pub operation_of : Operation → fault.Operation
operation_of Sum = fault.OfSum
operation_of Product = fault.OfProduct
operation_of Min = fault.OfMin
operation_of Max = fault.OfMax
operation_of Hash = fault.OfHash
operation_of RowEncoding = fault.OfRowEncoding

-- the cause that an error names, None for want of memory
abbrev pub cause_of : PolarsError → Option fault.Fault
cause_of ComputeError = Some fault.ComputeError
cause_of ShapeMismatch = Some fault.ShapeMismatch
cause_of (TooManyRows rows) = Some (fault.TooManyRows rows)
cause_of (ColumnNotFound name) = Some (fault.ColumnNotFound (name_of name))
cause_of (InvalidOperation operation name) = Some (fault.InvalidOperation (operation_of operation) (name_of name))
cause_of (Duplicate name) = Some (fault.Duplicate (name_of name))
cause_of (SchemaMismatch name) = Some (fault.SchemaMismatch (name_of name))
cause_of NoMemory = None

abbrev pub IsCause : Option fault.Fault → Option fault.Fault → Type 0
IsCause None first = Unit {0}
IsCause (Some cause) first = first ≡ Some cause

-- the error is want of memory, or it names this cause
abbrev pub Explains : PolarsError → Option fault.Fault → Type 0
Explains e first = IsCause (cause_of e) first
