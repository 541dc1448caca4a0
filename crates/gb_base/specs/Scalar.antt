-- What contracts see of a value with its type.
use Rattle.std.specs.Prelude.{refl}
use Rattle.std.specs.Coded.{Coded, code_by, coded×}
use Rattle.gb_defs.specs.ColumnType.{Fits}
use Rattle.gb_base.specs.AnyValue.{slot_of}
use Rattle.gb_base.specs.DataType.{type_of}
use Rattle.gb_base.specs.declared.any_value.AnyValue.{AnyValue}
use Rattle.gb_base.specs.declared.data_type.DataType.{DataType}
use Rattle.gb_base.specs.contracts.any_value.AnyValue as value_contracts
use Rattle.gb_base.specs.contracts.data_type.DataType as type_contracts

pub record TypedValue : Type 0 where
  pub dtype : DataType
  pub value : AnyValue

-- the value is of its type
abbrev pub IsOfType : TypedValue → Type 0
IsOfType s = Fits (type_of s.dtype) (slot_of s.value)

-- stored as the pair of its fields
abbrev pub typed_value_code : Coded TypedValue
typed_value_code =
    code_by (DataType × AnyValue) (coded× type_contracts.the_row.coded value_contracts.the_row.coded) (λ s. (s.dtype, s.value)) (λ p. record { dtype = p.0; value = p.1 }) (λ _. refl)
