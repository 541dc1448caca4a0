-- Types without hashes, by the variants of a series.
use Rattle.std.proofs.Common.{◌≡◌, ◌==◌, ℕ, if◌then◌else◌, List, None, Some, Option, refl, ap, ◌∙◌}
use Rattle.gb_defs.specs.ColumnType.{ArrayOf, ColumnType, Flat, ListOf, StructOf}
use Rattle.gb_defs.specs.Fault.{Fault, InvalidOperation, OfHash, hash_fault}
use Rattle.gb_series.specs.Variant.{type_variant}

-- the fault of the columns of a variant
abbrev variant_fault : List ℕ → ℕ → Option Fault
variant_fault name n = if n == 0 then None else Some (InvalidOperation OfHash name)

fault_of : (t : ColumnType) (name : List ℕ) → hash_fault t name ≡ variant_fault name (type_variant t)
fault_of (Flat t) name = refl
fault_of (ListOf t) name = refl
fault_of (ArrayOf t width) name = refl
fault_of (StructOf fs) name = refl

-- a column is refused exactly where its type holds others
pub fault_by_variant : (n : ℕ) (t : ColumnType) (name : List ℕ) → type_variant t ≡ n → hash_fault t name ≡ (if n == 0 then None else Some (InvalidOperation OfHash name))
fault_by_variant n t name is = fault_of t name ∙ ap (variant_fault name) is
