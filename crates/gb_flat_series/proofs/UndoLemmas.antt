-- The types whose codes may be known to occur.
use Rattle.std.proofs.Common.{◌≡◌, List, refl}
use Rattle.gb_defs.specs.Column.{UsesAll}
use Rattle.gb_defs.specs.ColumnType.{ColumnType, Flat, ListOf, ArrayOf, StructOf, Null, Boolean, Unsigned, Signed, Decimal, Date, Time, Datetime, Duration, String, Binary, BinaryOffset, Categorical, Enum}
use Rattle.gb_defs.specs.Slot.{Slot}
use Rattle.gb_flat_series.specs.Variant.{type_variant}

-- the codes of a type occur where it is one of categories
pub uses_categories : (t : ColumnType) (slots : List Slot) → UsesAll t slots → type_variant t ≡ 19
uses_categories (Flat (Categorical texts ordering)) slots used = refl
uses_categories (Flat (Enum texts ordering)) slots used = refl
uses_categories (Flat Null) slots used = absurd used
uses_categories (Flat Boolean) slots used = absurd used
uses_categories (Flat (Unsigned w)) slots used = absurd used
uses_categories (Flat (Signed w)) slots used = absurd used
uses_categories (Flat (Decimal p s)) slots used = absurd used
uses_categories (Flat Date) slots used = absurd used
uses_categories (Flat Time) slots used = absurd used
uses_categories (Flat (Datetime u)) slots used = absurd used
uses_categories (Flat (Duration u)) slots used = absurd used
uses_categories (Flat String) slots used = absurd used
uses_categories (Flat Binary) slots used = absurd used
uses_categories (Flat BinaryOffset) slots used = absurd used
uses_categories (ListOf t) slots used = absurd used
uses_categories (ArrayOf t n) slots used = absurd used
uses_categories (StructOf fs) slots used = absurd used
