-- What the kinds of bytes owe: what a cell reads as is what the definitions say, and fits the type.
use Rattle.std.specs.Prelude.{◌≡◌, ℕ, Bool, true, false, IsTrue, List, [], Option, None, Some, option_map, if◌then◌else◌, refl}
use Rattle.std.specs.Str.{IsUtf8, is_utf8}
use Rattle.std.proofs.Common.{subst}
use Rattle.std.proofs.lemmas.Str.{IsUtf8-from_is_utf8}
use Rattle.gb_defs.specs.Cell.{text_value}
use Rattle.gb_defs.specs.Column.{may_be_sorted}
use Rattle.gb_defs.specs.ColumnType.{FlatType, Flat, FitsBytes, Null, Boolean, Unsigned, Signed, Decimal, Date, Time, Datetime, Duration, String, Binary, BinaryOffset, Categorical, Enum}
use Rattle.gb_defs.specs.Slot.{Slot, Bytes}
use Rattle.gb_numbers.specs.Taken.{if_taken}

-- what a cell reads as in a column of texts
abbrev pub text_read : List ℕ → Option (List ℕ)
text_read cell = if_taken (is_utf8 cell) cell

taken_slot : (took : Bool) (bytes : List ℕ) → ◌≡◌ {A = Option Slot} (if took then Some (Bytes bytes) else None) (option_map (λ more. Bytes more) (if_taken took bytes))
taken_slot true bytes = refl
taken_slot false bytes = refl

pub text_reads : (cell : List ℕ) → text_value cell ≡ option_map (λ more. Bytes more) (text_read cell)
text_reads cell = taken_slot (is_utf8 cell) cell

taken_fits : (took : Bool) (cell more : List ℕ) → is_utf8 cell ≡ took → if_taken took cell ≡ Some more → IsUtf8 more
taken_fits true cell more utf8 e = let same : cell ≡ more = cc in subst (λ (bs : List ℕ). IsUtf8 bs) same (IsUtf8-from_is_utf8 cell utf8)
taken_fits false cell more utf8 e = cc

pub text_read_fits : (cell more : List ℕ) → text_read cell ≡ Some more → IsUtf8 more
text_read_fits cell more e = taken_fits (is_utf8 cell) cell more refl e

-- columns of values of bytes may be in order
pub bytes_sortable : (t : FlatType) → FitsBytes t [] → IsTrue (may_be_sorted (Flat t))
bytes_sortable Null fits = absurd fits
bytes_sortable Boolean fits = refl
bytes_sortable (Unsigned w) fits = refl
bytes_sortable (Signed w) fits = refl
bytes_sortable (Decimal precision scale) fits = refl
bytes_sortable Date fits = refl
bytes_sortable Time fits = refl
bytes_sortable (Datetime unit) fits = refl
bytes_sortable (Duration unit) fits = refl
bytes_sortable String fits = refl
bytes_sortable Binary fits = refl
bytes_sortable BinaryOffset fits = refl
bytes_sortable (Categorical texts ordering) fits = refl
bytes_sortable (Enum texts ordering) fits = refl
