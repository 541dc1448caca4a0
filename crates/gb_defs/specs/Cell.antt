-- How a cell of a table's text reads as a slot, by the type of its column. A field that is the null word
-- is null; every other field is a value. A category reads as its text: codes are given to a column as a
-- whole (`Table`).
use Rattle.std.specs.Prelude.{ℕ, ◌+◌, ◌-◌, ◌*◌, ◌^◌, ◌==◌, nat_le, nat_lt, Bool, true, false, not, ◌&&◌, ℤ, pos, negsuc, List, [], ◌∷◌, ◌++◌, length, Option, Some, None, option_map, codes, if◌then◌else◌}
use Rattle.std.specs.Char.{digit_value, is_ascii_hexdigit}
use Rattle.std.specs.List.{after_first, before_first}
use Rattle.std.specs.Str.{bytes_eq, is_utf8, all_ascii_digits}
use Rattle.std.specs.Str.Parse.{without_leading_plus, without_leading_sign, starts_with_minus, signed_digits_value, digits_value}
use Rattle.std.specs.Int.{Width, w32, w64}
use mir.Val.{bits, hbits}
use Rattle.gb_defs.specs.Slot.{Slot, Nil, Num, Bytes}
use Rattle.gb_defs.specs.ColumnType.{FlatType, Boolean, Unsigned, Signed, Decimal, Date, Time, Datetime, Duration, String, Binary, Categorical, ColumnType, Flat, ListOf, ArrayOf, StructOf}
use Rattle.gb_defs.specs.TypeWord.{scale_of}

-- one decimal digit or more, and nothing else
abbrev pub is_numeral : List ℕ → Bool
is_numeral bs = not (length bs == 0) && all_ascii_digits bs

-- the number that digits write, None where a byte is no digit or the number is not below a limit
abbrev pub magnitude_within : ℕ → List ℕ → Option ℕ
magnitude_within limit bs = if all_ascii_digits bs && nat_lt (digits_value 10 bs) limit then Some (digits_value 10 bs) else None

-- the same, None where 64 bits are too few
abbrev pub magnitude : List ℕ → Option ℕ
magnitude bs = magnitude_within (2 ^ 64) bs

-- whether a number is in the range of a signed type
abbrev pub fits_signed : Width → ℤ → Bool
fits_signed w (pos n) = nat_lt n (2 ^ hbits w)
fits_signed w (negsuc n) = nat_lt n (2 ^ hbits w)

-- an optional sign and digits, in range
abbrev pub signed_value : Width → List ℕ → Option Slot
signed_value w bs =
    if is_numeral (without_leading_sign bs) && fits_signed w (signed_digits_value 10 bs) then Some (Num (signed_digits_value 10 bs)) else None

-- an optional plus and digits, in range
abbrev pub unsigned_value : Width → List ℕ → Option Slot
unsigned_value w bs =
    if is_numeral (without_leading_plus bs) && nat_lt (digits_value 10 (without_leading_plus bs)) (2 ^ bits w)
    then Some (Num (pos (digits_value 10 (without_leading_plus bs)))) else None

abbrev pub boolean_value : List ℕ → Option Slot
boolean_value bs =
    if bytes_eq bs (codes "true") then Some (Num (pos 1)) else if bytes_eq bs (codes "false") then Some (Num (pos 0)) else None

abbrev pub is_point : ℕ → Bool
is_point c = c == 46

-- digits before and behind a point as a number of 128 bits that counts parts of 10 ^ scale
abbrev pub decimal_parts : ℕ → Bool → List ℕ → List ℕ → Option Slot
decimal_parts scale negative whole part =
    let n = digits_value 10 (whole ++ part) * 10 ^ (scale - length part) in
    if is_numeral (whole ++ part) && nat_le (length part) scale && (if negative then nat_le n (2 ^ 127) else nat_lt n (2 ^ 127))
    then Some (Num (negated negative n)) else None
  where
    negative_of : ℕ → ℤ
    negative_of n = if n == 0 then pos 0 else negsuc (n - 1)

    negated : Bool → ℕ → ℤ
    negated true n = negative_of n
    negated false n = pos n

-- an optional sign, digits, and an optional point with at most as many digits behind it as the scale
abbrev pub decimal_value : ℕ → List ℕ → Option Slot
decimal_value scale bs =
    decimal_parts scale (starts_with_minus bs) (before_first is_point (without_leading_sign bs)) (after_first is_point (without_leading_sign bs))

-- the bytes that pairs of hexadecimal digits write
abbrev pub hexadecimal : List ℕ → Option (List ℕ)
hexadecimal [] = Some []
hexadecimal (high ∷ []) = None
hexadecimal (high ∷ low ∷ rest) =
    if is_ascii_hexdigit high && is_ascii_hexdigit low
    then option_map (λ bytes. (digit_value high * 16 + digit_value low) ∷ bytes) (hexadecimal rest) else None

abbrev pub text_value : List ℕ → Option Slot
text_value bs = if is_utf8 bs then Some (Bytes bs) else None

-- what a field that is not the null word reads as
abbrev pub flat_value : FlatType → List ℕ → Option Slot
flat_value Boolean bs = boolean_value bs
flat_value (Unsigned w) bs = unsigned_value w bs
flat_value (Signed w) bs = signed_value w bs
flat_value (Decimal precision scale) bs = decimal_value (scale_of scale) bs
flat_value Date bs = signed_value w32 bs
flat_value Time bs = signed_value w64 bs
flat_value (Datetime unit) bs = signed_value w64 bs
flat_value (Duration unit) bs = signed_value w64 bs
flat_value String bs = text_value bs
flat_value Binary bs = option_map (λ bytes. Bytes bytes) (hexadecimal bs)
flat_value (Categorical texts ordering) bs = text_value bs
flat_value _ bs = None

abbrev pub value_of_field : ColumnType → List ℕ → Option Slot
value_of_field (Flat t) bs = flat_value t bs
value_of_field (ListOf t) bs = None
value_of_field (ArrayOf t width) bs = None
value_of_field (StructOf fs) bs = None

-- what a field reads as, None for a bad cell
unfoldable pub cell_slot : List ℕ → ColumnType → List ℕ → Option Slot
cell_slot null_word t bs = if bytes_eq bs null_word then Some Nil else value_of_field t bs
