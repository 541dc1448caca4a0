-- How a slot is printed, by its type.
use Rattle.std.specs.Prelude.{ℕ, suc, ◌+◌, ◌-◌, ◌/◌, ◌%◌, ◌^◌, ◌==◌, nat_lt, Bool, true, false, ℤ, pos, negsuc, List, [], ◌∷◌, ◌++◌, length, replicate, flat_map, Option, Some, None, codes, decimal, slice_index_or, if◌then◌else◌}
use Rattle.std.specs.Fmt.{signed_decimal}
use Rattle.gb_defs.specs.Slot.{Slot, Slots, Nil, Num, Bytes, Items, End, And}
use Rattle.gb_defs.specs.ColumnType.{Boolean, Decimal, String, Binary, BinaryOffset, Categorical, Enum, ColumnType, Flat, part_type}
use Rattle.gb_defs.specs.Order.{code_number}
use Rattle.gb_defs.specs.TypeWord.{scale_of}

abbrev pub boolean_text : ℤ → List ℕ
boolean_text (pos n) = if n == 0 then codes "false" else codes "true"
boolean_text (negsuc n) = codes "true"

-- digits behind zeros, so many in all
abbrev pub padded_digits : ℕ → List ℕ → List ℕ
padded_digits count digits = replicate (count - length digits) 48 ++ digits

-- a number that counts parts of 10 ^ scale: the whole, and behind a point as many digits as the scale
abbrev pub scaled_text : ℕ → ℕ → List ℕ
scaled_text scale n =
    decimal (n / 10 ^ scale) ++ (if scale == 0 then [] else 46 ∷ padded_digits scale (decimal (n % 10 ^ scale)))

abbrev pub decimal_text : ℕ → ℤ → List ℕ
decimal_text scale (pos n) = scaled_text scale n
decimal_text scale (negsuc n) = 45 ∷ scaled_text scale (suc n)

-- the text of a code
abbrev pub code_text : Option (List (List ℕ)) → ℤ → List ℕ
code_text None code = signed_decimal code
code_text (Some texts) code = slice_index_or texts (code_number code) []

abbrev pub number_text : ColumnType → ℤ → List ℕ
number_text (Flat Boolean) n = boolean_text n
number_text (Flat (Decimal precision scale)) n = decimal_text (scale_of scale) n
number_text (Flat (Categorical texts ordering)) n = code_text texts n
number_text (Flat (Enum texts ordering)) n = code_text texts n
number_text _ n = signed_decimal n

-- a hexadecimal digit in lower case
abbrev pub hex_digit : ℕ → ℕ
hex_digit n = if nat_lt n 10 then n + 48 else n + 87

abbrev pub hexadecimal_text : List ℕ → List ℕ
hexadecimal_text bytes = flat_map (λ byte. hex_digit (byte / 16) ∷ hex_digit (byte % 16) ∷ []) bytes

abbrev pub bytes_text : ColumnType → List ℕ → List ℕ
bytes_text (Flat Binary) bytes = hexadecimal_text bytes
bytes_text (Flat BinaryOffset) bytes = hexadecimal_text bytes
bytes_text _ bytes = bytes

-- between double quotes, with a backslash before each double quote and backslash
abbrev pub quoted : List ℕ → List ℕ
quoted text = 34 ∷ flat_map (λ c. if c == 34 then 92 ∷ 34 ∷ [] else if c == 92 then 92 ∷ 92 ∷ [] else c ∷ []) text ++ 34 ∷ []

-- whether the values of a type stand between quotes inside a list
abbrev pub is_quoted : ColumnType → Bool
is_quoted (Flat String) = true
is_quoted (Flat (Categorical texts ordering)) = true
is_quoted (Flat (Enum texts ordering)) = true
is_quoted _ = false

abbrev pub quoted_if : Bool → List ℕ → List ℕ
quoted_if true text = quoted text
quoted_if false text = text

abbrev mutual
  -- a slot inside a list
  pub part_text : ColumnType → Slot → List ℕ
  part_text t Nil = codes "null"
  part_text t (Num n) = quoted_if (is_quoted t) (number_text t n)
  part_text t (Bytes bytes) = quoted_if (is_quoted t) (bytes_text t bytes)
  part_text t (Items parts) = 91 ∷ parts_text t 0 parts ++ 93 ∷ []

  -- the parts from the k-th on, each but the first behind a comma
  pub parts_text : ColumnType → ℕ → Slots → List ℕ
  parts_text t k End = []
  parts_text t k (And s ss) = (if k == 0 then [] else 44 ∷ []) ++ part_text (part_type t k) s ++ parts_text t (suc k) ss

-- the text of a slot
abbrev pub cell_text : List ℕ → ColumnType → Slot → List ℕ
cell_text null_word t Nil = null_word
cell_text null_word t (Num n) = number_text t n
cell_text null_word t (Bytes bytes) = bytes_text t bytes
cell_text null_word t (Items parts) = 91 ∷ parts_text t 0 parts ++ 93 ∷ []
