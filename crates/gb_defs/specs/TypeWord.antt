-- The words of types in a table's header.
use Rattle.std.specs.Prelude.{ℕ, List, [], ◌∷◌, ◌++◌, map, Option, Some, None, cond, codes, decimal}
use Rattle.std.specs.Str.{bytes_eq}
use Rattle.std.specs.List.{range_with_len}
use Rattle.std.specs.Int.{Width, w8, w16, w32, w64, w128}
use Rattle.gb_defs.specs.ColumnType.{TimeUnit, Nanoseconds, Microseconds, Milliseconds, CategoricalOrdering, Physical, Lexical, FlatType, Null, Boolean, Unsigned, Signed, Decimal, Date, Time, Datetime, Duration, String, Binary, BinaryOffset, Categorical, Enum, ColumnType, Flat, ListOf, ArrayOf, StructOf, Fields, NoFields, Field}

abbrev pub decimal_word : ℕ → List ℕ × FlatType
decimal_word scale = (codes "dec" ++ decimal scale, Decimal None (Some scale))

-- the words of decimals of each scale that a header may have
abbrev pub decimal_words : List (List ℕ × FlatType)
decimal_words = map decimal_word (range_with_len 0 39)

-- each word that a header may have, with its type
unfoldable pub type_words : List (List ℕ × FlatType)
type_words =
    (codes "null", Null) ∷ (codes "bool", Boolean)
    ∷ (codes "u8", Unsigned w8) ∷ (codes "u16", Unsigned w16) ∷ (codes "u32", Unsigned w32) ∷ (codes "u64", Unsigned w64)
    ∷ (codes "i8", Signed w8) ∷ (codes "i16", Signed w16) ∷ (codes "i32", Signed w32) ∷ (codes "i64", Signed w64) ∷ (codes "i128", Signed w128)
    ∷ (codes "date", Date) ∷ (codes "time", Time)
    ∷ (codes "datetime_ns", Datetime Nanoseconds) ∷ (codes "datetime_us", Datetime Microseconds) ∷ (codes "datetime_ms", Datetime Milliseconds)
    ∷ (codes "duration_ns", Duration Nanoseconds) ∷ (codes "duration_us", Duration Microseconds) ∷ (codes "duration_ms", Duration Milliseconds)
    ∷ (codes "str", String) ∷ (codes "bin", Binary) ∷ (codes "cat", Categorical None Physical) ∷ (codes "lexcat", Categorical None Lexical)
    ∷ decimal_words

abbrev pub word_among : List (List ℕ × FlatType) → List ℕ → Option FlatType
word_among [] word = None
word_among (w ∷ ws) word = cond (bytes_eq word w.0) (Some w.1) (word_among ws word)

-- the type that a word names
abbrev pub type_of_word : List ℕ → Option FlatType
type_of_word word = word_among type_words word

-- ---- the word that is written of a type

abbrev pub unit_word : TimeUnit → List ℕ
unit_word Nanoseconds = codes "ns"
unit_word Microseconds = codes "us"
unit_word Milliseconds = codes "ms"

abbrev pub width_word : Width → List ℕ
width_word w8 = codes "8"
width_word w16 = codes "16"
width_word w32 = codes "32"
width_word w64 = codes "64"
width_word w128 = codes "128"

abbrev pub scale_of : Option ℕ → ℕ
scale_of None = 0
scale_of (Some scale) = scale

abbrev pub category_word : CategoricalOrdering → List ℕ
category_word Physical = codes "cat"
category_word Lexical = codes "lexcat"

abbrev pub flat_word : FlatType → List ℕ
flat_word Null = codes "null"
flat_word Boolean = codes "bool"
flat_word (Unsigned w) = codes "u" ++ width_word w
flat_word (Signed w) = codes "i" ++ width_word w
flat_word (Decimal precision scale) = codes "dec" ++ decimal (scale_of scale)
flat_word Date = codes "date"
flat_word Time = codes "time"
flat_word (Datetime unit) = codes "datetime_" ++ unit_word unit
flat_word (Duration unit) = codes "duration_" ++ unit_word unit
flat_word String = codes "str"
flat_word Binary = codes "bin"
flat_word BinaryOffset = codes "binoff"
flat_word (Categorical texts ordering) = category_word ordering
flat_word (Enum texts ordering) = codes "enum"

abbrev mutual
  pub type_word : ColumnType → List ℕ
  type_word (Flat t) = flat_word t
  type_word (ListOf t) = codes "list[" ++ type_word t ++ codes "]"
  type_word (ArrayOf t width) = codes "array[" ++ type_word t ++ codes ";" ++ decimal width ++ codes "]"
  type_word (StructOf fs) = codes "struct[" ++ field_words fs ++ codes "]"

  pub field_words : Fields → List ℕ
  field_words NoFields = []
  field_words (Field name t fs) = type_word t ++ more_words fs

  pub more_words : Fields → List ℕ
  more_words NoFields = []
  more_words (Field name t fs) = codes "," ++ type_word t ++ more_words fs
