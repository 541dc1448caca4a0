-- A header field, and the type that its word names.
use Rattle.std.specs.Prelude.{ℕ, List, [], ◌∷◌, Option, Some, None, codes, cond, option_map, if◌then◌else◌}
use Rattle.std.specs.Str.{bytes_eq, is_utf8}
use denote.Ref.{Bor}
use Rattle.gb_defs.specs.ColumnType.{ColumnType, Decimal, Flat}
use Rattle.gb_defs.specs.TypeWord.{decimal_words, type_of_word, word_among}
use Rattle.gb_defs.specs.Table.{Head, head_of}
use Rattle.gb_base.specs.DataType.{type_of}
use Rattle.gb_base.specs.declared.data_type.DataType.{DataType}

-- a name and a type, as a head
abbrev pub head_from : Bor (List ℕ) × DataType → Head
head_from p = record { name = p.0.now; dtype = type_of p.1 }

-- the type that a word names
abbrev pub named_type : List ℕ → Option ColumnType
named_type word = option_map (λ t. Flat t) (type_of_word word)

-- the head of a field, where it is text
abbrev pub readable_field : List ℕ → Option Head
readable_field field = if is_utf8 field then Some (head_of field) else None

-- the decimal type that a word names
abbrev pub decimal_type_of : List ℕ → Option ColumnType
decimal_type_of word = option_map (λ t. Flat t) (word_among decimal_words word)

-- the type of decimals of a scale
abbrev pub decimals_of : ℕ → ColumnType
decimals_of scale = Flat (Decimal None (Some scale))

-- the words of decimals, with their scales
abbrev pub decimal_scales : List (List ℕ × ℕ)
decimal_scales =
    (codes "dec0", 0) ∷ (codes "dec1", 1) ∷ (codes "dec2", 2) ∷ (codes "dec3", 3) ∷ (codes "dec4", 4)
    ∷ (codes "dec5", 5) ∷ (codes "dec6", 6) ∷ (codes "dec7", 7) ∷ (codes "dec8", 8) ∷ (codes "dec9", 9)
    ∷ (codes "dec10", 10) ∷ (codes "dec11", 11) ∷ (codes "dec12", 12) ∷ (codes "dec13", 13) ∷ (codes "dec14", 14)
    ∷ (codes "dec15", 15) ∷ (codes "dec16", 16) ∷ (codes "dec17", 17) ∷ (codes "dec18", 18) ∷ (codes "dec19", 19)
    ∷ (codes "dec20", 20) ∷ (codes "dec21", 21) ∷ (codes "dec22", 22) ∷ (codes "dec23", 23) ∷ (codes "dec24", 24)
    ∷ (codes "dec25", 25) ∷ (codes "dec26", 26) ∷ (codes "dec27", 27) ∷ (codes "dec28", 28) ∷ (codes "dec29", 29)
    ∷ (codes "dec30", 30) ∷ (codes "dec31", 31) ∷ (codes "dec32", 32) ∷ (codes "dec33", 33) ∷ (codes "dec34", 34)
    ∷ (codes "dec35", 35) ∷ (codes "dec36", 36) ∷ (codes "dec37", 37) ∷ (codes "dec38", 38) ∷ []

abbrev pub scale_among : List (List ℕ × ℕ) → List ℕ → Option ℕ
scale_among [] word = None
scale_among (w ∷ ws) word = cond (bytes_eq word w.0) (Some w.1) (scale_among ws word)
