-- What tells texts apart at a look.
use Rattle.std.specs.Prelude.{ℕ, ◌-◌, List, take, drop, length, ◌++◌, slice_index, if◌then◌else◌, nat_le, nat_lt, bit_xor}
use Rattle.std.specs.Hash.{str, u64}
use Rattle.std.specs.Hash.FoldHasher.{finish, folded_multiply, initial, write}
use Rattle.std.specs.Int.{Width, w16, w32, w64, from_le_bytes}
use Rattle.std.specs.List.{fold}
use Rattle.gb_table.specs.declared.text_key.TextKey.{TextKey}

-- what the library hashes a text to behind a seed
unfoldable pub text_hash : ℕ → List ℕ → ℕ
text_hash seed text = finish (fold write initial (u64 seed ++ str text))

-- the first bytes as a word, so many, and the last ones
abbrev pub outer_words : Width → ℕ → List ℕ → ℕ × ℕ
outer_words w count bytes = (from_le_bytes w (take count bytes), from_le_bytes w (drop (length bytes - count) bytes))

-- a word for each end of a short text: its first and its last bytes
unfoldable pub end_words : List ℕ → ℕ × ℕ
end_words text =
    let n = length text in
    if nat_le 8 n then outer_words w64 8 text
    else (if nat_le 4 n then outer_words w32 4 text
    else (if nat_le 2 n then outer_words w16 2 text
    else (slice_index text 0, 0)))

-- the words of a text under a seed: those of its ends, the first joined with the seed, and for a long one its hash
unfoldable pub key_words : ℕ → List ℕ → ℕ × ℕ
key_words seed text =
    if nat_lt 16 (length text) then (text_hash seed text, 0)
    else (bit_xor (end_words text).0 seed, (end_words text).1)

-- the key of a text under a seed
abbrev pub key_of : ℕ → List ℕ → TextKey
key_of seed text = record { len = length text; front = (key_words seed text).0; back = (key_words seed text).1 }

-- the hash of a key
unfoldable pub hash_of : TextKey → ℕ
hash_of key =
    if nat_lt 16 key.len then key.front
    else folded_multiply (bit_xor (folded_multiply (bit_xor key.front 0x243f_6a88_85a3_08d3) 0x9e37_79b9_7f4a_7c15) key.back) 0x9e37_79b9_7f4a_7c15
