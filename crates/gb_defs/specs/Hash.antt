-- Hashes of numbers, bytes and slots, under a seed and a mixing function of words. A word is a number
-- below 2 ^ 64, and sums and products of words are taken modulo 2 ^ 64.
use Rattle.std.specs.Prelude.{ℕ, zero, suc, ℤ, ◌+◌, ◌*◌, ◌/◌, ◌%◌, ◌^◌, List, [], ◌∷◌, length, drop, bit_xor}
use Rattle.std.specs.List.{fold}
use Rattle.std.specs.Int.{Width, w64, w128, cast_unsigned, from_le_bytes, div_ceil}
use Rattle.gb_defs.specs.Slot.{Slot, Nil, Num, Bytes, Items, slot_at}
use Rattle.gb_defs.specs.ColumnType.{ColumnType, Flat, Null, Boolean, Unsigned, Signed, Decimal, String, Binary, BinaryOffset}
use Rattle.gb_defs.specs.Column.{ColumnValue, Frame}

-- x xor (x >> k)
abbrev pub fold_down : ℕ → ℕ → ℕ
fold_down k x = bit_xor x (x / 2 ^ k)

-- two rounds that each fold the high bits down and multiply, and a last fold
unfoldable pub seed_mix : ℕ → ℕ
seed_mix x =
    let y = fold_down 30 x * 0xbf58476d1ce4e5b9 % 2 ^ 64 in
    let z = fold_down 27 y * 0x94d049bb133111eb % 2 ^ 64 in
    fold_down 31 z

-- the hash h of what came before, with one more word
abbrev pub fold_word : (ℕ → ℕ) → ℕ → ℕ → ℕ
fold_word mix h w = mix (bit_xor h (mix w))

abbrev pub hash_word : ℕ → (ℕ → ℕ) → ℕ → ℕ
hash_word seed mix w = fold_word mix seed w

-- the hash of 128 bits: the low half, then the high half
abbrev pub hash_halves : ℕ → (ℕ → ℕ) → ℕ → ℕ
hash_halves seed mix n = fold_word mix (fold_word mix seed (n % 2 ^ 64)) (n / 2 ^ 64)

-- the bits of a number of at most 64 bits, with its sign extended
abbrev pub word_of : ℤ → ℕ
word_of n = cast_unsigned w64 n

-- the hash of a number of a type of this width
abbrev pub hash_number : Width → ℕ → (ℕ → ℕ) → ℤ → ℕ
hash_number w128 seed mix n = hash_halves seed mix (cast_unsigned w128 n)
hash_number _ seed mix n = hash_word seed mix (word_of n)

unfoldable pub null_hash : ℕ → (ℕ → ℕ) → ℕ
null_hash seed mix = hash_word seed mix (hash_word seed mix 3188347919)

-- the first count words of eight bytes, lowest byte first; past the end a byte is zero
abbrev pub words_from : ℕ → List ℕ → List ℕ
words_from zero bytes = []
words_from (suc count) bytes = from_le_bytes w64 bytes ∷ words_from count (drop 8 bytes)

-- the words of the bytes, the last one padded with zeros
abbrev pub words_of : List ℕ → List ℕ
words_of bytes = words_from (div_ceil (length bytes) 8) bytes

-- the words in order after the hash of null, and then the length
unfoldable pub hash_bytes : ℕ → (ℕ → ℕ) → List ℕ → ℕ
hash_bytes seed mix bytes = fold_word mix (fold (fold_word mix) (null_hash seed mix) (words_of bytes)) (length bytes)

-- the hash of a slot of a column whose numbers have this width; a list counts as null
abbrev pub hash_of : Width → ℕ → (ℕ → ℕ) → Slot → ℕ
hash_of width seed mix Nil = null_hash seed mix
hash_of width seed mix (Num n) = hash_number width seed mix n
hash_of width seed mix (Bytes bytes) = hash_bytes seed mix bytes
hash_of width seed mix (Items slots) = null_hash seed mix

-- the width of a type's numbers; 64 bits serve where there are none
abbrev pub hash_width : ColumnType → Width
hash_width (Flat (Unsigned w)) = w
hash_width (Flat (Signed w)) = w
hash_width (Flat (Decimal precision scale)) = w128
hash_width _ = w64

-- both halves of the product of 128 bits
unfoldable pub folded_multiply : ℕ → ℕ → ℕ
folded_multiply a b = bit_xor (a * b % 2 ^ 64) (a * b / 2 ^ 64)

-- the hash l with the hash r behind it: l xor (r + 0x9e3779b9 + (l << 6) + (r >> 2))
unfoldable pub boost_combine : ℕ → ℕ → ℕ
boost_combine l r = bit_xor l ((r + 0x9e3779b9 + l * 2 ^ 6 + r / 2 ^ 2) % 2 ^ 64)

-- the hash h of a column of numbers with the hash r of the columns before it
abbrev pub multiply_combine : ℕ → ℕ → ℕ
multiply_combine h r = folded_multiply (bit_xor h (folded_multiply r 6364136223846793005)) 6364136223846793005

-- how the hash of a column of this type is put to the hash of those before it
abbrev pub combine_of : ColumnType → ℕ → ℕ → ℕ
combine_of (Flat Null) h r = boost_combine h r
combine_of (Flat Boolean) h r = boost_combine h r
combine_of (Flat String) h r = boost_combine h r
combine_of (Flat Binary) h r = boost_combine h r
combine_of (Flat BinaryOffset) h r = boost_combine h r
combine_of _ h r = multiply_combine h r

-- the hash of a column's slot at a row
abbrev pub cell_hash : ℕ → (ℕ → ℕ) → ℕ → ColumnValue → ℕ
cell_hash seed mix row c = hash_of (hash_width c.dtype) seed mix (slot_at c.slots row)

-- the hash r of the columns before, with those of these columns
abbrev pub hash_behind : ℕ → (ℕ → ℕ) → ℕ → ℕ → Frame → ℕ
hash_behind seed mix row r [] = r
hash_behind seed mix row r (c ∷ cs) = hash_behind seed mix row (combine_of c.dtype (cell_hash seed mix row c) r) cs

-- the hash of a row: that of its first slot, with each later one
abbrev pub row_hash : ℕ → (ℕ → ℕ) → Frame → ℕ → ℕ
row_hash seed mix [] row = 0
row_hash seed mix (c ∷ cs) row = hash_behind seed mix row (cell_hash seed mix row c) cs

-- the partition of a hash among n: the hash as a fraction of 2 ^ 64, scaled to n
unfoldable pub partition_of : ℕ → ℕ → ℕ
partition_of h n = h * n / 2 ^ 64
