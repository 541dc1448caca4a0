-- Keys in one of their forms, and what they say of a column.
use Rattle.std.specs.Prelude.{◌≡◌, ◌≢◌, ℕ, pos, List, [], ◌∷◌, length, map, replicate}
use Rattle.std.specs.Int.{w64, w128}
use Rattle.gb_defs.specs.Column.{ColumnValue}
use Rattle.gb_defs.specs.ColumnType.{ColumnType, Flat}
use Rattle.gb_defs.specs.Hash.{hash_of, hash_width, seed_mix}
use Rattle.gb_defs.specs.Path.{NoValues, Numbers, ByteLists, Parts, kind_of}
use Rattle.gb_defs.specs.Path as path
use Rattle.gb_defs.specs.RowBytes.{row_bytes}
use Rattle.gb_defs.specs.Rows.{Rows, StandsFor, rows_of_slots}
use Rattle.gb_defs.specs.Slot as slot
use Rattle.gb_values.specs.Keys.{bytes_slot, key_slot}
use Rattle.gb_cols.specs.Null.{AreNulls}
use Rattle.gb_hash.specs.Keys.{key_slots}
use Rattle.gb_paths.specs.Numbers.{text_rows}
use Rattle.gb_paths.specs.declared.keys.KeyKind.{KeyKind}
use Rattle.gb_paths.specs.declared.keys.KeyKind.TheVariants as kind
use Rattle.gb_paths.specs.declared.keys.Keys.{Keys}
use Rattle.gb_paths.specs.declared.keys.Keys.TheVariants.{Plain, Words, PlainCodes, Codes, Wide, Texts, Bytes, RowBytes}

-- rows of bytes, with their hashes under a seed
abbrev pub byte_rows : ℕ → List slot.Slot → Rows
byte_rows seed slots = rows_of_slots w64 seed seed_mix slots

-- the rows of keys, with their hashes under a seed
abbrev pub rows_of_keys : ℕ → Keys → Rows
rows_of_keys seed (Plain words) = rows_of_slots w64 seed seed_mix (key_slots (λ n. pos n) words.items)
rows_of_keys seed (Words words) = rows_of_slots w64 seed seed_mix (map key_slot words.items)
rows_of_keys seed (PlainCodes codes) = rows_of_slots w64 seed seed_mix (key_slots (λ n. pos n) codes.items)
rows_of_keys seed (Codes codes) = rows_of_slots w64 seed seed_mix (map key_slot codes.items)
rows_of_keys seed (Wide words) = rows_of_slots w128 seed seed_mix (map key_slot words.items)
rows_of_keys seed (Texts texts) = text_rows seed texts
rows_of_keys seed (Bytes bytes) = rows_of_slots w64 seed seed_mix (map bytes_slot bytes.items)
rows_of_keys seed (RowBytes bytes) = byte_rows seed bytes.slots

abbrev pub key_kind : Keys → path.KeyKind
key_kind (Plain words) = Numbers
key_kind (Words words) = Numbers
key_kind (PlainCodes codes) = path.Codes
key_kind (Codes codes) = path.Codes
key_kind (Wide words) = Numbers
key_kind (Texts texts) = ByteLists
key_kind (Bytes bytes) = ByteLists
key_kind (RowBytes bytes) = Parts

-- what a kind of keys stands for in the definitions
abbrev pub kind_value : KeyKind → path.KeyKind
kind_value kind.NoValues = path.NoValues
kind_value kind.Numbers = path.Numbers
kind_value kind.Codes = path.Codes
kind_value kind.ByteLists = path.ByteLists
kind_value kind.Parts = path.Parts

-- a type by the order of whose values rows may go by runs: it has values, and they hold no others
pub record HasRuns (t : ColumnType) : Type 0 where
  pub valued : kind_of t ≢ NoValues
  pub flat : kind_of t ≢ Parts

-- a column that is none of categories
abbrev pub HasNoCodes : ColumnValue → Type 0
HasNoCodes column = kind_of column.dtype ≢ path.Codes

-- the codes of a column of categories, of so many texts
pub record AreCodesOf (column codes : ColumnValue) (count : ℕ) : Type 0 where
  pub slots : codes.slots ≡ column.slots
  pub texts : path.code_count column.dtype ≡ count

-- so many rows without a value
abbrev pub null_rows : ℕ → Rows
null_rows count = rows_of_slots w64 0 seed_mix (replicate count slot.Nil)

-- a column has values, and so keys
abbrev pub HasValues : ColumnValue → Type 0
HasValues column = kind_of column.dtype ≢ NoValues

-- a column of a type without values: every slot of it is null
pub record HasNoValues (column : ColumnValue) : Type 0 where
  pub kind : kind_of column.dtype ≡ NoValues
  pub nulls : AreNulls column.slots

-- by what a row of a key is hashed: a slot that holds others by its bytes, and any other as it is
abbrev pub hashed_slot : ColumnType → ColumnValue → ℕ → slot.Slot
hashed_slot (Flat t) key row = slot.slot_at key.slots row
hashed_slot t key row = slot.Bytes (row_bytes (key ∷ []) row)

-- the rows of a key, with their hashes under a seed
abbrev pub key_rows : ℕ → ColumnValue → Rows
key_rows seed key = record {
  count = length key.slots;
  slot = slot.slot_at key.slots;
  hash = λ row. hash_of (hash_width key.dtype) seed seed_mix (hashed_slot key.dtype key row);
}

-- keys stand for the slots of a column, under any seed
pub record StandFor (column : ColumnValue) (keys : Keys) : Type 0 where
  pub rows : (seed : ℕ) → StandsFor (key_rows seed column) (rows_of_keys seed keys)
  pub kind : kind_of column.dtype ≡ key_kind keys
