-- A table of texts that differ.
use Rattle.std.specs.Prelude.{◌≡◌, ◌⊎◌, ℕ, ◌<◌, ◌^◌, List, [], length, map, get_or, false}
use Rattle.std.specs.List.{All, IsDistinct, list_any}
use Rattle.std.specs.Str.{IsUtf8, bytes_eq}
use Rattle.gb_table.specs.Table.{IsFreeFor, IsRoomy}
use Rattle.gb_table.specs.TextKey.{hash_of, key_of}
use Rattle.gb_table.specs.declared.slots.Spot.{Spot}
use Rattle.gb_table.specs.declared.slots.Spot.TheVariants.{Known, Free}
use Rattle.gb_table.specs.declared.text_key.TextKey.{TextKey}

-- slots with room for these keys, or none yet and no keys
abbrev pub HasSlots : List ℕ → List TextKey → Type 0
HasSlots slots keys = ((slots ≡ []) × (keys ≡ [])) ⊎ IsRoomy slots (map hash_of keys)

-- slots and keys of texts that differ, under a seed, of which there are no more than there are numbers
pub record IsTextTable (seed : ℕ) (slots : List ℕ) (keys : List TextKey) (texts : List (List ℕ)) : Type 0 where
  pub has_slots : HasSlots slots keys
  pub keyed : keys ≡ map (key_of seed) texts
  pub differ : IsDistinct bytes_eq texts
  pub utf8 : All IsUtf8 texts
  pub few : length texts < 2 ^ 32

-- the keys are those of the texts, and the key is that of the text, under one seed
pub record AreKeyed (keys : List TextKey) (texts : List (List ℕ)) (key : TextKey) (text : List ℕ) : Type 0 where
  pub seed : ℕ
  pub keys_of : keys ≡ map (key_of seed) texts
  pub key_is : key ≡ key_of seed text

-- the number of the text; a free spot says that there is no such text, and is the first free slot from its hash on
abbrev pub IsTextSpot : List ℕ → List (List ℕ) → TextKey → List ℕ → Spot → Type 0
IsTextSpot slots texts key text (Known number) = (number < length texts) × (get_or texts number [] ≡ text)
IsTextSpot slots texts key text (Free at) = IsFreeFor slots (hash_of key) at × (list_any (bytes_eq text) texts ≡ false)
