-- The groups of some of the rows, by the numbers of their groups.
use Rattle.std.specs.Prelude.{◌≡◌, ℕ, List, map, zip, length}
use Rattle.gb_defs.specs.Classes.{groups}
use Rattle.std.specs.Int.{w64}
use Rattle.gb_defs.specs.Hash.{seed_mix}
use Rattle.gb_defs.specs.Rows.{Rows, rows_of_slots, same_slot_at}
use Rattle.gb_defs.specs.Slot.{Bytes, Slot}
use Rattle.gb_groups.specs.Numbers.{lists_by}

-- the groups of some of the rows
abbrev pub groups_among : Rows → List ℕ → List (ℕ × List ℕ)
groups_among rows members = groups (same_slot_at rows.slot) members

-- each group's first row, with the rows of its number
abbrev pub pairs_by : List ℕ → List ℕ → List ℕ → List (ℕ × List ℕ)
pairs_by rows numbers first = zip first (lists_by rows numbers (length first))

-- a table's entries are, in order, the keys and the hashes of these rows
pub record AreEntries {K : Type 0} (key_slot : K → Slot) (rows : Rows) (first : List ℕ) (entries : List (K × ℕ)) : Type 0 where
  pub keys : map (λ e. key_slot e.0) entries ≡ map rows.slot first
  pub hashes : map (λ e. e.1) entries ≡ map rows.hash first

-- rows of texts, with their hashes under a seed
abbrev pub text_rows : ℕ → List (List ℕ) → Rows
text_rows seed texts = rows_of_slots w64 seed seed_mix (map (λ t. Bytes t) texts)
