-- The hashes of a column's slots, and those of earlier columns with them.
use Rattle.std.specs.Prelude.{◌≡◌, ℕ, ◌≤◌, List, [], ◌∷◌, map, Vec, vec_capacity}
use Rattle.std.specs.Global.{Global}
use Rattle.gb_defs.specs.Column.{ColumnValue, Frame}
use Rattle.gb_defs.specs.ColumnType.{ColumnType}
use Rattle.gb_defs.specs.Hash.{combine_of, hash_of, hash_width}
use Rattle.gb_defs.specs.Slot.{Slot}

-- the hash of a slot of a column of this type
abbrev pub slot_hash : ColumnType → ℕ → (ℕ → ℕ) → Slot → ℕ
slot_hash t seed mix slot = hash_of (hash_width t) seed mix slot

-- the hash of each slot of a column
abbrev pub slot_hashes : ℕ → (ℕ → ℕ) → ColumnValue → List ℕ
slot_hashes seed mix c = map (slot_hash c.dtype seed mix) c.slots

-- each of the first hashes put to the one at its place; the others behind them stay
abbrev pub combine_each : (ℕ → ℕ → ℕ) → List ℕ → List ℕ → List ℕ
combine_each f [] before = before
combine_each f (h ∷ hs) [] = []
combine_each f (h ∷ hs) (r ∷ rs) = f h r ∷ combine_each f hs rs

-- the hash of each slot of a column put to the hash of the columns before it
abbrev pub combined_hashes : ℕ → (ℕ → ℕ) → ColumnValue → List ℕ → List ℕ
combined_hashes seed mix c before = combine_each (combine_of c.dtype) (slot_hashes seed mix c) before

-- the hashes of columns in turn put to those of the columns before them
abbrev pub combined_all : ℕ → (ℕ → ℕ) → Frame → List ℕ → List ℕ
combined_all seed mix [] before = before
combined_all seed mix (c ∷ cs) before = combined_all seed mix cs (combined_hashes seed mix c before)

-- a buffer holds nothing, and has room for so many hashes
pub record IsCleared (count : ℕ) (buf : Vec ℕ Global) : Type 0 where
  pub none : buf.items ≡ []
  pub room : count ≤ vec_capacity buf
