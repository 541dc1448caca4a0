-- Rows that are written in one buffer, each in a room of its own.
use Rattle.std.specs.Prelude.{◌≡◌, ℕ, ◌+◌, ◌-◌, ◌≤◌, ◌<◌, List, [], ◌∷◌, ◌++◌, take, drop, set, get_or, length, map, refl}
use Rattle.std.proofs.Common.{◌∙◌}
use Rattle.gb_defs.specs.RowBytes.{ended_bytes}
use Rattle.gb_rows.specs.Cells.{behind}
use Rattle.gb_rows.specs.Zipped.{IsZipped, zipped_more, zipped_none}

-- what is written of each row, from its start to its cursor; the bytes are those from the first start on
abbrev pub rows_from : ℕ → List ℕ → List ℕ → List ℕ → List (List ℕ)
rows_from start [] cursors bytes = []
rows_from start (end ∷ ends) [] bytes = []
rows_from start (end ∷ ends) (at ∷ cursors) bytes = take (at - start) bytes ∷ rows_from end ends cursors (drop (end - start) bytes)

-- the room of each row
abbrev pub rooms_from : ℕ → List ℕ → List ℕ
rooms_from start [] = []
rooms_from start (end ∷ ends) = (end - start) ∷ rooms_from end ends

-- where rows of these lengths end that follow each other
abbrev pub ends_from : ℕ → List ℕ → List ℕ
ends_from start [] = []
ends_from start (count ∷ counts) = (start + count) ∷ ends_from (start + count) counts

-- where the last of them ends
abbrev pub end_behind : ℕ → List ℕ → ℕ
end_behind start [] = start
end_behind start (count ∷ counts) = end_behind (start + count) counts

-- a cursor stands in each row's room, and the rooms follow each other up to the end
abbrev pub AreLaid : ℕ → List ℕ → List ℕ → ℕ → Type 0
AreLaid start [] [] last = start ≡ last
AreLaid start [] (at ∷ cursors) last = ⊥
AreLaid start (end ∷ ends) [] last = ⊥
AreLaid start (end ∷ ends) (at ∷ cursors) last = (start ≤ at) × ((at ≤ end) × AreLaid end ends cursors last)

-- bytes with others in the place of those from a place on
abbrev pub written : ℕ → List ℕ → List ℕ → List ℕ
written at part bytes = take at bytes ++ (part ++ drop (at + length part) bytes)

-- what contracts see of such rows: what is written of each, how long each may be, and which is next
pub record RowsWritten : Type 0 where
  pub rows : List (List ℕ)
  pub room : List ℕ
  pub next : ℕ

-- rows of no bytes, with room for so many each
abbrev pub empty_rows : List ℕ → RowsWritten
empty_rows lengths = record { rows = map (λ _. []) lengths; room = lengths; next = 0 }

-- more bytes stand behind what is written of the next row
pub record IsAppended (part : List ℕ) (before after : RowsWritten) : Type 0 where
  pub rows : after.rows ≡ set before.rows before.next (get_or before.rows before.next [] ++ part)
  pub room : after.room ≡ before.room
  pub next : after.next ≡ before.next

-- ---- cells

-- rows took cells from the next one on, in the rooms that they have
pub record HasTakenCells (cells : List (List ℕ)) (a b : RowsWritten) : Type 0 where
  pub rows : IsZipped behind cells a.rows a.next b.rows b.next
  pub room : b.room ≡ a.room

pub cells_none : (a : RowsWritten) → HasTakenCells [] a a
cells_none a = record { rows = zipped_none behind a.rows a.next; room = refl }

pub cells_more : (front back : List (List ℕ)) (a b c : RowsWritten) → HasTakenCells front a b → HasTakenCells back b c → HasTakenCells (front ++ back) a c
cells_more front back a b c x y = record { rows = zipped_more behind front back a.rows a.next b.rows b.next c.rows c.next x.rows y.rows; room = y.room ∙ x.room }

-- bytes up to their first zero, and those behind it
pub record IsSplit (bytes front back : List ℕ) : Type 0 where
  pub ended : ended_bytes bytes ≡ (front ++ 0 ∷ 255 ∷ []) ++ ended_bytes back
  pub shorter : length back < length bytes
