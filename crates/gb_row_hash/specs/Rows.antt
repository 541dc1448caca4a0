-- The hashes of the rows of several columns, and the first column of which the slots have none.
use Rattle.std.specs.Prelude.{◌≡◌, ℕ, ◌<◌, pos, List, [], ◌∷◌, length, map, Option, None}
use Rattle.std.specs.Int.{w64}
use Rattle.std.specs.List.{range_with_len}
use Rattle.std.specs.Option.{option_or}
use Rattle.gb_defs.specs.Column.{ColumnValue, Frame, frame_height, fresh_column}
use Rattle.gb_defs.specs.ColumnType.{Flat, Unsigned}
use Rattle.gb_defs.specs.Fault.{Fault, key_fault}
use Rattle.gb_defs.specs.Hash.{row_hash}
use Rattle.gb_defs.specs.Slot.{Num}

-- the hash of each row
abbrev pub row_hashes : ℕ → (ℕ → ℕ) → Frame → List ℕ
row_hashes seed mix frame = map (row_hash seed mix frame) (range_with_len 0 (frame_height frame))

-- the same as a column with no name
abbrev pub hash_column : ℕ → (ℕ → ℕ) → Frame → ColumnValue
hash_column seed mix frame = fresh_column [] (Flat (Unsigned w64)) (map (λ h. Num (pos h)) (row_hashes seed mix frame))

-- the cause by the first column without hashes
abbrev pub first_key_fault : Frame → Option Fault
first_key_fault [] = None
first_key_fault (c ∷ cs) = option_or (key_fault c) (first_key_fault cs)

-- the cause by the first frame that has such a column
abbrev pub first_frame_fault : List Frame → Option Fault
first_frame_fault [] = None
first_frame_fault (frame ∷ frames) = option_or (first_key_fault frame) (first_frame_fault frames)

-- a frame that has a column, and no column without hashes
pub record HasHashes (frame : Frame) : Type 0 where
  pub some : 0 < length frame
  pub fits : first_key_fault frame ≡ None
