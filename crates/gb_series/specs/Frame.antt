-- Why columns make no frame, what a frame keeps, and the frames of its chunks.
use Rattle.std.specs.Prelude.{◌≡◌, ℕ, ◌+◌, ◌<◌, ◌^◌, nat_lt, List, [], ◌∷◌, length, map, All, Bool, true, false, cond, Option, Some, None, Result, MatchOption, is_none, if◌then◌else◌}
use Rattle.std.specs.List.{filter}
use Rattle.std.specs.Result.{MatchResult}
use Rattle.std.specs.Str.{bytes_eq}
use Rattle.std.specs.Option.{option_or}
use Rattle.gb_defs.specs.Column.{ColumnValue, Frame, IsFrame, all_have_length, find_column, first_repeated, frame_height, names_of}
use Rattle.gb_defs.specs.Fault as fault
use Rattle.gb_base.specs.declared.error.PolarsError.{PolarsError}
use Rattle.gb_base.specs.PlSmallStr.{IsNoMemory}
use Rattle.gb_series.specs.Series.{part_at}

-- two columns have one name, or their lengths differ
abbrev pub frame_fault : Frame → Option fault.Fault
frame_fault frame = option_or (fault.duplicate_of (first_repeated (names_of frame))) (fault.misaligned_fault frame (all_have_length (frame_height frame) frame))

abbrev pub missing_column : Frame → List ℕ → Option fault.Fault
missing_column frame name = if is_none (find_column frame name) then Some (fault.ColumnNotFound name) else None

-- the first of the names that no column has
abbrev pub first_missing : Frame → List (List ℕ) → Option fault.Fault
first_missing frame [] = None
first_missing frame (name ∷ names) = option_or (missing_column frame name) (first_missing frame names)

-- no column has one of the names, or one name stands twice
abbrev pub select_fault : Frame → List (List ℕ) → Option fault.Fault
select_fault frame names = option_or (first_missing frame names) (fault.duplicate_of (first_repeated names))

-- whether all columns have chunks of these lengths
abbrev pub are_all_chunked : List ℕ → Frame → Bool
are_all_chunked lengths [] = true
are_all_chunked lengths (c ∷ cs) = cond (bytes_eq c.chunks lengths) (are_all_chunked lengths cs) false

-- whether all columns have chunks of the same lengths
abbrev pub are_aligned : Frame → Bool
are_aligned [] = true
are_aligned (c ∷ cs) = are_all_chunked c.chunks cs

pub record IsSmallFrame (frame : Frame) : Type 0 where
  pub is_frame : IsFrame frame
  pub small : frame_height frame < 2 ^ 63

-- ---- the frames of chunks

-- the lengths of the first column's chunks, which are those of all columns of an aligned frame
abbrev pub frame_chunks : Frame → List ℕ
frame_chunks [] = []
frame_chunks (c ∷ cs) = c.chunks

-- one frame for each of these lengths: so many rows of each column, one part after the other from a row on
abbrev pub frames_at : Frame → ℕ → List ℕ → List Frame
frames_at frame start [] = []
frames_at frame start (len ∷ lens) = map (part_at start len) frame ∷ frames_at frame (start + len) lens

-- one frame for each chunk that has rows, in order
abbrev pub frames_of : Frame → List Frame
frames_of frame = frames_at frame 0 (filter (nat_lt 0) (frame_chunks frame))

-- all rows stand in one chunk
abbrev pub HasOneChunk : ColumnValue → Type 0
HasOneChunk c = c.chunks ≡ length c.slots ∷ []

-- so they do in each column
abbrev pub IsInOneChunk : Frame → Type 0
IsInOneChunk frame = All HasOneChunk frame

-- a call gave the first of the frames that were left, or want of memory in its place, and left the others;
-- or it gave nothing, where nothing was left
abbrev pub GivesFrame : List Frame → Option (Result Frame PolarsError) → List Frame → Type 0
GivesFrame left given later =
    MatchOption given ((left ≡ []) × (later ≡ [])) (λ made. (frame : Frame) × (left ≡ frame ∷ later) × MatchResult made (λ f. f ≡ frame) IsNoMemory)
