-- Whether a frame may be put behind another, the frame of both, and what takes an append back.
use Rattle.std.specs.Prelude.{◌≡◌, ℕ, zero, suc, ◌+◌, ◌<◌, ◌≤◌, ◌^◌, ◌==◌, List, [], ◌∷◌, length, sum, Bool, true, false, cond, Option, Some, None, if◌then◌else◌}
use Rattle.std.specs.Str.{bytes_eq}
use base.Stored.{Gv, gnil, gnum, gcons}
use Rattle.gb_defs.specs.Column.{ColumnValue, Frame, IsFlagTrue, UsesAll}
use Rattle.gb_defs.specs.ColumnType.{ColumnType, type_code}
use Rattle.gb_defs.specs.Fault as fault
use Rattle.gb_base.specs.Sorted.{flag_of}
use Rattle.gb_cols.specs.Column.{appended, first_chunks}
use Rattle.gb_series.specs.declared.append.Mark.{Mark}

-- ---- why a frame is not put behind another

-- whether two codes are one
abbrev pub code_eq : Gv → Gv → Bool
code_eq gnil gnil = true
code_eq (gnum m) (gnum n) = m == n
code_eq (gcons a b) (gcons c d) = cond (code_eq a c) (code_eq b d) false
code_eq _ _ = false

-- whether two types are one, with their parts: a type has its code alone
unfoldable pub type_eq : ColumnType → ColumnType → Bool
type_eq t u = code_eq (type_code.code t) (type_code.code u)

-- whether the columns are as many, and those at one place have one name
abbrev pub are_named_alike : Frame → Frame → Bool
are_named_alike [] [] = true
are_named_alike [] (o ∷ os) = false
are_named_alike (c ∷ cs) [] = false
are_named_alike (c ∷ cs) (o ∷ os) = cond (bytes_eq c.name o.name) (are_named_alike cs os) false

-- the first column that has another type than the column at its place behind it
abbrev pub type_fault : Frame → Frame → Option fault.Fault
type_fault [] others = None
type_fault (c ∷ cs) [] = None
type_fault (c ∷ cs) (o ∷ os) = cond (type_eq c.dtype o.dtype) (type_fault cs os) (Some (fault.SchemaMismatch c.name))

-- the numbers of the columns or two names at one place differ, or else two types do
abbrev pub append_fault : Frame → Frame → Option fault.Fault
append_fault frame other = if are_named_alike frame other then type_fault frame other else Some fault.ShapeMismatch

-- ---- the frame of both

-- the rows and chunks of another frame's columns behind those of the columns at their places
abbrev pub appended_frame : Frame → Frame → Frame
appended_frame [] others = []
appended_frame (c ∷ cs) [] = c ∷ cs
appended_frame (c ∷ cs) (o ∷ os) = appended c o ∷ appended_frame cs os

-- the frame of both, but for the first columns, so many, which are as they were
abbrev pub appended_from : ℕ → Frame → Frame → Frame
appended_from zero frame others = appended_frame frame others
appended_from (suc k) [] others = []
appended_from (suc k) (c ∷ cs) [] = c ∷ cs
appended_from (suc k) (c ∷ cs) (o ∷ os) = c ∷ appended_from k cs os

-- the columns are as many, and those at one place have one type, and few slots together
abbrev pub CanAppend : Frame → Frame → Type 0
CanAppend [] [] = Unit {0}
CanAppend [] (o ∷ os) = ⊥
CanAppend (c ∷ cs) [] = ⊥
CanAppend (c ∷ cs) (o ∷ os) = (o.dtype ≡ c.dtype) × (length c.slots + length o.slots < 2 ^ 63) × CanAppend cs os

-- ---- what takes an append back

-- the mark tells the number of a column's chunks and its flags
pub record IsMarkOf (c : ColumnValue) (mark : Mark) : Type 0 where
  pub chunks : mark.chunks ≡ length c.chunks
  pub some : 0 < mark.chunks
  pub rows : sum c.chunks ≡ length c.slots
  pub sorted : flag_of mark.sorted ≡ c.sorted
  pub ordered : IsFlagTrue c.sorted c.dtype c.slots
  pub uses_all : mark.uses_all ≡ c.all_used
  pub used : mark.uses_all ≡ true → UsesAll c.dtype c.slots

-- there is a mark of each column
abbrev pub AreMarksOf : Frame → List Mark → Type 0
AreMarksOf [] [] = Unit {0}
AreMarksOf [] (m ∷ ms) = ⊥
AreMarksOf (c ∷ cs) [] = ⊥
AreMarksOf (c ∷ cs) (m ∷ ms) = IsMarkOf c m × AreMarksOf cs ms

-- the first chunks of a column, as many as a mark says, with the flags that it says
abbrev pub undone : Mark → ColumnValue → ColumnValue
undone mark c = record (first_chunks mark.chunks c) { sorted = flag_of mark.sorted; all_used = mark.uses_all }

-- the column has these chunks, and the flags are true of them
pub record CanUndo (mark : Mark) (c : ColumnValue) : Type 0 where
  pub some : 0 < mark.chunks
  pub within : mark.chunks ≤ length c.chunks
  pub ordered : IsFlagTrue (flag_of mark.sorted) c.dtype (first_chunks mark.chunks c).slots
  pub used : mark.uses_all ≡ true → UsesAll c.dtype (first_chunks mark.chunks c).slots

-- each column undone, but for the first, so many
abbrev pub undone_from : ℕ → List Mark → Frame → Frame
undone_from k marks [] = []
undone_from k [] (c ∷ cs) = c ∷ cs
undone_from zero (m ∷ ms) (c ∷ cs) = undone m c ∷ undone_from zero ms cs
undone_from (suc k) (m ∷ ms) (c ∷ cs) = c ∷ undone_from k ms cs

-- each column can be undone, but for the first, so many
abbrev pub CanUndoFrom : ℕ → List Mark → Frame → Type 0
CanUndoFrom k marks [] = Unit {0}
CanUndoFrom k [] (c ∷ cs) = ⊥
CanUndoFrom zero (m ∷ ms) (c ∷ cs) = CanUndo m c × CanUndoFrom zero ms cs
CanUndoFrom (suc k) (m ∷ ms) (c ∷ cs) = CanUndoFrom k ms cs
