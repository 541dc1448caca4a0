-- The columns of an answer over the groups that were found.
use Rattle.std.specs.Prelude.{◌≡◌, ℕ, ◌<◌, All, IfErr, IfOk, List, [], ◌∷◌, ◌++◌, OnOk, Result, get_or, length, map, take, Option, None, false, true, is_none, if◌then◌else◌}
use Rattle.std.specs.Borrow.{Bor}
use Rattle.gb_defs.specs.Column.{ColumnValue, Content, Frame, IsFrame, content, find_column, taken}
use Rattle.gb_defs.specs.Fold.{Method}
use Rattle.gb_defs.specs.Answer.{aggregated}
use Rattle.gb_defs.specs.Fault.{Fault, is_groups, unfit_at, unfit_fault, unfit_or}
use Rattle.gb_defs.specs.Groups.{AreMembers, Grouping, HasRowNumbers, first_of, lists_in}
use Rattle.gb_base.specs.PlSmallStr.{name_of}
use Rattle.gb_base.specs.PolarsError.{Explains}
use Rattle.gb_base.specs.declared.error.PolarsError.{PolarsError}
use Rattle.gb_series.specs.Frame.{missing_column}
use Rattle.gb_series.specs.Series.{value_of}
use Rattle.gb_series.specs.declared.series.Series.{Series}
use Rattle.gb_frame.specs.Agg.{agg_of, aggs_of}
use Rattle.gb_frame.specs.declared.agg.Agg.{Agg}
use Rattle.gb_paths.specs.declared.classes.Classes.{Classes}
use Rattle.gb_paths.specs.declared.classes.Classes.TheVariants as classes
use Rattle.gb_agg.specs.Method.{goes_by_numbers, method_of}
use Rattle.gb_agg.specs.Over.{grouping_over}
use Rattle.gb_agg.specs.declared.over.Over.{Over}
use Rattle.gb_agg.specs.declared.over.Over.TheVariants as over

-- what columns hold
abbrev pub contents_of : List Series → List Content
contents_of columns = map (λ s. content (value_of s)) columns

-- the first row of each group
abbrev pub firsts_in : Grouping → List ℕ
firsts_in g = map first_of g.pairs

-- each aggregate over the rows of each group
abbrev pub aggregates_over : Frame → List (List ℕ × Method) → List (List ℕ) → List Content
aggregates_over frame aggs lists = map (λ agg. aggregated agg (find_column frame agg.0) lists) aggs

-- the keys at the first rows of the groups, and the aggregates over their rows
abbrev pub answer_parts : Frame → List ColumnValue → List (List ℕ × Method) → List ℕ → List (List ℕ) → List Content
answer_parts frame keys aggs rows lists = map (λ key. content (taken rows key)) keys ++ aggregates_over frame aggs lists

-- why an aggregate is refused where the frame has no such column: the row lists need none
abbrev pub missing_cause : Frame → Agg → Option Fault
missing_cause frame agg = if is_groups (method_of agg.method) then None else missing_column frame (name_of agg.column)

-- the frame has the column of an aggregate that needs one
abbrev pub HasColumn : Frame → Agg → Type 0
HasColumn frame agg = is_groups (method_of agg.method) ≡ false → is_none (find_column frame (name_of agg.column)) ≡ false

-- why an aggregate is refused for the type of its column
abbrev pub unfit_cause : Frame → Agg → Option Fault
unfit_cause frame agg = unfit_or (name_of agg.column) (unfit_at (method_of agg.method) (find_column frame (name_of agg.column))) None

-- a key has all these rows
abbrev pub HasRows : List ℕ → ColumnValue → Type 0
HasRows rows key = All (λ row. row < length key.slots) rows

-- a key that is lent, at these rows
abbrev pub taken_at : List ℕ → Bor Series → Content
taken_at rows key = content (taken rows (value_of key.now))

-- where the frame has columns they have so many rows
abbrev pub HasHeight : Frame → ℕ → Type 0
HasHeight [] height = Unit {0}
HasHeight (c ∷ cs) height = length c.slots ≡ height

-- numbers are those of the rows of a frame
abbrev pub NumberRowsIn : Frame → Over → Type 0
NumberRowsIn frame (over.Groups groups) = Unit {0}
NumberRowsIn frame (over.Numbers numbers) = HasHeight frame (length numbers.now.of_rows.items)

-- as many rows as a frame has, or where it has no column as many as there may be
abbrev pub height_in : Frame → ℕ
height_in [] = 4294967295
height_in (c ∷ cs) = length c.slots

-- the groups are of the rows of a frame
pub record AreGroupsIn (frame : Frame) (g : Grouping) : Type 0 where
  pub whole : IsFrame frame
  pub short : HasRowNumbers (height_in frame)
  pub rows : All (AreMembers (height_in frame)) (lists_in g)
  pub few : HasRowNumbers (length g.pairs)

-- and the keys have their first rows
pub record IsGrouping (frame keys : Frame) (g : Grouping) : Type 0 where
  pub within : AreGroupsIn frame g
  pub some : 0 < length keys
  pub firsts : All (HasRows (firsts_in g)) keys

-- where classes are told by numbers, each aggregate can be made of these, which are those of the rows of a frame
abbrev pub AreMadeOver : Frame → List Agg → Classes → Type 0
AreMadeOver frame aggs (classes.Groups groups) = Unit {0}
AreMadeOver frame aggs (classes.Numbers numbers) = All (λ agg. goes_by_numbers agg.method ≡ true) aggs × HasHeight frame (length numbers.of_rows.items)

-- so many of the aggregates were made, and none of them was refused
pub record AreMadeTo (frame : Frame) (over : Over) (aggs : List Agg) (count : ℕ) (columns : List Series) : Type 0 where
  pub parts : contents_of columns ≡ aggregates_over frame (aggs_of (take count aggs)) (lists_in (grouping_over over))
  pub fit : unfit_fault frame (aggs_of (take count aggs)) ≡ None

-- the aggregate at a place was made, or refused for its cause
pub record MakesAt (frame : Frame) (over : Over) (aggs : List Agg) (place : ℕ) (made : Result Series PolarsError) : Type 0 where
  pub ok : (d : Agg) → let agg = get_or aggs place d in
      IfOk made (λ s. content (value_of s) ≡ aggregated (agg_of agg) (find_column frame (name_of agg.column)) (lists_in (grouping_over over)))
  pub fits : (d : Agg) → OnOk made (unfit_cause frame (get_or aggs place d) ≡ None)
  pub err : (d : Agg) → IfErr made (λ e. Explains e (unfit_cause frame (get_or aggs place d)))
