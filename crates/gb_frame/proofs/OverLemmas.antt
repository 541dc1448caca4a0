-- What aggregates are made over.
use Rattle.std.proofs.Common.{◌≡◌, ℕ, All, Bool, true, List, [], ◌∷◌, Some, length, refl, sym, ◌∙◌, subst}
use Rattle.gb_agg.specs.Method.{goes_by_numbers, method_of}
use Rattle.gb_agg.specs.Over.{NumberRows}
use Rattle.gb_agg.specs.declared.method.GroupByMethod.{GroupByMethod}
use Rattle.gb_agg.specs.declared.method.GroupByMethod.TheVariants.{Min, Max, First, Last, Sum, Groups, NUnique, Count, Implode}
use Rattle.gb_agg.specs.declared.over.Over.{Over}
use Rattle.gb_agg.specs.declared.over.Over.TheVariants as over
use Rattle.gb_defs.specs.Column.{ColumnValue, Frame, IsFrame, find_column}
use Rattle.gb_defs.specs.Fault.{is_groups}
use Rattle.gb_paths.specs.Classes.{NumberAll}
use Rattle.gb_paths.specs.declared.classes.Classes.{Classes}
use Rattle.gb_paths.specs.declared.classes.Classes.TheVariants as classes
use Rattle.gb_frame.specs.declared.agg.Agg.{Agg}
use Rattle.gb_frame.specs.Grouping.{AreMadeOver, HasHeight, NumberRowsIn, height_in}
use Rattle.gb_frame.proofs.AggLemmas.{found_height}

-- the row lists are one method
pub groups_alone : (method : GroupByMethod) → is_groups (method_of method) ≡ true → method ≡ Groups
groups_alone Min e = cc
groups_alone Max e = cc
groups_alone First e = cc
groups_alone Last e = cc
groups_alone Sum e = cc
groups_alone Groups e = refl
groups_alone NUnique e = cc
groups_alone (Count all) e = cc
groups_alone Implode e = cc

high_in : (frame : Frame) (name : List ℕ) (column : ColumnValue) (rows : ℕ) → find_column frame name ≡ Some column → HasHeight frame rows → height_in frame ≡ rows
high_in [] name column rows found high = cc
high_in (c ∷ cs) name column rows found high = high

-- numbers of a frame's rows are those of a column's
pub numbers_fit : (frame : Frame) (name : List ℕ) (column : ColumnValue) → IsFrame frame → find_column frame name ≡ Some column → (o : Over) → NumberRowsIn frame o → NumberRows (length column.slots) o
numbers_fit frame name column whole found (over.Groups groups) rows = tt
numbers_fit frame name column whole found (over.Numbers numbers) rows =
    sym (found_height frame name column whole found ∙ high_in frame name column (length numbers.now.of_rows.items) found rows)

-- numbers that were asked for are those of a frame's rows
pub asked_over : (frame : Frame) (aggs : List Agg) (asked : Bool) (rows : ℕ) (made : Classes) → NumberAll asked rows made → (asked ≡ true → All (λ agg. goes_by_numbers agg.method ≡ true) aggs) → HasHeight frame rows →
    AreMadeOver frame aggs made
asked_over frame aggs asked rows (classes.Groups groups) all goes high = tt
asked_over frame aggs asked rows (classes.Numbers numbers) all goes high = (goes all.wanted, subst (HasHeight frame) (sym all.many) high)
