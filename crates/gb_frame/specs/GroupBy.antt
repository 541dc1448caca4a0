-- What contracts see of a frame whose rows are in groups.
use Rattle.std.specs.Prelude.{◌≡◌, ℕ, true, false, List, map, Option, None, Result, Ok, IfErr, IfOk, OnOk, option_map}
use Rattle.std.specs.declared.vec.Vec.{Vec}
use Rattle.std.specs.declared.alloc.Global.{Global}
use Rattle.gb_defs.specs.Classes.{agree_by, groups, rows_below}
use Rattle.gb_defs.specs.Column.{Frame, content, frame_height}
use Rattle.gb_defs.specs.Fold.{Method}
use Rattle.gb_defs.specs.Groups.{Grouping, IsWellFormed, lists_in}
use Rattle.gb_defs.specs.Outcome.{find_columns}
use Rattle.gb_defs.specs.Path.{Path}
use Rattle.gb_base.specs.PolarsError.{Explains}
use Rattle.gb_base.specs.declared.error.PolarsError.{PolarsError}
use Rattle.gb_base.specs.declared.pool.Pool.{Pool}
use Rattle.gb_base.specs.declared.small_str.PlSmallStr.{PlSmallStr}
use Rattle.gb_paths.specs.Tuples.{AreClasses, AreFound, slots_of}
use Rattle.gb_frame.specs.Agg as asked
use Rattle.gb_frame.specs.Grouping.{answer_parts, firsts_in}
use Rattle.gb_frame.specs.Key.{columns_of, stretched_keys}
use Rattle.gb_frame.specs.Refusals.{aggs_fault, chosen, each_by, keys_fault, names_fault}
use Rattle.gb_frame.specs.declared.group_by.GroupBy.{GroupBy}
use Rattle.gb_frame.specs.declared.options.GroupOptions.{GroupOptions}

-- ---- a frame with its groups

abbrev pub frame_of : GroupBy → Frame
frame_of grouped = grouped.frame.now

abbrev pub keys_of : GroupBy → Frame
keys_of grouped = columns_of grouped.keys.items

abbrev pub grouping_of : GroupBy → Grouping
grouping_of grouped = grouped.groups

-- the names of columns that are selected
abbrev pub named : Option (Vec PlSmallStr Global) → Option (List (List ℕ))
named selected = option_map (λ names. asked.names_of names.items) selected

abbrev pub selected_of : GroupBy → Option (List (List ℕ))
selected_of grouped = named grouped.selected

-- ---- answers

-- in the order in which groups are found, and in that of first rows
abbrev pub as_found : GroupOptions
as_found = record { multithreaded = true; sorted = false }

abbrev pub in_order : GroupOptions
in_order = record { multithreaded = true; sorted = true }

-- the groups of the rows by keys that all have as many, and how they are found
pub record AreGroupsBy (keys : Frame) (options : GroupOptions) (pool : Pool) (g : Grouping) : Type 0 where
  pub path : Path
  pub found : AreFound keys options.multithreaded options.sorted pool g path
  pub whole : AreClasses (agree_by (slots_of keys)) (frame_height keys) g.pairs
  pub formed : IsWellFormed (frame_height keys) g.pairs
  pub by_first : options.sorted ≡ true → g.pairs ≡ groups (agree_by (slots_of keys)) (rows_below (frame_height keys))

-- the keys, each of the height of what is grouped, are those of a grouping of the frame by them, and no column is selected
pub record IsGroupedBy (frame keys : Frame) (options : GroupOptions) (pool : Pool) (grouped : GroupBy) : Type 0 where
  pub frame_is : frame_of grouped ≡ frame
  pub keys_are : keys_of grouped ≡ stretched_keys frame keys
  pub found : AreGroupsBy (keys_of grouped) options pool (grouping_of grouped)
  pub unselected : selected_of grouped ≡ None

-- a grouping of a frame by keys, or why there is none
pub record GroupsByKeys (frame keys : Frame) (options : GroupOptions) (pool : Pool) (made : Result GroupBy PolarsError) : Type 0 where
  pub ok : IfOk made (IsGroupedBy frame keys options pool)
  pub fits : OnOk made (keys_fault frame keys ≡ None)
  pub err : IfErr made (λ e. Explains e (keys_fault frame keys))

-- the same by the columns of these names
pub record IsGroupedByNames (frame : Frame) (by : List (List ℕ)) (options : GroupOptions) (pool : Pool) (grouped : GroupBy) : Type 0 where
  pub keys : Frame
  pub named : find_columns frame by ≡ Ok keys
  pub grouped_by : IsGroupedBy frame keys options pool grouped

pub record GroupsByNames (frame : Frame) (by : List (List ℕ)) (options : GroupOptions) (pool : Pool) (made : Result GroupBy PolarsError) : Type 0 where
  pub ok : IfOk made (IsGroupedByNames frame by options pool)
  pub fits : OnOk made (names_fault frame by ≡ None)
  pub err : IfErr made (λ e. Explains e (names_fault frame by))

-- a frame of the keys at the first rows of the groups and of aggregates over their rows, or why there is none
pub record Answers (grouped : GroupBy) (aggs : List (List ℕ × Method)) (made : Result Frame PolarsError) : Type 0 where
  pub ok : IfOk made (λ frame. map content frame ≡ answer_parts (frame_of grouped) (keys_of grouped) aggs (firsts_in (grouping_of grouped)) (lists_in (grouping_of grouped)))
  pub fits : OnOk made (aggs_fault (frame_of grouped) (keys_of grouped) aggs ≡ None)
  pub err : IfErr made (λ e. Explains e (aggs_fault (frame_of grouped) (keys_of grouped) aggs))

-- one method of each column that is chosen
abbrev pub each_of : GroupBy → Method → List (List ℕ × Method)
each_of grouped method = each_by method (chosen (frame_of grouped) (keys_of grouped) (selected_of grouped))
