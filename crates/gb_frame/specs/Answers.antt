-- The answer over the groups that were found.
use Rattle.std.specs.Prelude.{◌≡◌, ℕ, true, List, length}
use Rattle.gb_defs.specs.Answer.{agree_of, answer, height_of, kept_rows}
use Rattle.gb_defs.specs.Classes as classes
use Rattle.gb_defs.specs.Column.{Content, Frame, IsFrame, frame_height}
use Rattle.gb_defs.specs.Fold.{Method}
use Rattle.gb_defs.specs.Groups.{Grouping, lists_in}
use Rattle.gb_defs.specs.Notes.{Trace, trace_of}
use Rattle.gb_defs.specs.Path.{Path}
use Rattle.gb_base.specs.declared.pool.Pool.{Pool}
use Rattle.gb_paths.specs.Tuples.{AreClasses, AreFound, slots_of}
use Rattle.gb_frame.specs.Grouping.{answer_parts, firsts_in}
use Rattle.gb_frame.specs.Key.{stretched_keys}
use Rattle.gb_frame.specs.declared.options.GroupOptions.{GroupOptions}

-- keys of one length: the groups by them, the columns over these, and what is told
pub record IsAnswerOver (frame keys : Frame) (aggs : List (List ℕ × Method)) (options : GroupOptions) (pool : Pool) (made : List Content) (trace : Trace) : Type 0 where
  pub groups : Grouping
  pub path : Path
  pub found : AreFound keys options.multithreaded options.sorted pool groups path
  pub whole : AreClasses (classes.agree_by (slots_of keys)) (frame_height keys) groups.pairs
  pub by_first : options.sorted ≡ true → groups.pairs ≡ classes.groups (classes.agree_by (slots_of keys)) (classes.rows_below (frame_height keys))
  pub is : made ≡ answer_parts frame keys aggs (firsts_in groups) (lists_in groups)
  pub traced : trace ≡ trace_of path (frame_height keys) (length groups.pairs)

-- the answer by keys, its rows in the order in which their groups were found
pub record IsAnswer (frame keys : Frame) (aggs : List (List ℕ × Method)) (options : GroupOptions) (pool : Pool) (made : List Content) : Type 0 where
  pub groups : Grouping
  pub path : Path
  pub found : AreFound (stretched_keys frame keys) options.multithreaded options.sorted pool groups path
  pub whole : AreClasses (agree_of frame keys) (height_of frame keys) groups.pairs
  pub by_first : options.sorted ≡ true → firsts_in groups ≡ classes.firsts (agree_of frame keys) (kept_rows frame keys)
  pub is : made ≡ answer frame keys aggs (firsts_in groups)

-- and what is told of the groups of a frame
pub record IsTracedAnswer (frame keys : Frame) (aggs : List (List ℕ × Method)) (options : GroupOptions) (pool : Pool) (made : List Content) (trace : Trace) : Type 0 where
  pub frame_is : IsFrame frame
  pub answer : IsAnswer frame keys aggs options pool made
  pub traced : trace ≡ trace_of answer.path (height_of frame keys) (length answer.groups.pairs)
