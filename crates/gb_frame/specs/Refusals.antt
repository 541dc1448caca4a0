-- Why rows are not grouped, or aggregates have no answer, and which columns are aggregated.
use Rattle.std.specs.Prelude.{ℕ, List, [], ◌∷◌, map, not, Option, None, Some}
use Rattle.std.specs.List.{filter, list_any}
use Rattle.std.specs.Option.{option_or}
use Rattle.std.specs.Result.{result_err}
use Rattle.std.specs.Str.{bytes_eq}
use Rattle.gb_defs.specs.Answer.{answer_names, height_of}
use Rattle.gb_defs.specs.Column.{Frame, first_repeated, frame_height, names_of}
use Rattle.gb_defs.specs.Fault.{ComputeError, Fault, duplicate_of, keyless_fault, missing_fault, rows_fault, shape_fault, unfit_fault}
use Rattle.gb_defs.specs.Fold.{Method}
use Rattle.gb_defs.specs.Outcome.{find_columns, grouped}

abbrev pub nameless_fault : List (List ℕ) → Option Fault
nameless_fault [] = Some ComputeError
nameless_fault (name ∷ names) = None

-- why the rows of a frame are not grouped by the columns of these names: there is none, one is missing, one
-- stands twice, or there are too many rows
abbrev pub names_fault : Frame → List (List ℕ) → Option Fault
names_fault frame by =
    option_or (nameless_fault by) (option_or (result_err (find_columns frame by)) (option_or (duplicate_of (first_repeated by)) (rows_fault (frame_height frame))))

-- why a frame is not grouped by the columns of these names
abbrev pub grouping_fault : Frame → List (List ℕ) → List (List ℕ × Method) → Option Fault
grouping_fault frame by aggs = result_err (grouped frame by aggs)

-- why rows are not grouped by keys: there is none, one has neither as many rows as are grouped nor one, or there
-- are too many rows
abbrev pub keys_fault : Frame → Frame → Option Fault
keys_fault frame keys = option_or (keyless_fault keys) (option_or (shape_fault (height_of frame keys) keys) (rows_fault (height_of frame keys)))

-- why aggregates over groups have no answer: a column is missing, a type is unfit, or a name stands twice
abbrev pub aggs_fault : Frame → Frame → List (List ℕ × Method) → Option Fault
aggs_fault frame keys aggs = option_or (missing_fault frame aggs) (option_or (unfit_fault frame aggs) (duplicate_of (first_repeated (answer_names keys aggs))))

-- ---- selections

-- the columns that are selected, or all whose name is no key's
abbrev pub chosen : Frame → Frame → Option (List (List ℕ)) → List (List ℕ)
chosen frame keys None = filter (λ name. not (list_any (bytes_eq name) (names_of keys))) (names_of frame)
chosen frame keys (Some names) = names

-- one method of each of them
abbrev pub each_by : Method → List (List ℕ) → List (List ℕ × Method)
each_by method names = map (λ name. (name, method)) names
