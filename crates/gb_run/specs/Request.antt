-- What contracts see of a request.
use Rattle.std.specs.Prelude.{ℕ, ◌<◌, List, ◌++◌, length, map}
use Rattle.gb_defs.specs.Fold as fold
use Rattle.gb_defs.specs.Request as asked
use Rattle.gb_base.specs.PlSmallStr.{name_of}
use Rattle.gb_base.specs.declared.small_str.PlSmallStr.{PlSmallStr}
use Rattle.gb_frame.specs.Agg.{aggs_of, names_of}
use Rattle.gb_frame.specs.declared.agg.Agg.{Agg}
use Rattle.gb_run.specs.declared.words.ToolOptions.{ToolOptions}
use Rattle.gb_run.specs.declared.words.Request.{Request}
use Rattle.gb_run.specs.declared.words.Request.TheVariants.{Group}

abbrev pub options_of : ToolOptions → asked.ToolOptions
options_of o = record { workers = o.workers; partitions = o.partitions; piece = o.piece; threshold = o.threshold; seed = o.seed; null_word = name_of o.null_word; explain = o.explain }

abbrev pub request_of : Request → asked.Request
request_of (Group by aggs options) = asked.Group (map name_of by.items) (aggs_of aggs.items) (options_of options)

-- a grouping by some keys
abbrev pub group_by : List PlSmallStr → List Agg → ToolOptions → asked.Request
group_by by aggs options = asked.Group (names_of by) (aggs_of aggs) (options_of options)

-- some key is asked for
abbrev pub HasKeys : asked.Request → Type 0
HasKeys (asked.Group by aggs options) = 0 < length by

-- the names of the keys and of the columns that are aggregated
abbrev pub asked_names : List (List ℕ) → List (List ℕ × fold.Method) → List (List ℕ)
asked_names by aggs = by ++ map (λ agg. agg.0) aggs
