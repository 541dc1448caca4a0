-- What contracts see of what words gave so far.
use Rattle.std.specs.Prelude.{map, option_map}
use Rattle.gb_defs.specs.Request as asked
use Rattle.gb_base.specs.PlSmallStr.{name_of}
use Rattle.gb_frame.specs.Agg.{aggs_of}
use Rattle.gb_run.specs.declared.words.Given.{Given}
use Rattle.gb_run.specs.declared.words.Numbers.{Numbers}

abbrev pub numbers_of : Numbers → asked.Numbers
numbers_of n = record { workers = n.workers; partitions = n.partitions; piece = n.piece; threshold = n.threshold; seed = n.seed }

abbrev pub given_of : Given → asked.Given
given_of g = record { by = map name_of g.by.items; aggs = aggs_of g.aggs.items; numbers = numbers_of g.numbers; null_word = option_map name_of g.null_word; explain = g.explain }
