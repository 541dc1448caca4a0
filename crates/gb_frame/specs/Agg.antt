-- What contracts see of aggregates that are asked for, and of names.
use Rattle.std.specs.Prelude.{ℕ, List, map}
use Rattle.gb_defs.specs.Fold.{Method}
use Rattle.gb_base.specs.PlSmallStr.{name_of}
use Rattle.gb_base.specs.declared.small_str.PlSmallStr.{PlSmallStr}
use Rattle.gb_agg.specs.Method.{method_of}
use Rattle.gb_frame.specs.declared.agg.Agg.{Agg}

abbrev pub agg_of : Agg → List ℕ × Method
agg_of agg = (name_of agg.column, method_of agg.method)

abbrev pub aggs_of : List Agg → List (List ℕ × Method)
aggs_of aggs = map agg_of aggs

abbrev pub names_of : List PlSmallStr → List (List ℕ)
names_of names = map name_of names
