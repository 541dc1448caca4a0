use Rattle.std.proofs.Common.{◌≡◌, map, drop, take, Some}
use Rattle.gb_base.specs.PlSmallStr.{name_of}
use Rattle.gb_defs.specs.Column.{find_column}
use Rattle.gb_series.specs.Frame.{first_missing}
use Rattle.gb_series.specs.Series.{value_of}
use Rattle.gb_series.proofs.frame.copies_of.Given as goal

abbrev pub invariant-loop-name : goal.invariant-loop-name
invariant-loop-name l =
    let frame = map value_of l.columns in
    record {
      so_far : map Some (map value_of l.copies.items) ≡ map (find_column frame) (map name_of (take l.name-index l.names));
      rest : first_missing frame (map name_of l.names) ≡ first_missing frame (map name_of (drop l.name-index l.names));
    }
