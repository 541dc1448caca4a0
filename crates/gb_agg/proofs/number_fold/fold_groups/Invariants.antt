use Rattle.std.proofs.Common.{◌≡◌, map, take}
use Rattle.gb_defs.specs.ColumnType.{Flat}
use Rattle.gb_defs.specs.Groups.{rows_of_pair}
use Rattle.gb_base.specs.PlSmallStr.{name_of}
use Rattle.gb_agg.specs.Folds.{fold_column}
use Rattle.gb_agg.proofs.number_fold.fold_groups.Given as goal

abbrev pub invariant-loop-place : goal.invariant-loop-place
invariant-loop-place g l =
    l.folded ≡ fold_column (name_of l.fn.name) (Flat g.F.Out.Native.Native.flat) (g.F.NumberFold.fold l.fold) (map rows_of_pair (take l.place l.groups.pairs))
