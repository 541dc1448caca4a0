use Rattle.std.proofs.Common.{◌≡◌, ◌≤◌, All, length, map, take}
use Rattle.gb_base.specs.PlSmallStr.{name_of}
use Rattle.gb_defs.specs.ColumnType.{uint32}
use Rattle.gb_defs.specs.Groups.{rows_of_pair}
use Rattle.gb_agg.specs.Distinct.{different_fold}
use Rattle.gb_agg.specs.Folds.{fold_column}
use Rattle.gb_agg.proofs.distinct.count_groups.Given as goal

abbrev pub invariant-loop-place : goal.invariant-loop-place
invariant-loop-place l = record {
  counted : l.counts ≡ fold_column (name_of l.fn.name) uint32 (different_fold l.numbers) (map rows_of_pair (take l.place l.groups.pairs));
  as_many : length l.seen.items ≡ l.count;
  low : All (λ last. last ≤ l.place) l.seen.items;
}
