use Rattle.std.proofs.Common.{◌≤◌, ◌-◌, length}
use Rattle.gb_frame.specs.Grouping.{AreMadeTo}
use Rattle.gb_frame.proofs.columns.aggregates.Given as goal

abbrev pub invariant-loop-place : goal.invariant-loop-place
invariant-loop-place g l = record {
  within : l.place ≤ length l.aggs;
  so_far : AreMadeTo l.frame l.over l.aggs l.place l.columns.items;
}

abbrev pub decreases-loop-place : goal.decreases-loop-place
decreases-loop-place g l = length l.aggs - l.place
