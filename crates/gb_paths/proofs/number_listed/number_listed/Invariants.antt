use Rattle.std.proofs.Common.{◌≡◌, ◌≤◌, length, vec_capacity}
use Rattle.gb_paths.proofs.ListedLemmas.{AreListed}
use Rattle.gb_paths.proofs.number_listed.number_listed.Given as goal

abbrev pub invariant-loop-place : goal.invariant-loop-place
invariant-loop-place l = record {
  listed : AreListed l.words l.place l.numbers.items l.first.items l.of_rows.items;
  long : length l.numbers.items ≡ l.bound;
  each : length l.of_rows.items ≡ l.place;
  room : length l.words ≤ vec_capacity l.of_rows;
}
