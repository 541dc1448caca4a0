use Rattle.std.proofs.Common.{◌≡◌, ◌≤◌, length, take, vec_capacity}
use Rattle.gb_paths.proofs.number_several.words_of.Given as goal

abbrev pub invariant-loop-place : goal.invariant-loop-place
invariant-loop-place l = record {
  so_far : l.words.items ≡ take l.place l.numbers;
  each : length l.words.items ≡ l.place;
  room : length l.numbers ≤ vec_capacity l.words;
}
