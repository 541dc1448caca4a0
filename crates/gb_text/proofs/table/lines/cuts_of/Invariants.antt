use Rattle.std.proofs.Common.{◌≡◌, ◌≤◌, All, length, slice_index}
use Rattle.gb_text.proofs.table.lines.cuts_of.Given as goal

abbrev pub invariant-loop : goal.invariant-loop
invariant-loop l = record {
  place : l.place ≤ length l.text;
  some : 1 ≤ length l.cuts.items;
  front : slice_index l.cuts.items 0 ≡ 0;
  inside : All (λ cut. cut ≤ length l.text) l.cuts.items;
}
