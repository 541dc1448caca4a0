use Rattle.std.proofs.Common.{All, length}
use Rattle.std.specs.List.{AllWithin}
use Rattle.gb_text.specs.Part.{HasFew}
use Rattle.gb_text.proofs.LinesLemmas.{IsJoining}
use Rattle.gb_text.proofs.table.grown.append_block.Given as goal

abbrev pub invariant-loop-column : goal.invariant-loop-column
invariant-loop-column l = record {
  joining : IsJoining l.fn.columns.items l.fn.others.items l.column-index l.column-items l.others.rest.items;
  few : AllWithin HasFew l.column-items l.column-index (length l.column-items);
  few_more : All HasFew l.others.rest.items;
}
