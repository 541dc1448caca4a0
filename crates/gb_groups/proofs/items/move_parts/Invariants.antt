use Rattle.std.proofs.Common.{◌≡◌, take, drop}
use Rattle.gb_flat.specs.Buffers.{item_count, joined}
use Rattle.gb_groups.specs.Parts.{Hold}
use Rattle.gb_groups.proofs.items.move_parts.Given as goal

abbrev pub invariant-loop-part : goal.invariant-loop-part
invariant-loop-part l = record {
  place : l.at ≡ item_count (take l.part-index l.fn.parts);
  left : drop l.part-index l.parts ≡ drop l.part-index l.fn.parts;
  moved : Hold (joined (take l.part-index l.fn.parts)) (take l.at l.first) (take l.at l.all);
}
