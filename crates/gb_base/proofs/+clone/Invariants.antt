use Rattle.std.proofs.Common.{◌≡◌, map, take}
use Rattle.gb_base.specs.DataType.{part_of}
use Rattle.gb_base.proofs.+clone.Given as goal

abbrev pub invariant-field::clone_fields-loop-field : goal.invariant-field::clone_fields-loop-field
invariant-field::clone_fields-loop-field l = map part_of l.copies.items ≡ map part_of (take l.field-index l.field-items)
