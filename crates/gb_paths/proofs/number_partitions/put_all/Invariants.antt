use Rattle.std.proofs.Common.{◌≡◌, take}
use Rattle.gb_paths.specs.Leaders.{put_parts}
use Rattle.gb_paths.proofs.number_partitions.put_all.Given as goal

abbrev pub invariant-loop-part : goal.invariant-loop-part
invariant-loop-part l = l.all ≡ put_parts l.fn.all (take l.part-index l.parts)
