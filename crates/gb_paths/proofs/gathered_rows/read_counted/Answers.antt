use Rattle.std.proofs.Common.{arith}
use Rattle.gb_paths.proofs.GatherLemmas.{read_more}
use Rattle.gb_paths.proofs.gathered_rows.read_counted.Goals as goal

pub loop-place-preserved : goal.loop-place-preserved
loop-place-preserved g c = record {
  so_far = read_more g.R.KeyRows.key_slot (g.R.KeyRows.rows c.args.rows.now).slot c.args.members.now c.loop-place.place _ _ _ (omega arith) c.push_reserved.ensures.items c.loop-place.invariant.so_far c.key_at.ensures.value;
  each = omega arith;
  room = omega arith;
}
