use Rattle.std.proofs.Common.{◌≡◌, ◌∙◌, ◌-◌, ◌+◌, map, ap, sym, arith}
use Rattle.std.specs.List.{range_with_len}
use Rattle.gb_defs.specs.Flat.{range_at}
use Rattle.std.proofs.lemmas.Grind.{common_steps}
use Rattle.gb_flat.proofs.OffsetLemmas.{ranges_more, range_before_last, range_last}
use Rattle.gb_flat.proofs.shares.split_offsets.Goals as goal

pub loop-k-preserved : goal.loop-k-preserved
loop-k-preserved c = record {
  ranges = ranges_more c.args.len c.args.n c.loop-k.k _ _ _ c.loop-k.invariant.ranges c.push_reserved.ensures.items (sym (range_before_last c.args.len c.args.n c.loop-k.k (omega arith)));
  so_far = grind (arith, common_steps);
  room = omega arith;
}

pub returns-clause-ok : goal.returns-clause-ok
returns-clause-ok c =
    let last : c.loop-k.k ≡ c.args.n - 1 = omega arith in
    let count : c.loop-k.k + 1 ≡ c.args.n = omega arith in
    let more = ranges_more c.args.len c.args.n c.loop-k.k _ _ _ c.loop-k.invariant.ranges c.push_reserved-2.ensures.items (rw (← last) (sym (range_last c.args.len c.args.n c.loop-k.k count))) in
    more ∙ ap (λ n. map (range_at c.args.len c.args.n) (range_with_len 0 n)) count
