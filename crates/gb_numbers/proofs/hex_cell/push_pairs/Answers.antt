use Rattle.std.proofs.Common.{◌∷◌, [], ◌≤◌, ◌+◌, ◌*◌, length, ◌∙◌, arith}
use Rattle.std.proofs.lemmas.List.{take-append-le}
use Rattle.gb_numbers.proofs.HexLemmas.{pair_more}
use Rattle.gb_numbers.proofs.hex_cell.push_pairs.Goals as goal

pub loop-high-preserved : goal.loop-high-preserved
loop-high-preserved c =
    let high = c.in-Some.ensures.cases in
    let low = c.in-Some-split_first.ensures.cases in
    let pushed = c.push_reserved.ensures in
    let inv = c.loop-high.invariant in
    let long : c.args.bytes.now.len ≤ length c.loop-high.bytes.items = omega (arith, c.loop-high.bytes.ok.0) in
    record {
      took = rw pushed.items (pair_more c.loop-high.bytes.items _ _ _ _ _ _ _ high.0 low.0 c.in-Some-Some.ensures.value c.in-Some-Some.ensures'.value ∙ inv.took);
      kept = rw pushed.items (take-append-le c.args.bytes.now.len c.loop-high.bytes.items ((c.in-Some-Some.high * 16 + c.in-Some-Some.low) ∷ []) long ∙ inv.kept);
      long = omega arith;
      room = omega (arith, pushed.len, pushed.capacity, inv.room, high.1, low.1);
    }
