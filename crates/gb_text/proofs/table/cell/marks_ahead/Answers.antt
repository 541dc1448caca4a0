use Rattle.std.proofs.Common.{◌≡◌, leb, length, take, arith, w8}
use Rattle.std.proofs.lemmas.List.{length-take-le}
use Rattle.std.proofs.lemmas.Simd.{bitmask_splat}
use Rattle.gb_text.proofs.table.cell.marks_ahead.Goals as goal

pub returns : goal.returns
returns c =
    let text = c.args.text.now in
    let long : length (take 64 text) ≡ 64 = length-take-le 64 text (omega arith) in
    record { count = 64; few = omega arith; within = omega arith; are = bitmask_splat w8 leb (take 64 text) 64 44 long (omega arith) }
