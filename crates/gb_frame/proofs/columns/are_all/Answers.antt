use Rattle.std.proofs.Common.{◌∙◌, arith, length, refl}
use Rattle.std.specs.List.{range_with_len}
use Rattle.std.proofs.lemmas.List.{map-id}
use Rattle.std.proofs.lemmas.List.FromFn.{fill_by_all}
use Rattle.gb_frame.proofs.columns.are_all.Goals as goal

pub returns : goal.returns
returns c =
    let rows = c.args.rows.now in
    fill_by_all (λ k. k) rows (length rows) 0 refl (λ k lt. c.loop-place.invariant k (omega (arith, lt))) ∙ map-id (range_with_len 0 (length rows))
