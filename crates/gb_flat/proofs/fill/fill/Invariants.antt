use Rattle.std.proofs.Common.{◌≡◌, take, length}
use Rattle.std.specs.List.{flat_map, sum_by}
use Rattle.gb_flat.proofs.fill.fill.Given as goal

abbrev pub invariant-loop-buf : goal.invariant-loop-buf
invariant-loop-buf g l = record {
  place : l.at ≡ sum_by (λ buf. length buf.items) (take l.buf-index l.bufs);
  filled : take l.at l.room ≡ flat_map (λ buf. buf.items) (take l.buf-index l.bufs);
}
