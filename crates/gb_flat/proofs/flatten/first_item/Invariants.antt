use Rattle.std.proofs.Common.{◌≡◌, take, []}
use Rattle.std.specs.List.{flat_map}
use Rattle.gb_flat.proofs.flatten.first_item.Given as goal

abbrev pub invariant-loop-buf : goal.invariant-loop-buf
invariant-loop-buf g l = flat_map (λ buf. buf.items) (take l.buf-index l.bufs) ≡ []
