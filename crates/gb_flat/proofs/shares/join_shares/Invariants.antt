use Rattle.std.proofs.Common.{◌≡◌, ◌++◌}
use Rattle.gb_flat.specs.Buffers.{joined}
use Rattle.gb_flat.proofs.shares.join_shares.Given as goal

abbrev pub invariant-loop-share : goal.invariant-loop-share
invariant-loop-share g l = joined l.initial.share-iterator.rest.items ≡ l.all.items ++ joined l.share-iterator.rest.items
