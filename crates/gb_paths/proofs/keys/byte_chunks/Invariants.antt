use Rattle.std.proofs.Common.{◌≡◌, map}
use Rattle.gb_defs.specs.Slot.{Bytes}
use Rattle.gb_cols.proofs.ChunkedLemmas.{front_slots}
use Rattle.gb_paths.proofs.keys.byte_chunks.Given as goal

abbrev pub invariant-loop-chunk : goal.invariant-loop-chunk
invariant-loop-chunk g l = map (λ bytes. Bytes bytes) l.chunks ≡ front_slots l.earlier l.chunk-index
