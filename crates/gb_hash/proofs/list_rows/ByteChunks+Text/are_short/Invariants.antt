use Rattle.std.proofs.Common.{All, take}
use Rattle.gb_hash.specs.Chunks.{texts_in}
use Rattle.gb_hash.specs.Short.{IsShort}
use Rattle.gb_hash.proofs.list_rows.ByteChunks+Text.are_short.Given as goal

abbrev pub invariant-loop-chunk : goal.invariant-loop-chunk
invariant-loop-chunk l = All IsShort (texts_in (take l.chunk-index l.chunk-items))
