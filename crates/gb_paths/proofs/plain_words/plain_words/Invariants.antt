use Rattle.std.proofs.Common.{[]}
use Rattle.gb_cols.proofs.ChunkedLemmas.{front_slots}
use Rattle.gb_paths.specs.PlainWords.{HasPlainMore}
use Rattle.gb_paths.proofs.plain_words.plain_words.Given as goal

abbrev pub invariant-loop-chunk : goal.invariant-loop-chunk
invariant-loop-chunk g l = HasPlainMore g.T.Native.Native.flat (front_slots l.earlier l.chunk-index) [] l.words.items
