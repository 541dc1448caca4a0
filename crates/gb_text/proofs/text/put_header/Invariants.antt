use Rattle.std.proofs.Common.{ℕ, List, [], map, take}
use Rattle.gb_defs.specs.Text.{header_field}
use Rattle.gb_text.specs.Text.{HasBegun, contents_of}
use Rattle.gb_text.proofs.text.put_header.Given as goal

abbrev pub invariant-loop-column : goal.invariant-loop-column
invariant-loop-column l = (before : List ℕ) → HasBegun l.fn.writer before [] → HasBegun l.writer before (map header_field (contents_of (take l.column-index l.columns)))
