use Rattle.std.proofs.Common.{◌+◌, ◌-◌, ◌≤◌, take}
use Rattle.gb_paths.specs.PlainWords.{HasPlainMore}
use Rattle.gb_paths.proofs.plain_words.push_plain.Given as goal

abbrev pub invariant-loop-i : goal.invariant-loop-i
invariant-loop-i g l = record {
  words : HasPlainMore g.T.Native.Native.flat (take l.i l.chunk) l.fn.words.items l.words.items;
  room : l.words.len + (l.count - l.i) ≤ l.words.cap;
}
