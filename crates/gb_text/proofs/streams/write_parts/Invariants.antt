use Rattle.std.proofs.Common.{◌≤◌, take}
use Rattle.gb_flat.specs.Buffers.{joined}
use Rattle.gb_text.specs.Moved.{Holds}
use Rattle.gb_text.proofs.streams.write_parts.Given as goal

abbrev pub invariant-loop-part : goal.invariant-loop-part
invariant-loop-part g l = record {
  held : Holds (joined (take l.part-index l.parts)) (g.W.Sink.held l.fn.sink) (g.W.Sink.held l.sink);
  kept : g.W.Sink.faults l.fn.sink ≤ g.W.Sink.faults l.sink;
}
