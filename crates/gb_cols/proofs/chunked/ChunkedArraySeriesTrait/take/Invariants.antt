use Rattle.std.proofs.Common.{◌≡◌, map, take}
use Rattle.gb_defs.specs.Slot.{slot_at}
use Rattle.gb_cols.proofs.chunked.ChunkedArraySeriesTrait.take.Given as goal

abbrev pub invariant-loop-row : goal.invariant-loop-row
invariant-loop-row g l = record { taken : l.taken ≡ map (slot_at l.self.slots) (take l.row-index l.rows); near : l.near ≡ l.self.slots }
