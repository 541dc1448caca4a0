use Rattle.std.proofs.Common.{ℕ, List, Option, None, Some, Bor}
use Rattle.std.specs.Prelude.{IfSome}
use Rattle.gb_defs.specs.ColumnType.{FlatType, FitsBytes}
use Rattle.gb_cols.proofs.binary.ChunkedArray+ByteValues+K.push.Goals as goal

slot_fits : (t : FlatType) (slot : Option (Bor (List ℕ))) → ((bytes : List ℕ) → FitsBytes t bytes) → IfSome slot (λ bytes. FitsBytes t bytes.now)
slot_fits t None any = tt
slot_fits t (Some bytes) any = any bytes.now

pub push_bytes-requires-clause-fits : goal.push_bytes-requires-clause-fits
push_bytes-requires-clause-fits g c = slot_fits g.K.ByteKind.flat c.args.slot g.met.K.AnyBytes.any_fit
