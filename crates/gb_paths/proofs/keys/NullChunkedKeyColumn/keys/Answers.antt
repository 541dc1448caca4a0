use Rattle.std.proofs.Common.{ap}
use Rattle.gb_defs.specs.Path.{kind_of}
use Rattle.gb_paths.proofs.keys.NullChunkedKeyColumn.keys.Goals as goal

pub returns-clause-ok : goal.returns-clause-ok
returns-clause-ok c = record { kind = ap kind_of c.allocator.ensures.typed; nulls = c.allocator.ensures.nulls }
