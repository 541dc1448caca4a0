use Rattle.std.proofs.Common.{map, take}
use Rattle.gb_base.specs.DataType.{fields_of, part_of}
use Rattle.gb_rows.specs.Context.{AreContextsOf}
use Rattle.gb_rows.proofs.context.+context.Given as goal

-- the contexts of the fields so far
abbrev pub invariant-struct_context-loop-field : goal.invariant-struct_context-loop-field
invariant-struct_context-loop-field l = AreContextsOf (fields_of (map part_of (take l.field-index l.fields))) l.contexts.items
