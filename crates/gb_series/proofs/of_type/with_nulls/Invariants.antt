use Rattle.std.proofs.Common.{◌≡◌, replicate}
use Rattle.gb_defs.specs.Column.{fresh_column}
use Rattle.gb_defs.specs.Slot.{Nil}
use Rattle.gb_series.specs.Series.{value_of}
use Rattle.gb_series.proofs.of_type.with_nulls.Given as goal

abbrev pub invariant-loop : goal.invariant-loop
invariant-loop l =
    let c = value_of l.fn.column in
    value_of l.made ≡ fresh_column c.name c.dtype (replicate l.counter Nil)
