use Rattle.std.proofs.Common.{◌≡◌, IfSome, length, subst}
use Rattle.gb_defs.specs.Column.{ColumnValue}
use Rattle.gb_defs.specs.ColumnType.{ArrayOf}
use Rattle.gb_series.specs.Series.{value_of}
use Rattle.gb_series.proofs.ArrayLemmas.{found_array}
use Rattle.gb_series.proofs.nested.array.ArrayChunked.get_as_series.Goals as goal

pub returns-clause-typed : goal.returns-clause-typed
returns-clause-typed c =
    let own = c.self.inside in
    subst (λ (v : ColumnValue). IfSome c.in_ok-slots.slots (λ s. ArrayOf (value_of s).dtype (length (value_of s).slots) ≡ v.dtype)) c.self.view_is
    (found_array own.lists own.width c.args.row c.in_ok-slots.slots c.self.invariant c.in_ok-slots.ensures.slot c.in_ok-slots.ensures.typed)
