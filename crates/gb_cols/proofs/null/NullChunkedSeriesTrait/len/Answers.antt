use Rattle.std.proofs.Common.{arith, ap, length, sym, ◌∙◌, ◌++◌, ◌∷◌, [], subst}
use Rattle.std.specs.List.{All, sum}
use Rattle.std.proofs.lemmas.List.Elements.{All-replicate}
use Rattle.gb_defs.specs.Column.{ColumnValue}
use Rattle.gb_defs.specs.ColumnType as column
use Rattle.gb_defs.specs.Slot.{Nil}
use Rattle.gb_base.specs.PlSmallStr.{name_of}
use Rattle.gb_cols.proofs.NullLemmas.{null_length, sum_last}
use Rattle.gb_cols.proofs.null.NullChunkedSeriesTrait.len.Goals as goal

pub total-requires : goal.total-requires
total-requires c =
    omega (arith, c.self.invariant, ap sum c.deref.ensures.value, sum_last c.self.inside.earlier.items c.self.inside.last)

pub overflow_add-result : goal.overflow_add-result
overflow_add-result c =
    omega (arith, c.self.invariant, c.total.ensures, ap sum c.deref.ensures.value, sum_last c.self.inside.earlier.items c.self.inside.last)

pub returns : goal.returns
returns c =
    let chunks = c.self.inside.earlier.items ++ c.self.inside.last ∷ [] in
    let many = null_length (name_of c.self.inside.name) chunks in
    let here = ap (λ v. length v.slots) c.self.view_is in
    let last = sum_last c.self.inside.earlier.items c.self.inside.last in
    let earlier = ap sum c.deref.ensures.value in record {
      value = omega (arith, many, here, last, earlier, c.total.ensures);
      small = omega (arith, c.self.invariant, last, earlier, c.total.ensures);
      chunks = ap (λ v. sum v.chunks) (sym c.self.view_is) ∙ sym many ∙ here;
      fitting = subst (λ (v : ColumnValue). All (column.Fits v.dtype) v.slots) c.self.view_is (All-replicate (column.Fits (column.Flat column.Null)) (sum chunks) Nil tt);
    }
