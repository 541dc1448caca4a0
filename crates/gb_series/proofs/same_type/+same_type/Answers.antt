use Rattle.std.proofs.Common.{◌∙◌, ◌<◌, arith, ap, length, map, sym}
use Rattle.std.proofs.lemmas.Slice.Eq.{bytes_eq-Decides}
use Rattle.gb_series.specs.Series.{value_of}
use Rattle.gb_series.proofs.RowLemmas.{get_or_any}
use Rattle.gb_series.proofs.FieldLemmas.{depth_read}
use Rattle.gb_series.proofs.TypeLemmas.{fields_next, structs_same}
use Rattle.gb_series.proofs.same_type.+same_type.Goals as goal

pub same_fields-same_type-requires : goal.same_fields-same_type-requires
same_fields-same_type-requires t c =
    (omega (arith, c.decreases, depth_read value_of c.args.a.now c.loop-place.place c.index-a-place.result c.loop-place-test.true c.index-a-place.is), tt {0})

pub same_fields-loop-place-preserved : goal.same_fields-loop-place-preserved
same_fields-loop-place-preserved t c =
    let xs = c.args.a.now in
    let ys = c.args.b.now in
    let at = c.loop-place.place in
    let x = c.index-a-place.result in
    let named = c.index-b-place.result in
    let y = c.index-b-place-in-loop-place.result in
    let there : at < length ys = omega (arith, c.loop-place-test.true, c.loop-place.invariant.many) in
    let one = c.index-b-place.is ∙ get_or_any ys at named y there ∙ sym c.index-b-place-in-loop-place.is in
    let name = (bytes_eq-Decides (value_of x).name (value_of named).name).0 (sym c.same_name.ensures ∙ c.if-not-same_name.false) ∙ ap (λ s. (value_of s).name) one in
    let dtype = c.same_type.ensures.0 c.if-not-same_type.false in
    let same = ap (λ n. (n, (value_of x).dtype)) name ∙ ap (λ t. ((value_of y).name, t)) dtype in
    let next = fields_next value_of xs ys at x y c.loop-place-test.true there c.index-a-place.is c.index-b-place-in-loop-place.is same in
    let rest = c.loop-place.invariant.rest in
    record {
      many = c.loop-place.invariant.many;
      rest = ((λ e. next.0 (rest.0 e)), (λ e. rest.1 (next.1 e)));
    }

pub same_structs-returns : goal.same_structs-returns
same_structs-returns t c =
    structs_same c.same_fields.result c.args.a.now.dtype c.args.b.now.dtype (map value_of c.fields.result.now) (map value_of c.fields-2.result.now)
    c.fields.ensures.typed c.fields-2.ensures.typed c.same_fields.ensures
