use Rattle.std.proofs.Common.{rules, ◌≡◌, ◌∙◌, [], ◌∷◌, None, ap, arith, length, map, sym}
use Rattle.gb_base.specs.PlSmallStr.{name_of}
use Rattle.gb_cols.proofs.NullLemmas.{null_length}
use Rattle.gb_defs.specs.Column.{all_have_length, first_repeated, names_of}
use Rattle.gb_series.specs.Series.{value_of}
use Rattle.gb_series.proofs.StructLemmas.{fields_make}
use Rattle.gb_series.proofs.nested.structs.StructChunked.from_fields.Goals as goal

pub invariant_of-result : goal.invariant_of-result
invariant_of-result c =
    let present = c.args.present.items in
    let fields = map value_of c.args.fields.items in
    let rows = c.new-rows.result in
    let count = c.len-2.result in
    let flags : length present ≡ length rows.slots =
    omega (arith, c.len-2.ensures, c.args.present.ok.0, ap (λ v. length v.slots) c.new-rows.ensures, null_length (name_of c.args.name) (count ∷ [])) in
    let as_long = c.len.ensures ∙ c.args.present.ok.0 in
    let long = ap (λ n. all_have_length n fields) (sym as_long) ∙ ap (λ cs. all_have_length c.len.result (map value_of cs)) (sym c.deref.ensures.value)
    ∙ sym c.all_have_length.ensures ∙ c.if-not-all_have_length.false in
    let distinct : first_repeated (names_of fields) ≡ None = search rules in
    fields_make rows present fields flags long distinct
