use Rattle.std.proofs.Common.{rules, refl, ◌∙◌, ◌<◌, ◌≤◌, ◌+◌, ◌++◌, ◌∷◌, [], ℕ, ap, arith, false, length, map, subst, sym, IsTrue}
use Rattle.std.specs.List.{All}
use Rattle.gb_cols.specs.Column.{pushed}
use Rattle.gb_defs.specs.Slot.{Nil}
use Rattle.gb_series.specs.Series.{value_of}
use Rattle.gb_series.specs.Structs.{KeepAll}
use Rattle.gb_series.proofs.FieldLemmas.{all_at, keep_same, keep_turn, kept_long, kept_struct, kept_view, long_end, long_turn, null_struct, null_view, depth_kept}
use Rattle.gb_series.proofs.StructLemmas.{is_alike, struct_alike, struct_length}
use Rattle.std.proofs.lemmas.List.{length-map, get_or-map}
use Rattle.gb_series.specs.Depth.{depth}
use Rattle.gb_defs.specs.Column.{ColumnValue}
use Rattle.gb_series.proofs.+push_null.Goals as goal

pub nested::fields::lengthen_fields-loop-place-init : goal.nested::fields::lengthen_fields-loop-place-init
nested::fields::lengthen_fields-loop-place-init t c =
    record { many = refl; kept = keep_same c.args.count (map value_of c.args.fields.now.items); long = tt }

pub nested::fields::lengthen_fields-lengthen-requires : goal.nested::fields::lengthen_fields-lengthen-requires
nested::fields::lengthen_fields-lengthen-requires t c =
    let items = c.loop-place.fields.items in
    let at = c.loop-place.place in
    let column = c.index_mut.result.now in
    let within : at < length items = omega (arith, c.loop-place-test.true, c.loop-place.invariant.many, c.len-place-end.ensures, c.args.fields.now.ok.0) in
    let all = kept_long c.args.count (map value_of c.args.fields.now.items) (map value_of items) c.loop-place.invariant.kept c.requires.long in
    let fs = map value_of c.args.fields.now.items in
    let deep = depth_kept c.args.count fs (map value_of items) at (value_of column) (omega (arith, within, length-map items value_of)) c.loop-place.invariant.kept in
    let own = get_or-map value_of items at column (value_of column) within ∙ ap value_of (sym c.index_mut.ensures.value) in
    (omega (arith, c.decreases, deep, ap (λ (v : ColumnValue). depth v.dtype) own), (all_at value_of (λ f. c.args.count ≤ length f.slots) items at column within c.index_mut.ensures.value all, c.requires.few))

pub nested::fields::lengthen_fields-returns-then-not-lengthen-clause-kept : goal.nested::fields::lengthen_fields-returns-then-not-lengthen-clause-kept
nested::fields::lengthen_fields-returns-then-not-lengthen-clause-kept t c =
    let items = c.loop-place.fields.items in
    let at = c.loop-place.place in
    let column = c.index_mut.result.now in
    let within : at < length items = omega (arith, c.loop-place-test.true, c.loop-place.invariant.many, c.len-place-end.ensures, c.args.fields.now.ok.0) in
    keep_turn value_of c.args.count (map value_of c.args.fields.now.items) items at column c.lengthen.new.field within c.index_mut.ensures.value c.loop-place.invariant.kept c.lengthen.ensures.kept

pub nested::fields::lengthen_fields-loop-place-preserved : goal.nested::fields::lengthen_fields-loop-place-preserved
nested::fields::lengthen_fields-loop-place-preserved t c =
    let items = c.loop-place.fields.items in
    let at = c.loop-place.place in
    let column = c.index_mut.result.now in
    let within : at < length items = omega (arith, c.loop-place-test.true, c.loop-place.invariant.many, c.len-place-end.ensures, c.args.fields.now.ok.0) in
    let yes : IsTrue c.lengthen.result = search rules in
    record {
      many = search rules;
      kept = keep_turn value_of c.args.count (map value_of c.args.fields.now.items) items at column c.lengthen.new.field within c.index_mut.ensures.value c.loop-place.invariant.kept c.lengthen.ensures.kept;
      long = long_turn value_of c.args.count (map value_of c.args.fields.now.items) items at column c.lengthen.new.field within c.index_mut.ensures.value c.loop-place.invariant.long (c.lengthen.ensures.long yes);
    }

pub nested::fields::lengthen_fields-returns-clause-long : goal.nested::fields::lengthen_fields-returns-clause-long
nested::fields::lengthen_fields-returns-clause-long t c =
    let items = c.loop-place.fields.items in
    let end = c.loop-place.place in
    λ yes. long_end c.args.count end (map value_of items) c.loop-place.invariant.long (omega (arith, c.loop-place-test.false, c.loop-place.invariant.many, c.len-place-end.ensures, c.args.fields.now.ok.0, length-map items value_of))

pub nested::structs::StructChunked::put_null-lengthen_fields-requires : goal.nested::structs::StructChunked::put_null-lengthen_fields-requires
nested::structs::StructChunked::put_null-lengthen_fields-requires t c =
    let own = c.self.inside in
    let frame = map value_of own.fields.items in
    let count = c.len-count.ensures ∙ own.present.ok.0 in
    let long = subst (λ (n : ℕ). All (λ f. n ≤ length f.slots) frame) (sym count) c.self.invariant.long in
    (omega (arith, c.decreases, ap (λ v. depth v.dtype) c.self.view_is), (long, omega (arith, count, c.self.invariant.flags, struct_length own.rows own.present.items frame c.self.invariant, ap (λ v. length v.slots) c.self.view_is, c.requires)))

pub nested::structs::StructChunked::put_null-invariant_of-self-then-not-lengthen_fields : goal.nested::structs::StructChunked::put_null-invariant_of-self-then-not-lengthen_fields
nested::structs::StructChunked::put_null-invariant_of-self-then-not-lengthen_fields t c =
    let own = c.self.inside in
    let frame = map value_of own.fields.items in
    let changed = map value_of c.lengthen_fields.new.fields.items in
    let count = c.len-count.ensures ∙ own.present.ok.0 in
    let keep = subst (λ (n : ℕ). KeepAll n frame changed) count c.lengthen_fields.ensures.kept in
    let flags = c.in_ok-reserve.ensures.items in
    is_alike own.rows own.rows _ own.present.items changed changed refl flags refl (kept_struct own.rows own.present.items frame c.self.invariant changed keep)

pub nested::structs::StructChunked::put_null-returns-then-not-lengthen_fields-clause-unchanged : goal.nested::structs::StructChunked::put_null-returns-then-not-lengthen_fields-clause-unchanged
nested::structs::StructChunked::put_null-returns-then-not-lengthen_fields-clause-unchanged t c =
    let own = c.self.inside in
    let frame = map value_of own.fields.items in
    let changed = map value_of c.lengthen_fields.new.fields.items in
    let count = c.len-count.ensures ∙ own.present.ok.0 in
    let keep = subst (λ (n : ℕ). KeepAll n frame changed) count c.lengthen_fields.ensures.kept in
    let flags = c.in_ok-reserve.ensures.items in
    struct_alike own.rows own.rows _ own.present.items changed changed refl flags refl ∙ kept_view own.rows own.present.items frame c.self.invariant changed keep ∙ c.self.view_is

pub nested::structs::StructChunked::put_null-invariant_of-self-in_default : goal.nested::structs::StructChunked::put_null-invariant_of-self-in_default
nested::structs::StructChunked::put_null-invariant_of-self-in_default t c =
    let own = c.self.inside in
    let frame = map value_of own.fields.items in
    let changed = map value_of c.lengthen_fields.new.fields.items in
    let count = c.len-count.ensures ∙ own.present.ok.0 in
    let keep = subst (λ (n : ℕ). KeepAll n frame changed) count c.lengthen_fields.ensures.kept in
    let flags = c.in_ok-reserve.ensures.items in
    is_alike _ own.rows _ own.present.items changed changed c.in_default.ensures.unchanged flags refl (kept_struct own.rows own.present.items frame c.self.invariant changed keep)

pub nested::structs::StructChunked::put_null-returns-in_default-clause-unchanged : goal.nested::structs::StructChunked::put_null-returns-in_default-clause-unchanged
nested::structs::StructChunked::put_null-returns-in_default-clause-unchanged t c =
    let own = c.self.inside in
    let frame = map value_of own.fields.items in
    let changed = map value_of c.lengthen_fields.new.fields.items in
    let count = c.len-count.ensures ∙ own.present.ok.0 in
    let keep = subst (λ (n : ℕ). KeepAll n frame changed) count c.lengthen_fields.ensures.kept in
    let flags = c.in_ok-reserve.ensures.items in
    struct_alike _ own.rows _ own.present.items changed changed c.in_default.ensures.unchanged flags refl ∙ kept_view own.rows own.present.items frame c.self.invariant changed keep ∙ c.self.view_is

pub nested::structs::StructChunked::put_null-invariant_of-self-2 : goal.nested::structs::StructChunked::put_null-invariant_of-self-2
nested::structs::StructChunked::put_null-invariant_of-self-2 t c =
    let own = c.self.inside in
    let frame = map value_of own.fields.items in
    let changed = map value_of c.lengthen_fields.new.fields.items in
    let count = c.len-count.ensures ∙ own.present.ok.0 in
    let keep = subst (λ (n : ℕ). KeepAll n frame changed) count c.lengthen_fields.ensures.kept in
    let flags = c.in_ok-reserve.ensures.items in
    let yes : IsTrue c.lengthen_fields.result = search rules in
    let long = subst (λ (n : ℕ). All (λ f. n + 1 ≤ length f.slots) changed) count (c.lengthen_fields.ensures.long yes) in
    let more = c.push_reserved.ensures.items ∙ ap (λ xs. xs ++ false ∷ []) flags in
    null_struct own.rows own.present.items frame c.self.invariant changed keep long _ _ c.in-Ok.ensures.ok more

pub nested::structs::StructChunked::put_null-returns-clause-ok : goal.nested::structs::StructChunked::put_null-returns-clause-ok
nested::structs::StructChunked::put_null-returns-clause-ok t c =
    let own = c.self.inside in
    let frame = map value_of own.fields.items in
    let changed = map value_of c.lengthen_fields.new.fields.items in
    let count = c.len-count.ensures ∙ own.present.ok.0 in
    let keep = subst (λ (n : ℕ). KeepAll n frame changed) count c.lengthen_fields.ensures.kept in
    let flags = c.in_ok-reserve.ensures.items in
    let yes : IsTrue c.lengthen_fields.result = search rules in
    let long = subst (λ (n : ℕ). All (λ f. n + 1 ≤ length f.slots) changed) count (c.lengthen_fields.ensures.long yes) in
    let more = c.push_reserved.ensures.items ∙ ap (λ xs. xs ++ false ∷ []) flags in
    null_view own.rows own.present.items frame c.self.invariant changed keep long _ _ c.in-Ok.ensures.ok more ∙ ap (λ v. pushed v Nil) c.self.view_is
