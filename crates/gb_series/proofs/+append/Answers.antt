use Rattle.std.proofs.Common.{◌≡◌, ◌∙◌, ◌∷◌, [], false, true, ◌+◌, ◌<◌, ◌^◌, ◌++◌, List, ℕ, ap, arith, map, length, subst, sym, rules, refl, ◌≤◌}
use Rattle.std.specs.List.{All}
use Rattle.gb_cols.specs.Column.{appended}
use Rattle.gb_series.specs.Series.{value_of}
use Rattle.gb_series.specs.Rows.{end_of, list_column}
use Rattle.gb_series.proofs.ListLemmas.{list_length, appended_listed, appended_view, item_type, kept_listed, kept_view, list_alike, listed_alike}
use Rattle.gb_series.proofs.PieceLemmas.{ends_few}
use Rattle.gb_series.proofs.ResultLemmas.{on_err}
use Rattle.gb_series.specs.Structs.{AreJoined, KeepAll, KeepsRows, struct_column}
use Rattle.gb_series.specs.declared.series.Series.{Series}
use Rattle.gb_series.proofs.FieldLemmas.{JoinsAt, joined_end, joined_kept, joined_struct, joined_view, others_left, kept_struct, kept_view as kept_struct_view, turn_joined, turn_kept, turn_long, turn_other, turn_typed, depth_at, field_kept, joined_field, turn_inside, turn_own}
use Rattle.gb_series.proofs.StructLemmas.{is_alike, struct_alike, struct_fields, struct_length}
use Rattle.std.proofs.lemmas.List.{length-map}
use Rattle.gb_series.specs.Depth.{depth}
use Rattle.gb_defs.specs.Column.{ColumnValue}
use Rattle.gb_series.proofs.+append.Goals as goal

pub nested::list::ListChunkedSeriesTrait::append-put_behind-requires : goal.nested::list::ListChunkedSeriesTrait::append-put_behind-requires
nested::list::ListChunkedSeriesTrait::append-put_behind-requires t c =
    let own = c.self.inside in
    let more = c.other.inside in
    let items = value_of own.items in
    let last = c.end_of-before.ensures ∙ ap end_of c.deref.ensures.value in
    let same = item_type (value_of more.items).dtype items.dtype (ap (λ v. v.dtype) c.other.view_is ∙ c.requires.typed ∙ sym (ap (λ v. v.dtype) c.self.view_is)) in
    (omega (arith, c.decreases, ap (λ v. depth v.dtype) c.self.view_is), (same, omega (arith, last, c.self.invariant.within)))

pub nested::list::ListChunkedSeriesTrait::append-join_rows-requires : goal.nested::list::ListChunkedSeriesTrait::append-join_rows-requires
nested::list::ListChunkedSeriesTrait::append-join_rows-requires t c =
    let own = c.self.inside in
    let more = c.other.inside in
    omega (
      arith,
      list_length own.rows own.present.items own.ends.items (value_of own.items) c.self.invariant,
      ap (λ v. length v.slots) c.self.view_is,
      list_length more.rows more.present.items more.ends.items (value_of more.items) c.other.invariant,
      ap (λ v. length v.slots) c.other.view_is,
      c.requires.few,
    )

pub nested::list::ListChunkedSeriesTrait::append-push_ends-requires-clause-fits : goal.nested::list::ListChunkedSeriesTrait::append-push_ends-requires-clause-fits
nested::list::ListChunkedSeriesTrait::append-push_ends-requires-clause-fits t c =
    let by = c.end_of-before.result in
    let more = c.other.inside.ends.items in
    let few : by + end_of more < 2 ^ 64 = omega (arith, c.end_of-before.ensures, c.other.invariant.within, c.in_ok-put_behind-in-Ok.ensures.ok.few) in
    subst (λ (es : List ℕ). All (λ end. by + end < 2 ^ 64) es) (sym c.deref-in-Ok-2.ensures.value) (ends_few by more (end_of more) (2 ^ 64) c.other.invariant.rises few)

pub nested::list::ListChunkedSeriesTrait::append-invariant_of-self-in-Ok : goal.nested::list::ListChunkedSeriesTrait::append-invariant_of-self-in-Ok
nested::list::ListChunkedSeriesTrait::append-invariant_of-self-in-Ok t c =
    let own = c.self.inside in
    let more = c.other.inside in
    let items = value_of own.items in
    let by = c.end_of-before.result in
    let last = c.end_of-before.ensures ∙ ap end_of c.deref.ensures.value in
    let put = c.in_ok-put_behind-in-Ok.ensures.ok in
    let keep = subst (λ (n : ℕ). KeepsRows n items put.first) last put.kept in
    let kept = kept_listed own.rows own.present.items own.ends.items items c.self.invariant put.first keep in
    let exact = sym last ∙ sym put.exact in
    let flags = c.push_flags.ensures ∙ ap (λ xs. xs ++ c.deref-in-Ok.result.now) c.join_rows.ensures.flags ∙ ap (λ xs. own.present.items ++ xs) c.deref-in-Ok.ensures.value in
    let ends = c.push_ends.ensures ∙ ap (λ xs. xs ++ map (λ end. by + end) c.deref-in-Ok-2.result.now) c.join_rows.ensures.places
    ∙ ap (λ xs. own.ends.items ++ map (λ end. by + end) xs) c.deref-in-Ok-2.ensures.value in
    appended_listed own.rows own.present.items own.ends.items put.first kept exact more.rows more.present.items more.ends.items (value_of more.items) c.other.invariant _ _ _ _ by (sym put.exact) c.in-Ok.ensures.ok flags ends put.joined

pub nested::list::ListChunkedSeriesTrait::append-returns-in-Ok-clause-ok : goal.nested::list::ListChunkedSeriesTrait::append-returns-in-Ok-clause-ok
nested::list::ListChunkedSeriesTrait::append-returns-in-Ok-clause-ok t c =
    let own = c.self.inside in
    let more = c.other.inside in
    let items = value_of own.items in
    let by = c.end_of-before.result in
    let last = c.end_of-before.ensures ∙ ap end_of c.deref.ensures.value in
    let put = c.in_ok-put_behind-in-Ok.ensures.ok in
    let keep = subst (λ (n : ℕ). KeepsRows n items put.first) last put.kept in
    let kept = kept_listed own.rows own.present.items own.ends.items items c.self.invariant put.first keep in
    let exact = sym last ∙ sym put.exact in
    let flags = c.push_flags.ensures ∙ ap (λ xs. xs ++ c.deref-in-Ok.result.now) c.join_rows.ensures.flags ∙ ap (λ xs. own.present.items ++ xs) c.deref-in-Ok.ensures.value in
    let ends = c.push_ends.ensures ∙ ap (λ xs. xs ++ map (λ end. by + end) c.deref-in-Ok-2.result.now) c.join_rows.ensures.places
    ∙ ap (λ xs. own.ends.items ++ map (λ end. by + end) xs) c.deref-in-Ok-2.ensures.value in
    appended_view own.rows own.present.items own.ends.items put.first kept exact more.rows more.present.items more.ends.items (value_of more.items) c.other.invariant _ _ _ _ by (sym put.exact) c.in-Ok.ensures.ok flags ends put.joined
    ∙ ap (λ v. appended v (list_column more.rows more.present.items more.ends.items (value_of more.items))) (kept_view own.rows own.present.items own.ends.items items c.self.invariant put.first keep ∙ c.self.view_is)
    ∙ ap (appended c.args.self.now) c.other.view_is

pub nested::list::ListChunkedSeriesTrait::append-invariant_of-self : goal.nested::list::ListChunkedSeriesTrait::append-invariant_of-self
nested::list::ListChunkedSeriesTrait::append-invariant_of-self t c =
    let own = c.self.inside in
    let items = value_of own.items in
    let last = c.end_of-before.ensures ∙ ap end_of c.deref.ensures.value in
    let after = value_of c.put_behind.new.field in
    let keep = subst (λ (n : ℕ). KeepsRows n items after) last c.in_err-put_behind-in-Ok.ensures.kept in
    listed_alike own.rows own.rows _ own.present.items _ own.ends.items after after refl c.join_rows.ensures.flags c.join_rows.ensures.places refl
    (kept_listed own.rows own.present.items own.ends.items items c.self.invariant after keep)

pub nested::list::ListChunkedSeriesTrait::append-returns-in_err-put_behind-in-Ok-clause-unchanged : goal.nested::list::ListChunkedSeriesTrait::append-returns-in_err-put_behind-in-Ok-clause-unchanged
nested::list::ListChunkedSeriesTrait::append-returns-in_err-put_behind-in-Ok-clause-unchanged t c =
    let own = c.self.inside in
    let items = value_of own.items in
    let last = c.end_of-before.ensures ∙ ap end_of c.deref.ensures.value in
    let after = value_of c.put_behind.new.field in
    let keep = subst (λ (n : ℕ). KeepsRows n items after) last c.in_err-put_behind-in-Ok.ensures.kept in
    on_err c.from_residual.result
    (list_alike own.rows own.rows _ own.present.items _ own.ends.items after after refl c.join_rows.ensures.flags c.join_rows.ensures.places refl
    ∙ kept_view own.rows own.present.items own.ends.items items c.self.invariant after keep ∙ c.self.view_is)

pub nested::fields::put_behind-append-requires : goal.nested::fields::put_behind-append-requires
nested::fields::put_behind-append-requires t c =
    (omega (arith, c.decreases, ap (λ p. depth p.1) c.cut_for.ensures.kept.part), (c.requires.typed ∙ sym (ap (λ p. p.1) c.cut_for.ensures.kept.part), omega (arith, c.in-Ok.ensures.ok, c.in-Ok.ensures.few)))

pub nested::fields::put_behind-returns-in_ok-append-in-Ok-clause-ok : goal.nested::fields::put_behind-returns-in_ok-append-in-Ok-clause-ok
nested::fields::put_behind-returns-in_ok-append-in-Ok-clause-ok t c =
    record { first = value_of c.cut_for.new.field; kept = c.cut_for.ensures.kept; exact = c.in-Ok.ensures.ok; joined = c.in_ok-append-in-Ok.ensures.ok; few = c.in-Ok.ensures.few }

pub nested::structs::StructChunkedSeriesTrait::append-append_fields-requires : goal.nested::structs::StructChunkedSeriesTrait::append-append_fields-requires
nested::structs::StructChunkedSeriesTrait::append-append_fields-requires t c =
    let own = c.self.inside in
    let frame = map value_of own.fields.items in
    let other = c.other.inside in
    let inner = map value_of other.fields.items in
    let count = c.len-count.ensures ∙ own.present.ok.0 in
    let more = c.len-more.ensures ∙ other.present.ok.0 in
    let typed = struct_fields inner frame (ap (λ v. v.dtype) c.other.view_is ∙ c.requires.typed ∙ sym (ap (λ v. v.dtype) c.self.view_is)) in
    let long = subst (λ (n : ℕ). All (λ f. n ≤ length f.slots) frame) (sym count) c.self.invariant.long in
    let also = subst (λ (n : ℕ). All (λ f. n ≤ length f.slots) inner) (sym more) c.other.invariant.long in
    (omega (arith, c.decreases, ap (λ v. depth v.dtype) c.self.view_is), (typed, (long, (also, omega (arith, count, more, c.self.invariant.flags, c.other.invariant.flags, struct_length own.rows own.present.items frame c.self.invariant, struct_length other.rows other.present.items inner c.other.invariant, ap (λ v. length v.slots) c.self.view_is, ap (λ v. length v.slots) c.other.view_is, c.requires.few)))))

pub nested::structs::StructChunkedSeriesTrait::append-invariant_of-self-2 : goal.nested::structs::StructChunkedSeriesTrait::append-invariant_of-self-2
nested::structs::StructChunkedSeriesTrait::append-invariant_of-self-2 t c =
    let own = c.self.inside in
    let frame = map value_of own.fields.items in
    let other = c.other.inside in
    let inner = map value_of other.fields.items in
    let count = c.len-count.ensures ∙ own.present.ok.0 in
    let more = c.len-more.ensures ∙ other.present.ok.0 in
    let changed = map value_of c.append_fields.new.fields.items in
    let are = subst (λ (n : ℕ). AreJoined n (length other.present.items) frame inner changed) count (subst (λ (m : ℕ). AreJoined c.len-count.result m frame inner changed) more c.in_ok-append_fields.ensures.ok) in
    let flags = c.push_flags.ensures ∙ ap (λ xs. xs ++ c.deref.result.now) c.in_ok-reserve.ensures.items ∙ ap (λ xs. own.present.items ++ xs) c.deref.ensures.value in
    joined_struct own.rows own.present.items frame c.self.invariant other.rows other.present.items inner c.other.invariant _ _ changed c.in_ok-joined.ensures.ok flags are

pub nested::structs::StructChunkedSeriesTrait::append-returns-clause-ok : goal.nested::structs::StructChunkedSeriesTrait::append-returns-clause-ok
nested::structs::StructChunkedSeriesTrait::append-returns-clause-ok t c =
    let own = c.self.inside in
    let frame = map value_of own.fields.items in
    let other = c.other.inside in
    let inner = map value_of other.fields.items in
    let count = c.len-count.ensures ∙ own.present.ok.0 in
    let more = c.len-more.ensures ∙ other.present.ok.0 in
    let changed = map value_of c.append_fields.new.fields.items in
    let are = subst (λ (n : ℕ). AreJoined n (length other.present.items) frame inner changed) count (subst (λ (m : ℕ). AreJoined c.len-count.result m frame inner changed) more c.in_ok-append_fields.ensures.ok) in
    let flags = c.push_flags.ensures ∙ ap (λ xs. xs ++ c.deref.result.now) c.in_ok-reserve.ensures.items ∙ ap (λ xs. own.present.items ++ xs) c.deref.ensures.value in
    joined_view own.rows own.present.items frame c.self.invariant other.rows other.present.items inner c.other.invariant _ _ changed c.in_ok-joined.ensures.ok flags are
    ∙ ap (λ v. appended v (struct_column other.rows other.present.items inner)) c.self.view_is ∙ ap (appended c.args.self.now) c.other.view_is

pub nested::structs::StructChunkedSeriesTrait::append-invariant_of-self-in_err-append_fields : goal.nested::structs::StructChunkedSeriesTrait::append-invariant_of-self-in_err-append_fields
nested::structs::StructChunkedSeriesTrait::append-invariant_of-self-in_err-append_fields t c =
    let own = c.self.inside in
    let frame = map value_of own.fields.items in
    let other = c.other.inside in
    let inner = map value_of other.fields.items in
    let count = c.len-count.ensures ∙ own.present.ok.0 in
    let more = c.len-more.ensures ∙ other.present.ok.0 in
    let changed = map value_of c.append_fields.new.fields.items in
    let keep = subst (λ (n : ℕ). KeepAll n frame changed) count c.append_fields.ensures.kept in
    let flags = c.in_ok-reserve.ensures.items in
    is_alike own.rows own.rows _ own.present.items changed changed refl flags refl (kept_struct own.rows own.present.items frame c.self.invariant changed keep)

pub nested::structs::StructChunkedSeriesTrait::append-returns-in_err-append_fields-clause-unchanged : goal.nested::structs::StructChunkedSeriesTrait::append-returns-in_err-append_fields-clause-unchanged
nested::structs::StructChunkedSeriesTrait::append-returns-in_err-append_fields-clause-unchanged t c =
    let own = c.self.inside in
    let frame = map value_of own.fields.items in
    let other = c.other.inside in
    let inner = map value_of other.fields.items in
    let count = c.len-count.ensures ∙ own.present.ok.0 in
    let more = c.len-more.ensures ∙ other.present.ok.0 in
    let changed = map value_of c.append_fields.new.fields.items in
    let keep = subst (λ (n : ℕ). KeepAll n frame changed) count c.append_fields.ensures.kept in
    let flags = c.in_ok-reserve.ensures.items in
    on_err c.from_residual-in_err-append_fields.result
    (struct_alike own.rows own.rows _ own.present.items changed changed refl flags refl ∙ kept_struct_view own.rows own.present.items frame c.self.invariant changed keep ∙ c.self.view_is)

pub nested::fields::append_fields-append_field-requires : goal.nested::fields::append_fields-append_field-requires
nested::fields::append_fields-append_field-requires t c =
    let fs = map value_of c.args.fields.now.items in
    let os = map value_of c.args.others.items in
    let items = c.loop-place.fields.items in
    let at = c.loop-place.place in
    let column = c.index_mut.result.now in
    let joins = c.loop-place.invariant.joins in
    let within : at < length items = omega (arith, c.loop-place-test.true, c.loop-place.invariant.many, c.len-place-end.ensures, c.args.fields.now.ok.0) in
    (omega (arith, c.decreases, depth_at fs at (value_of column) (turn_inside value_of c.args.count c.args.more fs os items c.loop-place.others.rest.items c.next.new.self.rest.items at column c.in-Some.other joins c.in-Some.ensures.items within c.index_mut.ensures.value c.requires.typed c.requires.long c.requires.others_long), ap (λ (v : ColumnValue). depth v.dtype) (turn_own value_of c.args.count c.args.more fs os items c.loop-place.others.rest.items c.next.new.self.rest.items at column c.in-Some.other joins c.in-Some.ensures.items within c.index_mut.ensures.value c.requires.typed c.requires.long c.requires.others_long)), (turn_typed value_of c.args.count c.args.more fs os items c.loop-place.others.rest.items c.next.new.self.rest.items at column c.in-Some.other joins c.in-Some.ensures.items within c.index_mut.ensures.value c.requires.typed c.requires.long c.requires.others_long, (turn_long value_of c.args.count c.args.more fs os items c.loop-place.others.rest.items c.next.new.self.rest.items at column c.in-Some.other joins c.in-Some.ensures.items within c.index_mut.ensures.value c.requires.typed c.requires.long c.requires.others_long, (turn_other value_of c.args.count c.args.more fs os items c.loop-place.others.rest.items c.next.new.self.rest.items at column c.in-Some.other joins c.in-Some.ensures.items within c.index_mut.ensures.value c.requires.typed c.requires.long c.requires.others_long, c.requires.few))))

pub nested::fields::append_fields-returns-in_err-append_field-clause-kept : goal.nested::fields::append_fields-returns-in_err-append_field-clause-kept
nested::fields::append_fields-returns-in_err-append_field-clause-kept t c =
    let fs = map value_of c.args.fields.now.items in
    let os = map value_of c.args.others.items in
    let items = c.loop-place.fields.items in
    let at = c.loop-place.place in
    let column = c.index_mut.result.now in
    let joins = c.loop-place.invariant.joins in
    let within : at < length items = omega (arith, c.loop-place-test.true, c.loop-place.invariant.many, c.len-place-end.ensures, c.args.fields.now.ok.0) in
    turn_kept value_of c.args.count c.args.more fs os items c.loop-place.others.rest.items c.next.new.self.rest.items at column c.in-Some.other joins c.in-Some.ensures.items within c.index_mut.ensures.value c.requires.typed c.requires.long c.requires.others_long c.append_field.new.field c.append_field.ensures.kept

pub nested::fields::append_fields-loop-place-preserved : goal.nested::fields::append_fields-loop-place-preserved
nested::fields::append_fields-loop-place-preserved t c =
    let fs = map value_of c.args.fields.now.items in
    let os = map value_of c.args.others.items in
    let items = c.loop-place.fields.items in
    let at = c.loop-place.place in
    let column = c.index_mut.result.now in
    let joins = c.loop-place.invariant.joins in
    let within : at < length items = omega (arith, c.loop-place-test.true, c.loop-place.invariant.many, c.len-place-end.ensures, c.args.fields.now.ok.0) in
    record {
      many = search rules;
      joins = turn_joined value_of c.args.count c.args.more fs os items c.loop-place.others.rest.items c.next.new.self.rest.items at column c.in-Some.other joins c.in-Some.ensures.items within c.index_mut.ensures.value c.requires.typed c.requires.long c.requires.others_long c.append_field.new.field c.in_ok-append_field.ensures.ok;
    }

pub nested::fields::append_fields-returns-clause-ok : goal.nested::fields::append_fields-returns-clause-ok
nested::fields::append_fields-returns-clause-ok t c =
    let items = c.loop-place.fields.items in
    joined_end c.args.count c.args.more c.loop-place.place (map value_of c.args.fields.now.items) (map value_of c.args.others.items) (map value_of items) _ c.loop-place.invariant.joins
    (omega (arith, c.loop-place-test.false, c.loop-place.invariant.many, c.len-place-end.ensures, c.args.fields.now.ok.0, length-map items value_of)) c.requires.typed

pub nested::fields::append_field-append-requires : goal.nested::fields::append_field-append-requires
nested::fields::append_field-append-requires t c =
    (omega (arith, c.decreases, ap (λ p. depth p.1) c.cut.ensures.kept.part), (ap (λ p. p.1) c.in_ok-other.ensures.kept.part ∙ c.requires.typed ∙ sym (ap (λ p. p.1) c.cut.ensures.kept.part), omega (arith, c.in-Ok.ensures.ok, c.in_ok-other.ensures.exact, c.requires.few)))

pub nested::fields::append_field-returns-in_ok-append-in-Ok-clause-ok : goal.nested::fields::append_field-returns-in_ok-append-in-Ok-clause-ok
nested::fields::append_field-returns-in_ok-append-in-Ok-clause-ok t c =
    joined_field c.args.count c.args.more (value_of c.args.field.now) (value_of c.args.other) (value_of c.cut.new.field) (value_of c.in_ok-other.other) (value_of c.append.new.self)
    c.cut.ensures.kept c.in-Ok.ensures.ok c.in_ok-other.ensures.kept c.in_ok-other.ensures.exact c.in_ok-append-in-Ok.ensures.ok

pub nested::fields::append_field-returns-in_ok-append-in-Ok-clause-kept : goal.nested::fields::append_field-returns-in_ok-append-in-Ok-clause-kept
nested::fields::append_field-returns-in_ok-append-in-Ok-clause-kept t c =
    let n = c.args.count in
    let m = c.args.more in
    let f = value_of c.args.field.now in
    let o = value_of c.args.other in
    let g = value_of c.append.new.self in
    field_kept n m f o g c.requires.long
    (joined_field n m f o (value_of c.cut.new.field) (value_of c.in_ok-other.other) g c.cut.ensures.kept c.in-Ok.ensures.ok c.in_ok-other.ensures.kept c.in_ok-other.ensures.exact c.in_ok-append-in-Ok.ensures.ok)

pub nested::fields::append_fields-returns-clause-kept : goal.nested::fields::append_fields-returns-clause-kept
nested::fields::append_fields-returns-clause-kept t c =
    joined_kept c.args.count c.args.more c.loop-place.place (map value_of c.args.fields.now.items) (map value_of c.args.others.items) (map value_of c.loop-place.fields.items) _ c.loop-place.invariant.joins c.requires.long

none_left : {A : Type 0} (xs : List A) → (0 < length xs → false ≡ true) → xs ≡ []
none_left [] h = refl
none_left (x ∷ xs) h = let never : false ≡ true = h (omega arith) in cc

pub nested::fields::append_fields-unreachable-requires : goal.nested::fields::append_fields-unreachable-requires
nested::fields::append_fields-unreachable-requires t c =
    let fs = map value_of c.args.fields.now.items in
    let os = map value_of c.args.others.items in
    let items = c.loop-place.fields.items in
    let left = c.loop-place.others.rest.items in
    let none = none_left left (λ (some : 0 < length left). c.in_default.ensures.variant.1 (subst (λ (n : ℕ). 0 < n) (sym c.loop-place.others.rest.ok.0) some)) in
    let joins = subst (λ (rest : List Series). JoinsAt c.args.count c.args.more c.loop-place.place fs os (map value_of items) (map value_of rest)) none c.loop-place.invariant.joins in
    others_left c.args.count c.args.more c.loop-place.place fs os (map value_of items) joins
    (omega (arith, c.loop-place-test.true, c.loop-place.invariant.many, c.len-place-end.ensures, c.args.fields.now.ok.0, length-map items value_of)) c.requires.typed
