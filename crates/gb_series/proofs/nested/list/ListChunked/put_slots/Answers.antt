use Rattle.std.proofs.Common.{◌∙◌, ℕ, ap, arith, ◌+◌, ◌++◌, ◌∷◌, [], length, true, refl, subst, sym}
use Rattle.gb_cols.specs.Column.{appended, pushed}
use Rattle.gb_defs.specs.Slot.{Items, Nil, items_of}
use Rattle.gb_series.specs.Rows.{end_of}
use Rattle.gb_series.specs.Series.{value_of}
use Rattle.gb_series.specs.Structs.{KeepsRows}
use Rattle.gb_series.proofs.ListLemmas.{item_type, kept_listed, kept_view, list_alike, pushed_listed, pushed_view}
use Rattle.gb_series.proofs.ResultLemmas.{on_err}
use Rattle.gb_series.proofs.nested.list.ListChunked.put_slots.Goals as goal

pub cut-requires-clause-long : goal.cut-requires-clause-long
cut-requires-clause-long c =
    let own = c.self.inside in
    let slots = value_of c.args.slots.now in
    let items = value_of own.items in
    let last = c.end_of-before.ensures ∙ ap end_of c.deref.ensures.value in
    omega (arith, last, c.self.invariant.within)

pub cut-requires-clause-few : goal.cut-requires-clause-few
cut-requires-clause-few c =
    let own = c.self.inside in
    let slots = value_of c.args.slots.now in
    let items = value_of own.items in
    let last = c.end_of-before.ensures ∙ ap end_of c.deref.ensures.value in
    omega (arith, last, c.self.invariant.within, c.len.ensures.small, c.len.ensures.value)

pub append-requires-clause-typed : goal.append-requires-clause-typed
append-requires-clause-typed c =
    let own = c.self.inside in
    let slots = value_of c.args.slots.now in
    let items = value_of own.items in
    let last = c.end_of-before.ensures ∙ ap end_of c.deref.ensures.value in
    let cut = value_of c.cut.new.field in
    let keep = subst (λ (n : ℕ). KeepsRows n items cut) last c.cut.ensures.kept in
    let same = item_type slots.dtype items.dtype (c.requires.typed ∙ sym (ap (λ v. v.dtype) c.self.view_is)) in
    ap (λ v. v.dtype) c.in_ok-try_clone.ensures.ok ∙ same ∙ sym (ap (λ p. p.1) keep.part)

pub append-requires-clause-few : goal.append-requires-clause-few
append-requires-clause-few c =
    let own = c.self.inside in
    let slots = value_of c.args.slots.now in
    let items = value_of own.items in
    let last = c.end_of-before.ensures ∙ ap end_of c.deref.ensures.value in
    omega (arith, c.in_ok-cut.ensures.ok, c.len-2.ensures.value, ap (λ v. length v.slots) c.in_ok-try_clone.ensures.ok)

pub invariant_of-self-2 : goal.invariant_of-self-2
invariant_of-self-2 c =
    let own = c.self.inside in
    let slots = value_of c.args.slots.now in
    let items = value_of own.items in
    let last = c.end_of-before.ensures ∙ ap end_of c.deref.ensures.value in
    let cut = value_of c.cut.new.field in
    let keep = subst (λ (n : ℕ). KeepsRows n items cut) last c.cut.ensures.kept in
    let kept = kept_listed own.rows own.present.items own.ends.items items c.self.invariant cut keep in
    let exact = sym last ∙ sym c.in_ok-cut.ensures.ok in
    let end = c.end_of-before.result + c.len-2.result in
    let long = ap (λ n. n + c.len-2.result) (sym c.in_ok-cut.ensures.ok) ∙ ap (λ n. length cut.slots + n) c.len-2.ensures.value in
    let rows = c.in_ok-push_null.ensures.ok ∙ ap (λ r. pushed r Nil) c.in_ok-rows.ensures.ok in
    let flags = c.push_reserved.ensures.items ∙ ap (λ xs. xs ++ true ∷ []) c.in_ok-reserve.ensures.items in
    let ends = c.push_reserved-2.ensures.items ∙ ap (λ xs. xs ++ end ∷ []) c.in_ok-reserve-2.ensures.items in
    let made = c.in_ok-append.ensures.ok ∙ ap (appended cut) c.in_ok-try_clone.ensures.ok in
    pushed_listed own.rows own.present.items own.ends.items cut kept exact true slots _ _ _ _ end long rows flags ends made

pub returns-clause-ok : goal.returns-clause-ok
returns-clause-ok c =
    let own = c.self.inside in
    let slots = value_of c.args.slots.now in
    let items = value_of own.items in
    let last = c.end_of-before.ensures ∙ ap end_of c.deref.ensures.value in
    let cut = value_of c.cut.new.field in
    let keep = subst (λ (n : ℕ). KeepsRows n items cut) last c.cut.ensures.kept in
    let kept = kept_listed own.rows own.present.items own.ends.items items c.self.invariant cut keep in
    let exact = sym last ∙ sym c.in_ok-cut.ensures.ok in
    let end = c.end_of-before.result + c.len-2.result in
    let long = ap (λ n. n + c.len-2.result) (sym c.in_ok-cut.ensures.ok) ∙ ap (λ n. length cut.slots + n) c.len-2.ensures.value in
    let rows = c.in_ok-push_null.ensures.ok ∙ ap (λ r. pushed r Nil) c.in_ok-rows.ensures.ok in
    let flags = c.push_reserved.ensures.items ∙ ap (λ xs. xs ++ true ∷ []) c.in_ok-reserve.ensures.items in
    let ends = c.push_reserved-2.ensures.items ∙ ap (λ xs. xs ++ end ∷ []) c.in_ok-reserve-2.ensures.items in
    let made = c.in_ok-append.ensures.ok ∙ ap (appended cut) c.in_ok-try_clone.ensures.ok in
    pushed_view own.rows own.present.items own.ends.items cut kept exact true slots _ _ _ _ end long rows flags ends made
    ∙ ap (λ v. pushed v (Items (items_of slots.slots))) (kept_view own.rows own.present.items own.ends.items items c.self.invariant cut keep ∙ c.self.view_is)

pub returns-in_err-cut-clause-unchanged : goal.returns-in_err-cut-clause-unchanged
returns-in_err-cut-clause-unchanged c =
    let own = c.self.inside in
    let items = value_of own.items in
    let last = c.end_of-before.ensures ∙ ap end_of c.deref.ensures.value in
    let cut = value_of c.cut.new.field in
    let keep = subst (λ (n : ℕ). KeepsRows n items cut) last c.cut.ensures.kept in
    on_err c.from_residual-in_err-cut.result
    (list_alike own.rows own.rows _ own.present.items _ own.ends.items _ cut refl c.in_ok-reserve.ensures.items c.in_ok-reserve-2.ensures.items refl
    ∙ kept_view own.rows own.present.items own.ends.items items c.self.invariant cut keep ∙ c.self.view_is)

pub returns-in_err-try_clone-clause-unchanged : goal.returns-in_err-try_clone-clause-unchanged
returns-in_err-try_clone-clause-unchanged c =
    let own = c.self.inside in
    let items = value_of own.items in
    let last = c.end_of-before.ensures ∙ ap end_of c.deref.ensures.value in
    let cut = value_of c.cut.new.field in
    let keep = subst (λ (n : ℕ). KeepsRows n items cut) last c.cut.ensures.kept in
    on_err c.from_residual-in_err-try_clone.result
    (list_alike own.rows own.rows _ own.present.items _ own.ends.items _ cut refl c.in_ok-reserve.ensures.items c.in_ok-reserve-2.ensures.items refl
    ∙ kept_view own.rows own.present.items own.ends.items items c.self.invariant cut keep ∙ c.self.view_is)

pub returns-in_err-append-clause-unchanged : goal.returns-in_err-append-clause-unchanged
returns-in_err-append-clause-unchanged c =
    let own = c.self.inside in
    let items = value_of own.items in
    let last = c.end_of-before.ensures ∙ ap end_of c.deref.ensures.value in
    let cut = value_of c.cut.new.field in
    let keep = subst (λ (n : ℕ). KeepsRows n items cut) last c.cut.ensures.kept in
    on_err c.from_residual-in_err-append.result
    (list_alike own.rows own.rows _ own.present.items _ own.ends.items _ cut refl c.in_ok-reserve.ensures.items c.in_ok-reserve-2.ensures.items c.in_err-append.ensures.unchanged
    ∙ kept_view own.rows own.present.items own.ends.items items c.self.invariant cut keep ∙ c.self.view_is)
