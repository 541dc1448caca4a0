use Rattle.std.proofs.Common.{◌≡◌, ◌∙◌, ◌+◌, ◌++◌, ◌∷◌, [], All, ap, arith, subst, sym, take}
use Rattle.std.proofs.lemmas.List.{map-append, map_more, take_all}
use Rattle.std.proofs.lemmas.List.Elements.{All-nil, All-push}
use Rattle.gb_rows.specs.Lent.{keys_in}
use Rattle.gb_series.specs.Series.{value_of}
use Rattle.gb_defs.specs.Notes.{valued_keys}
use Rattle.gb_paths.specs.Tuples.{IsNullUnlessValued}
use Rattle.gb_paths.proofs.SeveralLemmas.{valued_no, valued_yes}
use Rattle.gb_paths.proofs.by_keys.valued_keys.Goals as goal
use Rattle.gb_paths.proofs.by_keys.valued_keys.Goals.{then-is_valued+in_ok-push, else-is_valued}

pub loop-key-init : goal.loop-key-init
loop-key-init c = record { valued = ap keys_in c.in_ok-valued.ensures.items; nulls = All-nil IsNullUnlessValued }

pub loop-key-preserved : goal.loop-key-preserved
loop-key-preserved c =
    let keys = c.args.keys.now in
    let i = c.loop-key.key-index in
    let key = c.key-item.result in
    let value = value_of key.now in
    let before = keys_in (take i keys) in
    let so_far = c.loop-key.invariant in
    let is = sym c.is_valued.ensures.value in
    let more : keys_in (take (i + 1) keys) ≡ before ++ value ∷ [] =
    map_more (λ lent. value_of lent.now) keys i key c.loop-key-test.true ∙ ap (λ lent. before ++ value_of lent.now ∷ []) (sym c.key-item.is) in
    record {
      valued = elim c.if-is_valued.branch [
        | then-is_valued+in_ok-push w ↦
            ap keys_in (ap (λ v. v.items) w.valued-is ∙ w.in_ok-push.ensures.items)
            ∙ map-append (λ lent. value_of lent.now) c.loop-key.valued.items (key ∷ [])
            ∙ ap (λ ks. ks ++ value ∷ []) so_far.valued
            ∙ sym (ap valued_keys more ∙ valued_yes before value (is ∙ w.if-is_valued.true))
        | else-is_valued w ↦
            ap keys_in (ap (λ v. v.items) w.valued-is) ∙ so_far.valued
            ∙ sym (ap valued_keys more ∙ valued_no before value (is ∙ w.if-is_valued.false))
      ];
      nulls = subst (All IsNullUnlessValued) (sym more) (All-push IsNullUnlessValued before value so_far.nulls (λ none. c.is_valued.ensures.nulls (c.is_valued.ensures.value ∙ none)));
    }

pub returns-clause-valued : goal.returns-clause-valued
returns-clause-valued c =
    let keys = c.args.keys.now in
    c.loop-key.invariant.valued ∙ ap (λ ks. valued_keys (keys_in ks)) (take_all c.loop-key.key-index keys (omega (arith, c.loop-key-test.false)))

pub returns-clause-nulls : goal.returns-clause-nulls
returns-clause-nulls c =
    let keys = c.args.keys.now in
    subst (λ ks. All IsNullUnlessValued (keys_in ks)) (take_all c.loop-key.key-index keys (omega (arith, c.loop-key-test.false))) c.loop-key.invariant.nulls
