use Rattle.std.proofs.Common.{◌≡◌, ◌∙◌, ◌<◌, [], ◌∷◌, ap, arith, length, subst, sym}
use Rattle.std.proofs.lemmas.List.{length-map}
use Rattle.std.proofs.lemmas.Result.{IfOk-weaker}
use Rattle.gb_defs.specs.Classes.{agree_by, groups, rows_below}
use Rattle.gb_defs.specs.Column.{Frame, frame_height}
use Rattle.gb_defs.specs.Groups.{Grouping}
use Rattle.gb_groups.specs.GroupsType.{groups_of}
use Rattle.gb_series.specs.Series.{value_of}
use Rattle.gb_rows.specs.Lent.{keys_in}
use Rattle.gb_paths.specs.Tuples.{AreClasses, slots_of, tuples_by}
use Rattle.gb_paths.proofs.ClassLemmas.{keys_classes}
use Rattle.gb_paths.proofs.SeveralLemmas.{classes_by, only_lent}
use Rattle.gb_paths.proofs.by_keys.group_by_keys.Goals as goal

pub returns-then-keys-eq1-clause-classes : goal.returns-then-keys-eq1-clause-classes
returns-then-keys-eq1-clause-classes g c =
    let lent = c.args.keys.now in
    let key = c.index-keys-0.result in
    let one = value_of key.now ∷ [] in
    let pool = c.args.pool.now in
    let same : keys_in lent ≡ one = only_lent lent key c.if-keys-eq1.true ∙ ap (λ k. value_of k.now ∷ []) (sym c.index-keys-0.is) in
    IfOk-weaker c.group_tuples_gated.result _ _ (λ found h sorted. ap (λ g. g.pairs) h
    ∙ ap (λ s. (tuples_by one c.args.multithreaded s pool).pairs) sorted
    ∙ classes_by one c.args.multithreaded pool (omega arith)
    ∙ ap (λ ks. groups (agree_by (slots_of ks)) (rows_below (frame_height ks))) (sym same)) c.group_tuples_gated.ensures.ok

pub returns-clause-classes : goal.returns-clause-classes
returns-clause-classes g c =
    let lent = c.args.keys.now in
    let keys = keys_in lent in
    let pool = c.args.pool.now in
    let some : 0 < length keys = rw (length-map lent (λ key. value_of key.now)) c.requires.some in
    λ sorted. ap (λ g. g.pairs) (c.in_ok-groups.ensures.ok ∙ c.in_ok-classes.ensures.ok)
    ∙ ap (λ s. (tuples_by keys c.args.multithreaded s pool).pairs) sorted
    ∙ classes_by keys c.args.multithreaded pool some

pub returns-then-keys-eq1-clause-whole : goal.returns-then-keys-eq1-clause-whole
returns-then-keys-eq1-clause-whole g c =
    let lent = c.args.keys.now in
    let key = c.index-keys-0.result in
    let one = value_of key.now ∷ [] in
    let same : keys_in lent ≡ one = only_lent lent key c.if-keys-eq1.true ∙ ap (λ k. value_of k.now ∷ []) (sym c.index-keys-0.is) in
    let classes = keys_classes one c.args.multithreaded c.args.sorted c.args.pool.now (omega arith) in
    IfOk-weaker c.group_tuples_gated.result _ _ (λ found h. subst (λ (ks : Frame). AreClasses (agree_by (slots_of ks)) (frame_height ks) (groups_of found).pairs) (sym same)
    (subst (λ (g : Grouping). AreClasses (agree_by (slots_of one)) (frame_height one) g.pairs) (sym h) classes)) c.group_tuples_gated.ensures.ok

pub returns-clause-whole : goal.returns-clause-whole
returns-clause-whole g c =
    let lent = c.args.keys.now in
    let keys = keys_in lent in
    let some : 0 < length keys = rw (length-map lent (λ key. value_of key.now)) c.requires.some in
    subst (λ (g : Grouping). AreClasses (agree_by (slots_of keys)) (frame_height keys) g.pairs) (sym (c.in_ok-groups.ensures.ok ∙ c.in_ok-classes.ensures.ok))
    (keys_classes keys c.args.multithreaded c.args.sorted c.args.pool.now some)
