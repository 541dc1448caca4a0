use Rattle.std.proofs.Common.{◌≡◌, ◌∙◌, ◌<◌, [], ◌∷◌, ap, arith, length, subst, sym, true}
use Rattle.std.proofs.lemmas.List.{length-map}
use Rattle.std.proofs.lemmas.Result.{IfOk-weaker}
use Rattle.gb_defs.specs.Classes.{agree_by}
use Rattle.gb_defs.specs.Column.{Frame, NotSorted, frame_height}
use Rattle.gb_defs.specs.Groups.{Grouping}
use Rattle.gb_defs.specs.Notes.{detected}
use Rattle.gb_paths.specs.Classes.{NumberAll, grouping_of}
use Rattle.gb_series.specs.Series.{value_of}
use Rattle.gb_rows.specs.Lent.{keys_in}
use Rattle.gb_paths.specs.Tuples.{AreClasses, AreFound, path_value, slots_of, tuples_by}
use Rattle.gb_paths.proofs.ClassLemmas.{found_classes, keys_classes}
use Rattle.gb_paths.proofs.OrderLemmas.{detected_classes, several_detected, several_found, several_path}
use Rattle.gb_paths.proofs.SeveralLemmas.{also_ok, classes_by, only_lent}
use Rattle.gb_paths.proofs.by_keys.classes_by_detected.Goals as goal

pub returns-then-keys-eq1-clause-ok : goal.returns-then-keys-eq1-clause-ok
returns-then-keys-eq1-clause-ok g c =
    let lent = c.args.keys.now in
    let key = c.index-keys-0.result in
    let one = value_of key.now ∷ [] in
    let same : one ≡ keys_in lent = ap (λ k. value_of k.now ∷ []) c.index-keys-0.is ∙ sym (only_lent lent key c.if-keys-eq1.true) in
    IfOk-weaker c.classes_in_order.result _ _ (λ made h.
    subst (λ (ks : Frame). AreFound ks c.args.multithreaded c.args.sorted c.args.pool.now (grouping_of made.0) (path_value made.1)) same h) c.classes_in_order.ensures.ok

pub returns-then-keys-eq1-clause-classes : goal.returns-then-keys-eq1-clause-classes
returns-then-keys-eq1-clause-classes g c =
    let lent = c.args.keys.now in
    let key = c.index-keys-0.result in
    let one = value_of key.now ∷ [] in
    let same : keys_in lent ≡ one = only_lent lent key c.if-keys-eq1.true ∙ ap (λ k. value_of k.now ∷ []) (sym c.index-keys-0.is) in
    let m = c.args.multithreaded in
    let pool = c.args.pool.now in
    let some : 0 < length (keys_in lent) = rw same (omega arith) in
    IfOk-weaker c.classes_in_order.result _ _ (λ made h sorted. ap (λ g. g.pairs) h.groups_are
    ∙ ap (λ s. (tuples_by (detected h.flag one) m s pool).pairs) sorted
    ∙ ap (λ ks. (tuples_by (detected h.flag ks) m true pool).pairs) (sym same)
    ∙ detected_classes h.flag (keys_in lent) m pool some) c.classes_in_order.ensures.ok

pub returns-clause-ok : goal.returns-clause-ok
returns-clause-ok g c =
    let lent = c.args.keys.now in
    let keys = keys_in lent in
    let m = c.args.multithreaded in
    let s = c.args.sorted in
    let pool = c.args.pool.now in
    let many : 1 < length keys = rw (length-map lent (λ key. value_of key.now)) (omega (arith, c.requires.some, c.if-keys-eq1.false)) in
    IfOk-weaker c.classes_several.result _ _ (λ made h. record {
      flag = NotSorted;
      ordered = several_found keys many;
      groups_are = h.0 ∙ ap (λ ks. tuples_by ks m s pool) (several_detected keys many);
      path_is = h.1 ∙ several_path keys m pool many;
    }) (also_ok c.classes_several.result _ _ c.classes_several.ensures.ok c.classes_several.ensures.path)

pub returns-clause-classes : goal.returns-clause-classes
returns-clause-classes g c =
    let lent = c.args.keys.now in
    let keys = keys_in lent in
    let pool = c.args.pool.now in
    let some : 0 < length keys = rw (length-map lent (λ key. value_of key.now)) c.requires.some in
    IfOk-weaker c.classes_several.result _ _ (λ made h sorted. ap (λ g. g.pairs) h
    ∙ ap (λ s. (tuples_by keys c.args.multithreaded s pool).pairs) sorted
    ∙ classes_by keys c.args.multithreaded pool some) c.classes_several.ensures.ok

pub returns-then-keys-eq1-clause-whole : goal.returns-then-keys-eq1-clause-whole
returns-then-keys-eq1-clause-whole g c =
    let lent = c.args.keys.now in
    let key = c.index-keys-0.result in
    let one = value_of key.now ∷ [] in
    let same : one ≡ keys_in lent = ap (λ k. value_of k.now ∷ []) c.index-keys-0.is ∙ sym (only_lent lent key c.if-keys-eq1.true) in
    IfOk-weaker c.classes_in_order.result _ _ (λ made h. subst (λ (ks : Frame). AreClasses (agree_by (slots_of ks)) (frame_height ks) (grouping_of made.0).pairs) same
    (subst (λ (g : Grouping). AreClasses (agree_by (slots_of one)) (frame_height one) g.pairs) (sym h.groups_are)
    (found_classes h.flag one c.args.multithreaded c.args.sorted c.args.pool.now (omega arith)))) c.classes_in_order.ensures.ok

pub returns-clause-whole : goal.returns-clause-whole
returns-clause-whole g c =
    let lent = c.args.keys.now in
    let keys = keys_in lent in
    let some : 0 < length keys = rw (length-map lent (λ key. value_of key.now)) c.requires.some in
    IfOk-weaker c.classes_several.result _ _ (λ made h. subst (λ (g : Grouping). AreClasses (agree_by (slots_of keys)) (frame_height keys) g.pairs) (sym h)
    (keys_classes keys c.args.multithreaded c.args.sorted c.args.pool.now some)) c.classes_several.ensures.ok

pub returns-then-keys-eq1-clause-all : goal.returns-then-keys-eq1-clause-all
returns-then-keys-eq1-clause-all g c =
    let lent = c.args.keys.now in
    let key = c.index-keys-0.result in
    let one = value_of key.now ∷ [] in
    let same : one ≡ keys_in lent = ap (λ k. value_of k.now ∷ []) c.index-keys-0.is ∙ sym (only_lent lent key c.if-keys-eq1.true) in
    IfOk-weaker c.classes_in_order.result _ _ (λ made h. subst (λ (ks : Frame). NumberAll c.args.by_numbers (frame_height ks) made.0) same h) c.classes_in_order.ensures.all
