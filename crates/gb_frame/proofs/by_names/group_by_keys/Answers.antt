use Rattle.std.proofs.Common.{◌≡◌, ◌∙◌, ap, subst, sym}
use Rattle.gb_defs.specs.Column.{Frame}
use Rattle.gb_defs.specs.Groups.{HasRowNumbers}
use Rattle.gb_rows.specs.Rows.{AreOfOneLength}
use Rattle.gb_frame.specs.GroupBy.{AreGroupsBy}
use Rattle.gb_frame.specs.Grouping.{HasHeight, IsGrouping}
use Rattle.gb_frame.specs.Key.{columns_of, stretched_keys}
use Rattle.gb_frame.proofs.KeyLemmas.{fitting_few, keyless_some}
use Rattle.gb_frame.proofs.StretchLemmas.{has_height, keys_grouped, some_stretched, stretched_aligned, stretched_height}
use Rattle.gb_frame.proofs.by_names.group_by_keys.Goals as goal

pub groups_of_keys-requires-clause-aligned : goal.groups_of_keys-requires-clause-aligned
groups_of_keys-requires-clause-aligned g c κs within =
    let frame = c.args.frame.now in
    let keys = columns_of c.args.keys.items in
    let same : columns_of c.deref.result.now ≡ stretched_keys frame keys = ap columns_of c.deref.ensures.value ∙ c.in_ok-keys.ensures.ok in
    subst AreOfOneLength (sym same) (stretched_aligned frame keys (keyless_some frame keys c.in_ok-keys.ensures.fits))

pub new-requires : goal.new-requires
new-requires g c =
    let frame = c.args.frame.now in
    let keys = columns_of c.args.keys.items in
    let groups = c.in_ok-groups.groups in
    let some = keyless_some frame keys c.in_ok-keys.ensures.fits in
    let fit = stretched_keys frame keys in
    let same : columns_of c.deref.result.now ≡ fit = ap columns_of c.deref.ensures.value ∙ c.in_ok-keys.ensures.ok in
    let are : AreGroupsBy fit c.args.options c.args.pool.now groups = subst (λ (ks : Frame). AreGroupsBy ks c.args.options c.args.pool.now groups) same c.in_ok-groups.ensures.ok in
    let high = sym (stretched_height frame keys some) in
    let few = subst HasRowNumbers high (fitting_few frame keys c.in_ok-keys.ensures.fits) in
    subst (λ (ks : Frame). IsGrouping frame ks groups) (sym c.in_ok-keys.ensures.ok)
    (keys_grouped frame fit groups c.in_ok-keys.ensures.frame (some_stretched frame keys some) (stretched_aligned frame keys some) (subst (HasHeight frame) high (has_height frame keys)) few are.whole.few are.formed)
