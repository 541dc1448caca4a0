use Rattle.std.proofs.Common.{◌≡◌, ◌∙◌, ◌<◌, ap, arith, length, subst, sym}
use Rattle.std.proofs.lemmas.List.{length-map}
use Rattle.std.proofs.lemmas.Result.{IfErr-weaker, IfOk-weaker}
use Rattle.gb_base.specs.PlSmallStr.{name_of}
use Rattle.gb_base.specs.PolarsError.{Explains}
use Rattle.gb_rows.specs.Lent.{keys_in}
use Rattle.gb_frame.specs.Agg.{names_of}
use Rattle.gb_frame.specs.GroupBy.{IsGroupedBy}
use Rattle.gb_frame.specs.Key.{columns_of}
use Rattle.gb_frame.specs.Refusals.{keys_fault, names_fault}
use Rattle.gb_frame.proofs.GroupByLemmas.{names_by_keys, some_of}
use Rattle.gb_frame.proofs.GroupingLemmas.{found_some, names_left}
use Rattle.gb_frame.proofs.by_names.group_by_names.Goals as goal

pub returns : goal.returns
returns g c =
    let frame = c.args.frame.now in
    let names = names_of c.args.by.now in
    let keys = keys_in c.in_ok-keys.keys.items in
    let some : 0 < length names = omega (arith, length-map c.args.by.now name_of, some_of (length c.args.by.now) c.if-is_empty.ensures) in
    let same : columns_of c.in_ok-keys-2.keys.items ≡ keys = c.in_ok-keys-2.ensures ∙ ap keys_in c.deref.ensures.value in
    let fault : names_fault frame names ≡ keys_fault frame keys = names_by_keys frame names some keys c.in_ok-keys.ensures.ok c.in_ok-check_names.ensures.ok
    (names_left frame c.group_by_keys.ensures.frame names keys c.in_ok-keys.ensures.ok (found_some frame names keys c.in_ok-keys.ensures.ok some)) in
    let made = c.group_by_keys.ensures.made in
    record {
      ok = IfOk-weaker c.group_by_keys.result _ _
          (λ grouped is. record { keys = keys; named = c.in_ok-keys.ensures.ok; grouped_by = subst (λ ks. IsGroupedBy frame ks c.args.options c.args.pool.now grouped) same is }) made.ok;
      fits = IfOk-weaker c.group_by_keys.result _ _ (λ grouped none. fault ∙ ap (keys_fault frame) (sym same) ∙ none) made.fits;
      err = IfErr-weaker c.group_by_keys.result _ _ (λ e h. subst (Explains e) (ap (keys_fault frame) same ∙ sym fault) h) made.err;
    }
