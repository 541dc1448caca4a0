use Rattle.std.proofs.Common.{◌≡◌, ◌∙◌, ◌<◌, ap, arith, length, subst, sym}
use Rattle.std.proofs.lemmas.List.{length-map}
use Rattle.std.proofs.lemmas.Result.{err_from_is_err_and}
use Rattle.gb_defs.specs.Answer.{height_of}
use Rattle.gb_defs.specs.Fault.{rows_fault}
use Rattle.gb_defs.specs.Groups.{HasRowNumbers}
use Rattle.gb_base.specs.PolarsError.{Explains}
use Rattle.gb_frame.specs.Key.{AreOrOne, columns_of, key_value}
use Rattle.gb_frame.proofs.GroupByLemmas.{some_of}
use Rattle.gb_frame.proofs.GroupingLemmas.{rows_none}
use Rattle.gb_frame.proofs.KeyLemmas.{fitting_left}
use Rattle.gb_frame.proofs.key.fit_keys.Goals as goal

pub returns-in_err-check_height-clause-err : goal.returns-in_err-check_height-clause-err
returns-in_err-check_height-clause-err c =
    let frame = c.args.frame.now in
    let keys = columns_of c.args.keys.items in
    let high : c.height_by-height.result ≡ height_of frame keys = c.height_by-height.ensures.height ∙ ap (λ ks. height_of frame (columns_of ks)) c.deref.ensures.value in
    let are : AreOrOne (height_of frame keys) keys = subst (λ n. AreOrOne n keys) high (subst (λ ks. AreOrOne c.height_by-height.result (columns_of ks)) c.deref-2.ensures.value c.in_ok-check_lengths.ensures.ok) in
    let some : 0 < length keys = omega (arith, length-map c.args.keys.items key_value, some_of c.args.keys.len c.if-is_empty.ensures, c.args.keys.ok) in
    let p = err_from_is_err_and c.from_residual-in_err-check_height.result c.from_residual-in_err-check_height.ensures.1 in
    rw (p.1, p.2) (subst (Explains c.in_err-check_height.field-0.0) (ap rows_fault high ∙ sym (fitting_left frame keys some are)) c.in_err-check_height.ensures.err)

pub returns-clause-fits : goal.returns-clause-fits
returns-clause-fits c =
    let frame = c.args.frame.now in
    let keys = columns_of c.args.keys.items in
    let high : c.height_by-height.result ≡ height_of frame keys = c.height_by-height.ensures.height ∙ ap (λ ks. height_of frame (columns_of ks)) c.deref.ensures.value in
    let are : AreOrOne (height_of frame keys) keys = subst (λ n. AreOrOne n keys) high (subst (λ ks. AreOrOne c.height_by-height.result (columns_of ks)) c.deref-2.ensures.value c.in_ok-check_lengths.ensures.ok) in
    let some : 0 < length keys = omega (arith, length-map c.args.keys.items key_value, some_of c.args.keys.len c.if-is_empty.ensures, c.args.keys.ok) in
    fitting_left frame keys some are ∙ rows_none (height_of frame keys) (subst HasRowNumbers high c.in_ok-check_height.ensures.ok)
