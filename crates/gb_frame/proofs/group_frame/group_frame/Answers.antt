use Rattle.std.proofs.Common.{map}
use Rattle.std.proofs.lemmas.List.{length-map}
use Rattle.std.proofs.lemmas.Result.{IfErr-weaker, IfOk-weaker, err_from_is_err_and}
use Rattle.gb_defs.specs.Column.{content}
use Rattle.gb_base.specs.PlSmallStr.{name_of}
use Rattle.gb_base.specs.PolarsError.{cause_of}
use Rattle.gb_paths.specs.Tuples.{trace_value}
use Rattle.gb_rows.specs.Lent.{keys_in}
use Rattle.gb_frame.specs.Agg.{aggs_of, names_of}
use Rattle.gb_frame.proofs.GroupingLemmas.{found_some, names_traced, refused_names, unfound_keys}
use Rattle.gb_frame.proofs.group_frame.group_frame.Goals as goal

pub returns-in_err-keys-clause-err : goal.returns-in_err-keys-clause-err
returns-in_err-keys-clause-err g c =
    let p = err_from_is_err_and c.from_residual.result c.from_residual.ensures.1 in
    rw (p.1, p.2) (unfound_keys c.args.frame.now (names_of c.args.by.now) (aggs_of c.args.aggs.now) (cause_of c.in_err-keys.field-0.0) c.in_err-keys.ensures.err)

pub returns-clause-traced : goal.returns-clause-traced
returns-clause-traced g c =
    let frame = c.args.frame.now in
    let names = names_of c.args.by.now in
    let keys = keys_in c.in_ok-keys.keys.items in
    let some = found_some frame names keys c.in_ok-keys.ensures.ok (rw (length-map c.args.by.now name_of) c.requires.some) in
    IfOk-weaker c.group_agg_traced.result _ _
    (λ made told. names_traced frame names keys c.in_ok-keys.ensures.ok some (aggs_of c.args.aggs.now) c.args.pool.now (map content made.0) (trace_value made.1) (rw c.deref.ensures.value at told))
    c.group_agg_traced.ensures.ok

pub returns-clause-err : goal.returns-clause-err
returns-clause-err g c =
    let frame = c.args.frame.now in
    let names = names_of c.args.by.now in
    let keys = keys_in c.in_ok-keys.keys.items in
    IfErr-weaker c.group_agg_traced.result _ _
    (λ e h. refused_names frame names keys c.in_ok-keys.ensures.ok (aggs_of c.args.aggs.now) (cause_of e) (rw c.deref.ensures.value at h))
    c.group_agg_traced.ensures.err
