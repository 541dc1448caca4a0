use Rattle.std.proofs.Common.{◌∙◌, ◌++◌, ◌∷◌, ◌+◌, [], Ok, ap, sym, arith, drop, take}
use Rattle.std.proofs.lemmas.List.{map-append, map_more, take_all}
use Rattle.std.proofs.lemmas.Result.{err_from_is_err_and}
use Rattle.std.specs.Result.{result_err}
use Rattle.gb_base.specs.PlSmallStr.{name_of}
use Rattle.gb_base.specs.PolarsError.{Explains, cause_of}
use Rattle.gb_defs.specs.Outcome.{find_columns}
use Rattle.gb_series.specs.Frame.{missing_column}
use Rattle.gb_series.specs.Series.{value_of}
use Rattle.gb_rows.specs.Lent.{keys_in}
use Rattle.gb_frame.specs.Agg.{names_of}
use Rattle.gb_frame.proofs.GroupingLemmas.{found_more, keys_missing, names_split}
use Rattle.gb_frame.proofs.checks.find_keys.Goals as goal

pub returns-in_err-column-clause-err : goal.returns-in_err-column-clause-err
returns-in_err-column-clause-err c =
    let frame = c.args.frame.now in
    let by = c.args.by.now in
    let i = c.loop-name.name-index in
    let name = c.name-item.result in
    let explained : (e : _) → Explains e (missing_column frame (name_of name)) → Explains e (result_err (find_columns frame (names_of by))) =
    λ e h. rw (names_split name_of by i name c.loop-name-test.true c.name-item.is)
    (keys_missing frame (names_of (take i by)) (name_of name) (names_of (drop (i + 1) by)) (keys_in c.loop-name.keys.items) c.loop-name.invariant (cause_of e) h) in
    let p = err_from_is_err_and c.from_residual-in_err-column.result c.from_residual-in_err-column.ensures.1 in
    rw (p.1, p.2) (explained c.in_err-column.field-0.0 (rw (← c.as_str.ensures) c.in_err-column.ensures.err))

pub loop-name-preserved : goal.loop-name-preserved
loop-name-preserved c =
    let frame = c.args.frame.now in
    let by = c.args.by.now in
    let i = c.loop-name.name-index in
    let name = c.name-item.result in
    let key = c.in_ok-column.field-0 in
    let found = rw c.as_str.ensures at c.in_ok-column.ensures.ok in
    let names = map_more name_of by i name c.loop-name-test.true ∙ ap (λ n. names_of (take i by) ++ name_of n ∷ []) (sym c.name-item.is) in
    rw names (found_more frame (names_of (take i by)) (name_of name) (keys_in c.loop-name.keys.items) (value_of key.now) c.loop-name.invariant found
    ∙ ap (λ keys. Ok keys) (sym (ap keys_in c.in_ok-push.ensures.items ∙ map-append (λ key. value_of key.now) c.loop-name.keys.items (key ∷ []))))

pub returns-clause-ok : goal.returns-clause-ok
returns-clause-ok c =
    let by = c.args.by.now in
    ap (λ names. find_columns c.args.frame.now (names_of names)) (sym (take_all c.loop-name.name-index by (omega (arith, c.loop-name-test.false)))) ∙ c.loop-name.invariant
