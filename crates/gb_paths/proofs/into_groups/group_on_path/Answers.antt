use Rattle.std.proofs.Common.{◌≡◌, ◌∙◌, ap, sym}
use Rattle.std.proofs.lemmas.Result.{IfOk-weaker}
use Rattle.gb_defs.specs.Path.{Nulls, Perfect, Sorted, run_groups}
use Rattle.gb_paths.specs.Keys.{null_rows}
use Rattle.gb_paths.specs.Tuples.{column_path, ordered, path_value, tuples_on}
use Rattle.gb_paths.proofs.ChoiceLemmas.{nulls_told, runs_told}
use Rattle.gb_paths.proofs.RunLemmas.{slots_null, stood_run}
use Rattle.gb_paths.proofs.into_groups.group_on_path.Goals as goal

pub returns-in-Nulls-clause-ok : goal.returns-in-Nulls-clause-ok
returns-in-Nulls-clause-ok g c =
    let column = g.C.SeriesTrait.value c.args.column.now in
    let key = ordered c.args.order column in
    let pool = c.args.pool.now in
    let way : column_path key c.args.multithreaded pool ≡ Nulls = sym c.path_of.ensures.path ∙ ap path_value c.in-Nulls.is in
    let nulls = slots_null column.dtype column.slots (nulls_told key c.args.multithreaded pool way) c.len.ensures.fitting in
    IfOk-weaker c.one_run.result _ _ (λ groups h. h ∙ ap (λ n. run_groups (null_rows n)) c.len.ensures.value ∙ stood_run key c.args.sorted pool nulls
    ∙ ap (λ p. tuples_on p key c.args.sorted pool) (sym way)) c.one_run.ensures.ok

pub returns-in-Perfect-clause-ok : goal.returns-in-Perfect-clause-ok
returns-in-Perfect-clause-ok g c =
    let key = ordered c.args.order (g.C.SeriesTrait.value c.args.column.now) in
    let pool = c.args.pool.now in
    let way : column_path key c.args.multithreaded pool ≡ Perfect = sym c.path_of.ensures.path ∙ ap path_value c.in-Perfect.is in
    IfOk-weaker c.group_perfect.result _ _ (λ groups h. h ∙ ap (λ p. tuples_on p key c.args.sorted pool) (sym way)) (c.group_perfect.ensures.ok pool)

pub returns-in-Sorted-clause-ok : goal.returns-in-Sorted-clause-ok
returns-in-Sorted-clause-ok g c =
    let key = ordered c.args.order (g.C.SeriesTrait.value c.args.column.now) in
    let pool = c.args.pool.now in
    let way : column_path key c.args.multithreaded pool ≡ Sorted = sym c.path_of.ensures.path ∙ ap path_value c.in-Sorted.is in
    IfOk-weaker c.group_runs.result _ _ (λ groups h. h ∙ ap (λ p. tuples_on p key c.args.sorted pool) (sym way)) c.group_runs.ensures.ok

pub group_runs-requires-clause-runs : goal.group_runs-requires-clause-runs
group_runs-requires-clause-runs g c =
    let key = ordered c.args.order (g.C.SeriesTrait.value c.args.column.now) in
    let pool = c.args.pool.now in
    runs_told key c.args.multithreaded pool (sym c.path_of.ensures.path ∙ ap path_value c.in-Sorted.is)
