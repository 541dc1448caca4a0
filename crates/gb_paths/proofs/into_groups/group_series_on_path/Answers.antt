use Rattle.std.proofs.Common.{◌≡◌, ◌∙◌, ap, sym}
use Rattle.std.proofs.lemmas.Result.{IfOk-weaker}
use Rattle.gb_defs.specs.Path.{Sorted}
use Rattle.gb_series.specs.Series.{value_of}
use Rattle.gb_paths.specs.Tuples.{column_path, ordered, path_value, tuples_on}
use Rattle.gb_paths.proofs.ChoiceLemmas.{runs_told}
use Rattle.gb_paths.proofs.into_groups.group_series_on_path.Goals as goal

pub returns-in-Sorted-clause-ok : goal.returns-in-Sorted-clause-ok
returns-in-Sorted-clause-ok g c =
    let key = ordered c.args.order (value_of c.args.key.now) in
    let pool = c.args.pool.now in
    let way : column_path key c.args.multithreaded pool ≡ Sorted = sym c.path_of.ensures.path ∙ ap path_value c.in-Sorted.is in
    IfOk-weaker c.group_runs_threaded.result _ _ (λ groups h. h ∙ ap (λ p. tuples_on p key c.args.sorted pool) (sym way)) c.group_runs_threaded.ensures.ok

pub group_runs_threaded-requires-clause-runs : goal.group_runs_threaded-requires-clause-runs
group_runs_threaded-requires-clause-runs g c κs within =
    let key = ordered c.args.order (value_of c.args.key.now) in
    runs_told key c.args.multithreaded c.args.pool.now (sym c.path_of.ensures.path ∙ ap path_value c.in-Sorted.is)
