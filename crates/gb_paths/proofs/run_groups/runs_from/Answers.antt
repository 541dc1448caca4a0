use Rattle.std.proofs.Common.{◌∙◌, List, ℕ, ap, false}
use Rattle.gb_groups.specs.Slices.{slice_groups}
use Rattle.gb_runs.specs.Codes.{rows_in}
use Rattle.gb_runs.specs.Runs.{runs_to}
use Rattle.gb_runs.proofs.RunLemmas.{runs_are_groups, runs_fit, starts_fit}
use Rattle.gb_paths.proofs.TupleLemmas.{slots_together}
use Rattle.gb_paths.proofs.run_groups.runs_from.Goals as goal

pub runs_between-requires : goal.runs_between-requires
runs_between-requires g c =
    let slots = (g.C.SeriesTrait.value c.args.column.now).slots in
    rw (c.len-count.ensures.value) (starts_fit (rows_in slots) (slots_together slots c.requires.together) _ c.requires.starts)

pub from_vec-requires : goal.from_vec-requires
from_vec-requires g c =
    let slots = (g.C.SeriesTrait.value c.args.column.now).slots in
    let rows = rows_in slots in
    rw (c.in_ok-runs.ensures, c.len-count.ensures.value) (runs_fit rows.count _ c.requires.few (starts_fit rows (slots_together slots c.requires.together) _ c.requires.starts))

pub returns-clause-ok : goal.returns-clause-ok
returns-clause-ok g c =
    let slots = (g.C.SeriesTrait.value c.args.column.now).slots in
    let rows = rows_in slots in
    ap (λ (runs : List (List ℕ)). slice_groups runs false) (c.from_vec.ensures ∙ c.in_ok-runs.ensures ∙ ap (runs_to _) c.len-count.ensures.value)
    ∙ runs_are_groups rows (slots_together slots c.requires.together) _ c.requires.starts
