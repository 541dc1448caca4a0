use Rattle.std.proofs.Common.{◌++◌, ◌∷◌, [], false, ap, ◌∙◌}
use Rattle.gb_groups.specs.Slices.{slice_groups}
use Rattle.gb_paths.proofs.RunLemmas.{no_run, one_run, run_formed}
use Rattle.gb_paths.proofs.into_groups.one_run.Goals as goal
use Rattle.gb_paths.proofs.into_groups.one_run.Goals.{then-rows-gt0+in_ok-push, else-rows-gt0}

pub returns-clause-ok : goal.returns-clause-ok
returns-clause-ok c = elim c.if-rows-gt0.branch [
  | then-rows-gt0+in_ok-push w ↦
      let runs = c.from_vec.ensures ∙ ap (λ v. v.items) w.runs-is ∙ w.in_ok-push.ensures.items ∙ ap (λ rs. rs ++ (0 ∷ c.args.rows ∷ []) ∷ []) c.new-runs.ensures.items in
      ap (λ rs. slice_groups rs false) runs ∙ one_run c.args.rows w.if-rows-gt0.true
  | else-rows-gt0 w ↦
      let runs = c.from_vec.ensures ∙ ap (λ v. v.items) w.runs-is ∙ c.new-runs.ensures.items in
      ap (λ rs. slice_groups rs false) runs ∙ no_run c.args.rows w.if-rows-gt0.false
]

pub returns-clause-formed : goal.returns-clause-formed
returns-clause-formed c = run_formed c.args.rows c.from_vec.result (returns-clause-ok c)
