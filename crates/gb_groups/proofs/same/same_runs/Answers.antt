use Rattle.std.proofs.Common.{arith, ◌<◌, [], length, get_or}
use Rattle.gb_groups.proofs.SameLemmas.{run_long, run_start, runs_told}
use Rattle.gb_groups.proofs.same.same_runs.Goals as goal
use Rattle.gb_groups.proofs.same.same_runs.Goals.{then-run-other-via-then-run-other, then-run-other-via-else-run-other+then-run-other-2}

pub returns-then-run-other : goal.returns-then-run-other
returns-then-run-other c = (
  λ e. cc,
  λ e.
      let other_lt : c.loop-place.place < length c.args.others.now = omega arith in
      let run = get_or c.args.runs.now c.loop-place.place [] in
      let other = get_or c.args.others.now c.loop-place.place [] in
      let told = runs_told c.args.runs.now c.args.others.now c.loop-place.place [] c.loop-place-test.true other_lt e in
      elim c.then-run-other.branch [
        | then-run-other-via-then-run-other w ↦ absurd (w.if-run-other.true (run_start run other told))
        | then-run-other-via-else-run-other+then-run-other-2 w ↦ absurd (w.if-run-other-2.true (run_long run other told))
      ],
)
