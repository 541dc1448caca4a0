use Rattle.std.proofs.Common.{arith, ◌-◌}
use Rattle.std.proofs.lemmas.Bool.{le-leb, leb-true}
use Rattle.gb_groups.specs.Slices.{length_of, start_of}
use Rattle.gb_groups.proofs.FitLemmas.{run_fits, run_within}
use Rattle.gb_groups.proofs.fits.run_fits.Goals as goal

pub returns-then-start-n : goal.returns-then-start-n
returns-then-start-n c =
    let start = start_of c.args.slice in
    let len = length_of c.args.slice in (
      λ e.
          let within = leb-true len (c.args.n - start) e in
          run_fits c.args.n start len (omega arith) (omega (arith, within)),
      λ fits.
          let within = run_within c.args.n start len fits in
          le-leb len (c.args.n - start) (omega (arith, within)),
    )
