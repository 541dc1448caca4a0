use Rattle.gb_paths.specs.Tuples.{ordered}
use Rattle.gb_paths.proofs.FormLemmas.{tuples_formed}
use Rattle.gb_paths.proofs.into_groups.group_column.Goals as goal

pub returns-clause-formed : goal.returns-clause-formed
returns-clause-formed g c =
    let key = ordered c.args.order (g.C.SeriesTrait.value c.args.column.now) in
    rw c.in_ok-groups.ensures.ok (tuples_formed key c.args.multithreaded c.args.sorted c.args.pool.now)
