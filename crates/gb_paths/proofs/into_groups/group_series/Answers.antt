use Rattle.gb_series.specs.Series.{value_of}
use Rattle.gb_paths.specs.Tuples.{ordered}
use Rattle.gb_paths.proofs.FormLemmas.{tuples_formed}
use Rattle.gb_paths.proofs.into_groups.group_series.Goals as goal

pub returns-clause-formed : goal.returns-clause-formed
returns-clause-formed g c =
    let key = ordered c.args.order (value_of c.args.key.now) in
    rw c.in_ok-groups.ensures.ok (tuples_formed key c.args.multithreaded c.args.sorted c.args.pool.now)
