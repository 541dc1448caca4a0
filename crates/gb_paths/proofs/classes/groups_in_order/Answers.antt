use Rattle.std.proofs.Common.{◌∙◌}
use Rattle.std.proofs.lemmas.Result.{IfOk-weaker}
use Rattle.gb_defs.specs.Classes.{rows_below}
use Rattle.gb_base.specs.Pool.{seed_of}
use Rattle.gb_paths.specs.Keys.{rows_of_keys}
use Rattle.gb_paths.specs.Numbering.{AreNumbersAmong}
use Rattle.gb_paths.proofs.PartLemmas.{numbers_path}
use Rattle.gb_paths.proofs.classes.groups_in_order.Goals as goal

pub number_keys-requires-clause-few : goal.number_keys-requires-clause-few
number_keys-requires-clause-few g c κs within =
    let seed = c.new-single.ensures.seed ∙ c.seed.ensures in
    rw seed c.requires.few

pub returns-clause-ok : goal.returns-clause-ok
returns-clause-ok g c path =
    let rows = rows_of_keys (seed_of c.args.pool.now) c.args.keys.now in
    let seed = c.new-single.ensures.seed ∙ c.seed.ensures in
    let are : AreNumbersAmong rows (rows_below rows.count) c.in_ok-numbers.numbers = rw seed at c.in_ok-numbers.ensures.ok in
    IfOk-weaker c.into_groups.result _ _ (λ made h. h ∙ (numbers_path rows path c.args.pool.now c.in_ok-numbers.numbers are).groups) c.into_groups.ensures.ok
