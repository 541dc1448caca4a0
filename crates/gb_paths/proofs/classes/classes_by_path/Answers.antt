use Rattle.std.proofs.Common.{◌∙◌}
use Rattle.std.proofs.lemmas.Result.{IfOk-weaker}
use Rattle.gb_base.specs.Pool.{seed_of}
use Rattle.gb_paths.specs.Keys.{StandFor}
use Rattle.gb_paths.proofs.TupleLemmas.{keys_grouped}
use Rattle.gb_paths.proofs.classes.classes_by_path.Goals as goal

pub returns-clause-ok : goal.returns-clause-ok
returns-clause-ok g c =
    let column = g.C.SeriesTrait.value c.args.column.now in
    let stand : StandFor column c.in-Some.keys = rw c.in-Some.is at c.in_ok-keys.ensures.ok in
    IfOk-weaker c.classes_of_keys.result _ _ (λ groups h. h ∙ keys_grouped column c.in-Some.keys c.args.path c.args.sorted c.args.pool.now stand) c.classes_of_keys.ensures.ok

pub classes_of_keys-requires-clause-few : goal.classes_of_keys-requires-clause-few
classes_of_keys-requires-clause-few g c κs within =
    let column = g.C.SeriesTrait.value c.args.column.now in
    let stand : StandFor column c.in-Some.keys = rw c.in-Some.is at c.in_ok-keys.ensures.ok in
    rw (stand.rows (seed_of c.args.pool.now)).many c.requires.few

pub returns-clause-all : goal.returns-clause-all
returns-clause-all g c =
    let column = g.C.SeriesTrait.value c.args.column.now in
    let stand : StandFor column c.in-Some.keys = rw c.in-Some.is at c.in_ok-keys.ensures.ok in
    rw (stand.rows (seed_of c.args.pool.now)).many at c.classes_of_keys.ensures.all
