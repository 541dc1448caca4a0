use Rattle.std.proofs.Common.{rules, subst, sym}
use Rattle.std.proofs.lemmas.Option.{IfSome_then}
use Rattle.std.proofs.lemmas.Result.{IfOk-weaker}
use Rattle.gb_base.specs.Pool.{seed_of}
use Rattle.gb_defs.specs.Groups.{HasRowNumbers}
use Rattle.gb_series.specs.Series.{value_of}
use Rattle.gb_paths.specs.Keys.{HasNoValues, StandFor}
use Rattle.gb_paths.proofs.PackLemmas.{form_numbered}
use Rattle.gb_paths.proofs.number_several.number_key.Goals as goal

pub unreachable-requires : goal.unreachable-requires
unreachable-requires g c =
    let none : HasNoValues (value_of c.args.key.now) = rw c.in-None.is at c.in_ok-keys.ensures.ok in
    c.requires.valued none.kind

pub number_form-requires : goal.number_form-requires
number_form-requires g c =
    let stand : StandFor (value_of c.args.key.now) c.in-Some.keys = rw c.in-Some.is at c.in_ok-keys.ensures.ok in
    (search rules, subst HasRowNumbers (sym (stand.rows (seed_of c.args.pool.now)).many) c.requires.few)

pub returns-clause-ok : goal.returns-clause-ok
returns-clause-ok g c =
    let stand : StandFor (value_of c.args.key.now) c.in-Some.keys = rw c.in-Some.is at c.in_ok-keys.ensures.ok in
    IfOk-weaker c.number_form.result _ _ (λ found h. IfSome_then found h (λ numbers are.
    form_numbered (seed_of c.args.pool.now) (value_of c.args.key.now) c.in-Some.keys stand numbers are)) c.number_form.ensures.ok
