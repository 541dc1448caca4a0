use Rattle.std.proofs.Common.{arith, ◌∙◌, Vec, Global, ap, length}
use Rattle.std.specs.Fn.{FnReturns}
use Rattle.gb_groups.proofs.WorkerLemmas.{held_joined}
use Rattle.gb_groups.proofs.by_workers.map_places.Goals as goal

pub returns-clause-len : goal.returns-clause-len
returns-clause-len g c =
    let held = held_joined (λ k x. FnReturns g.F.Fn c.args.f.now (k, tt) x) (λ (part : Vec g.row.X.Denot Global). part.items) c.args.count c.min-workers.result c.in_ok-made.made.items (omega (arith, c.if-workers-lt2.false)) c.in_ok-made.ensures.len
    (λ k d lt. record { long = (c.in_ok-made.ensures.each k d lt).1.0; each = (c.in_ok-made.ensures.each k d lt).1.1 }) in
    ap length c.in_ok-join_shares.ensures ∙ held.long

pub returns-clause-each : goal.returns-clause-each
returns-clause-each g c =
    let held = held_joined (λ k x. FnReturns g.F.Fn c.args.f.now (k, tt) x) (λ (part : Vec g.row.X.Denot Global). part.items) c.args.count c.min-workers.result c.in_ok-made.made.items (omega (arith, c.if-workers-lt2.false)) c.in_ok-made.ensures.len
    (λ k d lt. record { long = (c.in_ok-made.ensures.each k d lt).1.0; each = (c.in_ok-made.ensures.each k d lt).1.1 }) in
    rw c.in_ok-join_shares.ensures held.each
