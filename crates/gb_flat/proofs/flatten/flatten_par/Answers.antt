use Rattle.std.proofs.Common.{◌∙◌, ℕ, List, length, subst, sym, arith}
use Rattle.gb_flat.specs.Shares.{DealsOut}
use Rattle.gb_flat.proofs.FillLemmas.{ranges_deal}
use Rattle.gb_flat.proofs.flatten.flatten_par.Goals as goal

pub fill_shares-requires-clause-dealt : goal.fill_shares-requires-clause-dealt
fill_shares-requires-clause-dealt g c κs within =
    let shares = c.deref.ensures.value ∙ c.in_ok-shares.ensures.ok in
    subst (λ (shares : List (ℕ × ℕ)). DealsOut shares (length c.args.bufs.now)) (sym shares) (ranges_deal (length c.args.bufs.now) c.min-workers.result (omega arith) (omega arith))
