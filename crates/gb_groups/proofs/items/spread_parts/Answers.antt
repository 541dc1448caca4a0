use Rattle.std.proofs.Common.{◌≡◌, ◌∙◌, ℕ, ◌<◌, List, length, map, slice_index_or, subst, sym, ap, arith, Vec, Global}
use Rattle.std.proofs.lemmas.List.{length-map}
use Rattle.smallvec.specs.SmallVec.{SmallVec}
use Rattle.gb_defs.specs.Flat.{ranges_of, starts_from}
use Rattle.gb_flat.specs.Shares.{DealsOut}
use Rattle.gb_flat.proofs.FillLemmas.{first_start, ranges_deal}
use Rattle.gb_groups.proofs.items.spread_parts.Goals as goal

pub move_shares-requires-clause-dealt : goal.move_shares-requires-clause-dealt
move_shares-requires-clause-dealt g c κs within =
    let ranges = ranges_of c.len.result c.args.workers in
    let shares : c.deref.result.now ≡ ranges = c.deref.ensures.value ∙ c.in_ok-shares.ensures.ok in
    let count : c.len.result ≡ length c.as_mut_slice.result.now = omega arith in
    let dealt : DealsOut ranges c.len.result = ranges_deal c.len.result c.args.workers (omega arith) (omega arith) in
    let dealt_all : DealsOut ranges (length c.as_mut_slice.result.now) = subst (λ (n : ℕ). DealsOut ranges n) count dealt in
    subst (λ (shares : List (ℕ × ℕ)). DealsOut shares (length c.as_mut_slice.result.now)) (sym shares) dealt_all

pub move_shares-requires-clause-starts : goal.move_shares-requires-clause-starts
move_shares-requires-clause-starts g c κs within =
    let lengths : List ℕ = map {A = Vec (ℕ × SmallVec ℕ) Global} (λ part. length part.items) c.as_mut_slice.result.now in
    let starts : c.args.starts.now ≡ starts_from 0 lengths = c.requires.starts ∙ ap (λ (parts : List (Vec (ℕ × SmallVec ℕ) Global)). starts_from 0 (map (λ part. length part.items) parts)) (sym c.as_mut_slice.ensures.value) in
    let some : 0 < length lengths = rw (length-map c.as_mut_slice.result.now _) (omega arith) in
    starts ∙ ap (λ s. starts_from s lengths) (sym (ap (λ ss. slice_index_or ss 0 0) starts ∙ first_start 0 lengths some))
