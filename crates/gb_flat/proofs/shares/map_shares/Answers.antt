use Rattle.std.proofs.Common.{arith, ◌<◌, ◌∙◌, length, ap, slice_index_or, Ok}
use Rattle.std.proofs.lemmas.List.{length-map, get_or-map}
use Rattle.gb_flat.proofs.ShareLemmas.{ranges_count, range_inside, range_read, err_of}
use Rattle.gb_flat.proofs.shares.map_shares.Goals as goal

pub map_vec-requires-after_bounds : goal.map_vec-requires-after_bounds
map_vec-requires-after_bounds g c κs within = λ i x lt at.
    let long = ap length c.in_ok-shares.ensures.ok ∙ ranges_count c.args.len c.args.workers in
    let inside : i < c.args.workers = omega (arith, lt, long) in
    let is = range_read c.args.len c.args.workers c.in_ok-shares.shares.items c.in_ok-shares.ensures.ok i x inside at in
    c.requires.accepts x (rw (← is) (range_inside c.args.len c.args.workers i inside))

pub all_ok-requires : goal.all_ok-requires
all_ok-requires g c = record {
  lacks = λ k d lt.
      let each = (c.in_ok-made.ensures.each k d (omega (arith, lt, c.in_ok-made.ensures.len))).1 in
      err_of _ (λ e at. c.requires.lacks each.job e (rw (← at) each.call.met));
}

pub returns-clause-len : goal.returns-clause-len
returns-clause-len g c =
    let long = ap length c.in_ok-shares.ensures.ok ∙ ranges_count c.args.len c.args.workers in
    let whole = ap length c.in_ok-all.ensures.ok ∙ length-map c.in_ok-all.all.items _ in
    omega (arith, long, whole, c.in_ok-made.ensures.len)

pub returns-clause-each : goal.returns-clause-each
returns-clause-each g c = λ k d lt.
    let long = ap length c.in_ok-shares.ensures.ok ∙ ranges_count c.args.len c.args.workers in
    let whole = ap length c.in_ok-all.ensures.ok ∙ length-map c.in_ok-all.all.items _ in
    let each = (c.in_ok-made.ensures.each k (Ok d) (omega (arith, lt, long))).1 in
    let is = range_read c.args.len c.args.workers c.in_ok-shares.shares.items c.in_ok-shares.ensures.ok k each.job lt each.job_read in
    let one = ap (λ rs. slice_index_or rs k (Ok d)) c.in_ok-all.ensures.ok ∙ get_or-map (λ x. Ok x) c.in_ok-all.all.items k d (Ok d) (omega (arith, lt, long, whole, c.in_ok-made.ensures.len)) in
    rw (is, ← one) each.call.met
