use Rattle.std.proofs.Common.{arith, ◌∙◌, ap, map}
use Rattle.gb_defs.proofs.PartitionLemmas.{map_flat_map}
use Rattle.gb_flat.proofs.RangeLemmas.{ranges_joined}
use Rattle.gb_paths.specs.Leaders.{led, led_by}
use Rattle.gb_paths.specs.Partitions.{list_joined}
use Rattle.gb_paths.proofs.number_partitions.lead_partitions.Goals as goal

pub returns-clause-ok : goal.returns-clause-ok
returns-clause-ok g c =
    let rows = g.R.KeyRows.rows c.args.rows.now in
    let made = c.in_ok-made.made.items in
    ap (map led) c.in_ok-join_shares.ensures ∙ map_flat_map led (λ share. share.items) made
    ∙ ranges_joined (λ share. map led share.items) (λ partition. led_by rows (list_joined c.args.shares.now partition)) c.args.partitions c.max-workers.result made (omega arith) c.in_ok-made.ensures.len (λ k d lt. (c.in_ok-made.ensures.each k d lt).1.0)
