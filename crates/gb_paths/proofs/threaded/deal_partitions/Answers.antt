use Rattle.std.proofs.Common.{arith, ◌∙◌, ap}
use Rattle.gb_defs.proofs.PartitionLemmas.{map_flat_map}
use Rattle.gb_flat.proofs.RangeLemmas.{ranges_joined}
use Rattle.gb_groups.specs.Groups.{pairs_of}
use Rattle.gb_paths.specs.Numbers.{groups_among}
use Rattle.gb_paths.specs.Partitions.{groups_of_parts, list_joined}
use Rattle.gb_paths.proofs.threaded.deal_partitions.Goals as goal

pub returns-clause-ok : goal.returns-clause-ok
returns-clause-ok g c =
    let rows = g.R.KeyRows.rows c.args.rows.now in
    let made = c.in_ok-made.made.items in
    ap groups_of_parts c.in_ok-join_shares.ensures ∙ map_flat_map (λ part. pairs_of part.items) (λ share. share.items) made
    ∙ ranges_joined (λ share. groups_of_parts share.items) (λ partition. groups_among rows (list_joined c.args.shares.now partition)) c.args.n_partitions c.max-workers.result made (omega arith) c.in_ok-made.ensures.len (λ k d lt. (c.in_ok-made.ensures.each k d lt).1.0)
