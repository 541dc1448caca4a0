use Rattle.std.proofs.Common.{arith}
use Rattle.gb_paths.proofs.JoinLemmas.{dealt_each, dealt_joined, dealt_members, dealt_within}
use Rattle.gb_paths.proofs.row_partitions.partition_rows.Goals as goal

pub returns-clause-rows : goal.returns-clause-rows
returns-clause-rows g c = λ r hashes.
    dealt_joined c.args.n_partitions c.args.hashes.now c.max-workers.result (omega arith) _ c.in_ok-map_shares.ensures.len (λ k d lt. rw c.len-2.ensures at (c.in_ok-map_shares.ensures.each k d lt).1.0) r.hash hashes.are

pub returns-clause-members : goal.returns-clause-members
returns-clause-members g c =
    dealt_members c.args.n_partitions c.args.hashes.now c.max-workers.result (omega arith) _ c.in_ok-map_shares.ensures.len (λ k d lt. rw c.len-2.ensures at (c.in_ok-map_shares.ensures.each k d lt).1.0)

pub returns-clause-each : goal.returns-clause-each
returns-clause-each g c =
    dealt_each c.args.n_partitions c.args.hashes.now c.max-workers.result (omega arith) _ c.in_ok-map_shares.ensures.len (λ k d lt. rw c.len-2.ensures at (c.in_ok-map_shares.ensures.each k d lt).1.0)

pub returns-clause-within : goal.returns-clause-within
returns-clause-within g c =
    dealt_within c.args.n_partitions c.args.hashes.now c.max-workers.result (omega arith) _ c.in_ok-map_shares.ensures.len (λ k d lt. rw c.len-2.ensures at (c.in_ok-map_shares.ensures.each k d lt).1.0)
