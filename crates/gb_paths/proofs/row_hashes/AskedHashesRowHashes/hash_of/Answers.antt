use Rattle.std.proofs.Common.{arith}
use Rattle.gb_paths.proofs.HashLemmas.{asked_hash, below_long}
use Rattle.gb_paths.proofs.row_hashes.AskedHashesRowHashes.hash_of.Goals as goal

pub hash_at-requires : goal.hash_at-requires
hash_at-requires g c =
    let rows = g.R.KeyRows.rows c.args.self.now.rows.now in
    omega (arith, c.requires, below_long rows)

pub returns : goal.returns
returns g c = asked_hash (g.R.KeyRows.rows c.args.self.now.rows.now) c.args.row _ c.requires c.hash_at.ensures
