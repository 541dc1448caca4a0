use Rattle.std.proofs.Common.{arith, ◌∙◌, length}
use Rattle.gb_paths.proofs.GatherLemmas.{hashes_read}
use Rattle.gb_paths.proofs.MemberLemmas.{members_more}
use Rattle.gb_paths.proofs.gathered_rows.GatheredRows.new.Goals as goal

pub read_keys-requires-clause-inside : goal.read_keys-requires-clause-inside
read_keys-requires-clause-inside g c κs within = (members_more (length (g.H.RowHashes.hashes c.args.hashes.now)) (g.R.KeyRows.rows c.args.rows.now).count _ (omega (arith, c.requires.hashes.within)) c.requires.members).below

pub invariant_of-result-clause-inside : goal.invariant_of-result-clause-inside
invariant_of-result-clause-inside g c = members_more (length (g.H.RowHashes.hashes c.args.hashes.now)) (g.R.KeyRows.rows c.args.rows.now).count _ (omega (arith, c.requires.hashes.within)) c.requires.members

pub invariant_of-result-clause-hashed : goal.invariant_of-result-clause-hashed
invariant_of-result-clause-hashed g c = c.in_ok-hashes.ensures ∙ hashes_read (g.R.KeyRows.rows c.args.rows.now) (g.H.RowHashes.hashes c.args.hashes.now) c.args.members.now c.requires.hashes c.requires.members
