use Rattle.std.proofs.Common.{refl}
use Rattle.gb_agg.proofs.FoldingLemmas.{no_category_sums}
use Rattle.gb_agg.proofs.group_sums.CategoricalChunkedGroupSums.group_sums.Goals as goal

pub returns-clause-ok : goal.returns-clause-ok
returns-clause-ok g c = rw (no_category_sums c.args.self.now.dtype _ c.get_rev_map.ensures) refl
