use Rattle.gb_logical.proofs.CategoryLemmas.{sliced_codes}
use Rattle.gb_logical.proofs.categorical.CategoricalChunkedSeriesTrait.slice.Goals as goal

pub invariant_of-result : goal.invariant_of-result
invariant_of-result c = rw (c.in_ok-try_clone.ensures, c.in_ok-slice.ensures.ok) (sliced_codes c.self.invariant _ c.args.len)
