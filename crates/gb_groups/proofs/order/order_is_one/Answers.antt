use Rattle.gb_groups.proofs.OnceLemmas.{by_first_once}
use Rattle.gb_groups.proofs.order.order_is_one.Goals as goal

pub returns : goal.returns
returns c = by_first_once
