use Rattle.gb_table.proofs.TextTableLemmas.{none_there}
use Rattle.gb_table.proofs.text_table.TextTable.new.Goals as goal

pub invariant_of-result : goal.invariant_of-result
invariant_of-result c = rw (c.new.ensures.items, c.new-2.ensures.items, c.new-3.ensures) (none_there c.args.seed)
