use Rattle.std.proofs.Common.{arith}
use Rattle.gb_groups.proofs.NumberLemmas.{all_at}
use Rattle.gb_groups.proofs.row_lists.AllRowsMembers.row_at.Goals as goal

pub overflow_cast-result : goal.overflow_cast-result
overflow_cast-result c =
    let at = all_at c.args.self.now.count c.args.place c.requires in
    omega (arith, at.0, c.args.self.now.few)

pub returns : goal.returns
returns c = (all_at c.args.self.now.count c.args.place c.requires).1
