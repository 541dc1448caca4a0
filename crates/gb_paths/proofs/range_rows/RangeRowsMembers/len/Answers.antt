use Rattle.std.proofs.Common.{sym}
use Rattle.std.proofs.lemmas.List.FromFn.{length-range_with_len}
use Rattle.gb_paths.proofs.range_rows.RangeRowsMembers.len.Goals as goal

pub returns : goal.returns
returns c = sym (length-range_with_len c.args.self.now.start c.args.self.now.count)
