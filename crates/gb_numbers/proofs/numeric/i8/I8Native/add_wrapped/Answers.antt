use Rattle.std.proofs.Common.{w8}
use Rattle.std.proofs.lemmas.Int.{wrapping_add_is}
use Rattle.gb_numbers.proofs.numeric.i8.I8Native.add_wrapped.Goals as goal

pub returns : goal.returns
returns c = wrapping_add_is w8 c.args.self c.args.other c.ranges.self c.ranges.other
