use Rattle.std.specs.Int.{w128}
use Rattle.std.proofs.lemmas.Int.{wrapping_add_is}
use Rattle.gb_numbers.proofs.numeric.i128.I128Native.add_wrapped.Goals as goal

pub returns : goal.returns
returns c = wrapping_add_is w128 c.args.self c.args.other c.ranges.self c.ranges.other
