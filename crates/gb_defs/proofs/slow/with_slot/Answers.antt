use Rattle.std.proofs.Common.{FitsSigned, w64, rules}
use Rattle.std.proofs.lemmas.Int.{wrapping_add_is}
use Rattle.gb_defs.proofs.slow.with_slot.Goals as goal

pub returns-in-Some : goal.returns-in-Some
returns-in-Some c =
    let fits : FitsSigned w64 c.in-Some.value = search rules in
    rw c.in-Some.is (record { value = wrapping_add_is w64 c.args.sum c.in-Some.value c.ranges.sum fits })
