use Rattle.std.proofs.Common.{◌+◌, arith, sym, length-drop}
use Rattle.std.proofs.lemmas.List.{take_rest}
use Rattle.gb_rows.proofs.ZeroLemmas.{ended_at, ended_whole}
use Rattle.gb_rows.proofs.row_buffer.split_at_zero.Goals as goal

pub returns-in-None-clause-none : goal.returns-in-None-clause-none
returns-in-None-clause-none c = ended_whole c.args.bytes.now (sym c.in-None.ensures.first)

pub returns-in-Some-clause-some : goal.returns-in-Some-clause-some
returns-in-Some-clause-some c =
    let bytes = c.args.bytes.now in
    rw (take_rest bytes (c.in-Some.place + 1)) (record {
      ended = ended_at bytes c.in-Some.place (sym c.in-Some.ensures.first);
      shorter = omega (arith, c.in-Some.ensures.inside, length-drop (c.in-Some.place + 1) bytes);
    })
