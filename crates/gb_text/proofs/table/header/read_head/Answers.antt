use Rattle.std.proofs.Common.{sym, arith}
use Rattle.gb_base.specs.DataType.{type_of}
use Rattle.gb_text.proofs.HeadLemmas.{plain_head, colon_head, typed_head, whole_head}
use Rattle.gb_text.proofs.table.header.read_head.Goals as goal

pub returns-in_default-clause-value : goal.returns-in_default-clause-value
returns-in_default-clause-value c = sym (plain_head c.args.field.now c.in_default.ensures.cases)

pub returns-in-Some-dtype_of-clause-value : goal.returns-in-Some-dtype_of-clause-value
returns-in-Some-dtype_of-clause-value c =
    let s = c.in-Some.ensures.cases in
    let cut = colon_head c.args.field.now c.in-Some.name.now c.in-Some.word.now s.0 s.1 s.2.0 s.2.1 s.3 s.4 (omega (arith, s.7)) in
    sym (typed_head c.args.field.now c.in-Some.name.now c.in-Some.word.now cut (type_of c.in-Some-dtype_of.dtype) c.in-Some-dtype_of.ensures.value)

pub returns-in-None-clause-value : goal.returns-in-None-clause-value
returns-in-None-clause-value c =
    let s = c.in-Some.ensures.cases in
    let cut = colon_head c.args.field.now c.in-Some.name.now c.in-Some.word.now s.0 s.1 s.2.0 s.2.1 s.3 s.4 (omega (arith, s.7)) in
    sym (whole_head c.args.field.now c.in-Some.name.now c.in-Some.word.now cut c.in-None.ensures.value)
