use Rattle.std.proofs.Common.{◌<◌, ◌≤◌, arith, length}
use Rattle.std.proofs.lemmas.Bool.Decides.{nat_tests}
use Rattle.csv.specs.Records.{fields_of}
use Rattle.gb_text.proofs.StreamLemmas.{header_at, header_within}
use Rattle.gb_text.proofs.table.blocks.start_of.Goals as goal

pub overflow_sub-lines : goal.overflow_sub-lines
overflow_sub-lines c =
    let begins = rw c.in-Some.is at c.in_ok-header.ensures in
    header_within c.args.held.now c.without_mark-text.result.now (fields_of c.in-Some.header) c.in-Some.rest.now c.without_mark-text.ensures begins

pub returns-in-Ok : goal.returns-in-Ok
returns-in-Ok c =
    let bytes = c.args.held.now in
    let text = c.without_mark-text.result.now in
    let rest = c.in-Some.rest.now in
    let begins = rw c.in-Some.is at c.in_ok-header.ensures in
    let some : 0 < length text = grind (arith, nat_tests, c.if-is_empty.ensures) in
    let behind : 0 < length rest = grind (arith, nat_tests, c.if-is_empty-2.ensures) in
    let within : length rest ≤ length bytes = header_within bytes text (fields_of c.in-Some.header) rest c.without_mark-text.ensures begins in
    record {
      long = omega (arith, c.if-held-lt3.false);
      inside = omega (arith, behind, within);
      headed = header_at bytes text (fields_of c.in-Some.header) rest c.without_mark-text.ensures begins some c.if-is_line_end.ensures.no;
      columns_are = c.in-Ok.ensures.ok;
    }
