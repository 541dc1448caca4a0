use Rattle.std.proofs.Common.{◌≡◌, ◌∙◌, ◌+◌, suc, Some, sym, ap, true, arith}
use Rattle.std.specs.List.{list_any}
use Rattle.std.specs.Str.{bytes_eq}
use Rattle.csv.specs.Records.{fields_of}
use Rattle.gb_defs.specs.Table.{Head}
use Rattle.gb_base.specs.DataType.{type_of}
use Rattle.gb_text.specs.Asked.{is_asked, names_in}
use Rattle.gb_text.specs.Head.{readable_field}
use Rattle.gb_base.proofs.NameLemmas.{held, unheld}
use Rattle.gb_text.proofs.HeaderLemmas.{header_start, header_end, header_unread, header_repeated, header_more}
use Rattle.gb_text.proofs.table.header.columns_of_header.Goals as goal

pub loop-field-init : goal.loop-field-init
loop-field-init c =
    let start = c.into_iter-field-iterator.ensures.into_iter_gives in (
      tt,
      tt,
      record {
        same = start.0;
        made = rw start.1 (header_start (is_asked (names_in c.args.names.now)) (fields_of c.args.header.now) c.in_ok-columns.columns.items c.new-seen.result
            c.in_ok-columns.ensures.items c.new-seen.ensures);
      },
    )

pub returns-in_default-clause-err : goal.returns-in_default-clause-err
returns-in_default-clause-err c =
    let inv = c.loop-field.invariant.2 in
    let read = rw inv.same at (sym c.in-Some.ensures.steps.1) in
    let place : c.len-in-loop-field.result + 1 ≡ suc c.loop-field.field-iterator.at = omega (arith, inv.made.count) in
    rw place (header_unread (is_asked (names_in c.args.names.now)) (fields_of c.args.header.now) c.loop-field.field-iterator.at c.loop-field.columns.items c.loop-field.seen inv.made c.in-Some.field.now read
    (sym c.in_default.ensures.value))

pub returns-then-not-branch-clause-err : goal.returns-then-not-branch-clause-err
returns-then-not-branch-clause-err c =
    let inv = c.loop-field.invariant.2 in
    let read = rw inv.same at (sym c.in-Some.ensures.steps.1) in
    let head : Head = record { name = c.in-Some-read_field.name.now; dtype = type_of c.in-Some-read_field.dtype } in
    let known : list_any (bytes_eq c.in-Some-read_field.name.now) c.loop-field.seen ≡ true = held _ _ c.in_ok-insert.ensures.new c.if-not-branch.true in
    let place : c.len-in-loop-field.result + 1 ≡ suc c.loop-field.field-iterator.at = omega (arith, inv.made.count) in
    rw place (header_repeated (is_asked (names_in c.args.names.now)) (fields_of c.args.header.now) c.loop-field.field-iterator.at c.loop-field.columns.items c.loop-field.seen inv.made c.in-Some.field.now read
    head (sym c.in-Some-read_field.ensures.value) known)

pub loop-field-preserved : goal.loop-field-preserved
loop-field-preserved c =
    let inv = c.loop-field.invariant.2 in
    let steps = c.in-Some.ensures.steps in
    let read = rw inv.same at (sym steps.1) in
    let head : Head = record { name = c.in-Some-read_field.name.now; dtype = type_of c.in-Some-read_field.dtype } in
    let is : readable_field c.in-Some.field.now ≡ Some head = sym c.in-Some-read_field.ensures.value in
    let fresh = unheld (list_any (bytes_eq c.in-Some-read_field.name.now) c.loop-field.seen) _ c.in_ok-insert.ensures.new c.if-not-branch.false in
    let more = header_more (is_asked (names_in c.args.names.now)) (fields_of c.args.header.now) c.loop-field.field-iterator.at c.loop-field.columns.items c.loop-field.seen inv.made c.in-Some.field.now read
    head is c.insert.new.self fresh c.in_ok-insert.ensures.names in
    let asked : c.contains-keeps.result ≡ is_asked (names_in c.args.names.now) head.name = c.contains-keeps.ensures ∙ c.in_ok-asked.ensures head.name in
    let items = c.in_ok-push.ensures.items in (
      tt,
      tt,
      record {
        same = ap (λ r. r.now) steps.0 ∙ inv.same;
        made = rw (steps.2, items, c.in_ok-empty_column.ensures, asked) more;
      },
    )

pub returns-clause-ok : goal.returns-clause-ok
returns-clause-ok c =
    let inv = c.loop-field.invariant.2 in
    let past = rw inv.same at c.in-None.ensures.steps.1 in
    header_end (is_asked (names_in c.args.names.now)) (fields_of c.args.header.now) c.loop-field.field-iterator.at c.loop-field.columns.items c.loop-field.seen inv.made past
