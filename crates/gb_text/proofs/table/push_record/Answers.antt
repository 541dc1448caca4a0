use Rattle.std.proofs.Common.{◌≡◌, ◌≢◌, ◌∙◌, ◌<◌, length, get_or, sym, arith}
use Rattle.std.proofs.lemmas.List.{get_or_default, get_or-set_other, length-set}
use Rattle.csv.specs.Records.{fields_of}
use Rattle.gb_text.proofs.PushLemmas.{columns_ragged, field_some, text_at, passing_none, pushing_bad, pushing_more, pushing_all}
use Rattle.gb_text.proofs.table.push_record.Goals as goal

pub returns-then-found-wanted-clause-err : goal.returns-then-found-wanted-clause-err
returns-then-found-wanted-clause-err c =
    let ragged = columns_ragged c.args.null_word.now c.args.row c.args.columns.now (fields_of c.args.fields.now) (λ e. c.if-found-wanted.true (c.len-found.ensures ∙ e)) in
    rw c.len-found.ensures ragged

pub unreachable-requires : goal.unreachable-requires
unreachable-requires c =
    field_some (fields_of c.args.fields.now) c.loop-place.place (omega (arith, c.len-found.ensures, c.if-found-wanted.false, c.loop-place-test.true)) c.in_default.ensures.value

pub loop-place-init : goal.loop-place-init
loop-place-init c = record {
  passing = passing_none c.args.null_word.now c.args.columns.now;
  roomy = λ k d low lt. c.requires.room k d lt;
}

pub push_cell-requires : goal.push_cell-requires
push_cell-requires c =
    record {
      room = c.loop-place.invariant.roomy c.loop-place.place c.index-columns-place.result (omega arith) (omega arith);
      is_text = λ ascii. text_at (fields_of c.args.fields.now) c.loop-place.place c.in-Some.cell.now (c.is_ascii-is_text.ensures ascii) (sym c.in-Some.ensures.value);
    }

pub returns-then-not-branch-clause-err : goal.returns-then-not-branch-clause-err
returns-then-not-branch-clause-err c =
    let now = c.loop-place.columns in
    let column = get_or now c.loop-place.place c.index-columns-place.result in
    let lt : c.loop-place.place < length now = omega arith in
    let bad = rw c.if-not-branch.true at c.in_ok-push_cell.ensures in
    let long : length (fields_of c.args.fields.now) ≡ length c.args.columns.now = sym c.len-found.ensures ∙ c.if-found-wanted.false in
    pushing_bad c.args.null_word.now c.args.columns.now (fields_of c.args.fields.now) c.loop-place.place now c.loop-place.invariant.passing
    column c.in-Some.cell.now lt (get_or_default now c.loop-place.place c.index-columns-place.result column lt) (sym c.in-Some.ensures.value) c.args.row long (sym bad)

pub loop-place-preserved : goal.loop-place-preserved
loop-place-preserved c =
    let now = c.loop-place.columns in
    let column = get_or now c.loop-place.place c.index-columns-place.result in
    let lt : c.loop-place.place < length now = omega arith in
    let good = rw c.if-not-branch.false at c.in_ok-push_cell.ensures in
    record {
      passing = pushing_more c.args.null_word.now c.args.columns.now (fields_of c.args.fields.now)
          c.loop-place.place now c.loop-place.invariant.passing column c.in-Some.cell.now lt (get_or_default now c.loop-place.place c.index-columns-place.result column lt) (sym c.in-Some.ensures.value) c.push_cell.new.self (sym good);
      roomy = λ k d low high.
          let other : k ≢ c.loop-place.place = omega (arith, low) in
          let below : k < length now = omega (arith, high, length-set now c.loop-place.place c.push_cell.new.self) in
          rw (get_or-set_other now c.loop-place.place k c.push_cell.new.self d other) (c.loop-place.invariant.roomy k d (omega (arith, low)) below);
    }

pub returns-clause-ok : goal.returns-clause-ok
returns-clause-ok c =
    let now = c.loop-place.columns in
    pushing_all c.args.null_word.now c.args.columns.now (fields_of c.args.fields.now) c.loop-place.place now c.loop-place.invariant.passing
    (omega (arith, c.len-found.ensures, c.if-found-wanted.false)) c.args.row (omega arith) (omega arith)
