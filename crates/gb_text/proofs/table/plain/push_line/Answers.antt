use Rattle.std.proofs.Common.{◌≢◌, ◌∙◌, ◌<◌, length, get_or, refl, sym, arith, [], ◌++◌, ◌∷◌}
use Rattle.std.proofs.lemmas.List.{get_or_default, get_or-set_other, length-set}
use Rattle.csv.specs.declared.parser.State.TheVariants as st
use Rattle.gb_text.proofs.PlainLemmas.{behind_more, goes_here, rest_ascii}
use Rattle.gb_text.proofs.PushLemmas.{passing_none, passing_more, passing_all}
use Rattle.gb_text.proofs.table.plain.push_line.Goals as goal

pub loop-column-init : goal.loop-column-init
loop-column-init c = record {
  done = [];
  state = st.StartRecord;
  left = c.args.text.now;
  read = refl;
  goes_on = goes_here c.args.text.now;
  passing = passing_none c.args.null_word.now c.args.columns.now;
  roomy = λ k d low lt. c.requires.room k d lt;
  is_ascii = c.requires.ascii;
  behind = record { count = 0; is = refl };
  marked = c.requires.marks;
}

pub push_front-requires-clause-room : goal.push_front-requires-clause-room
push_front-requires-clause-room c = c.loop-column.invariant.roomy c.loop-column.column-index c.column-item.result (omega arith) (omega arith)

pub push_front-requires-clause-ascii : goal.push_front-requires-clause-ascii
push_front-requires-clause-ascii c = c.loop-column.invariant.is_ascii

pub loop-column-preserved : goal.loop-column-preserved
loop-column-preserved c =
    let s = c.loop-column.invariant in
    let now = c.loop-column.columns in
    let column = get_or now c.loop-column.column-index c.column-item.result in
    let lt : c.loop-column.column-index < length now = omega arith in
    let read = rw c.if-ended.false at s.read in
    let front = rw c.in-Some.is at c.in_ok-found.ensures.front in
    let cut = front.cut in
    record {
      done = s.done ++ front.cell ∷ [];
      state = cut.state;
      left = cut.left;
      read = read ∙ cut.reads s.done;
      goes_on = cut.goes_on;
      passing = passing_more c.args.null_word.now c.args.columns.now s.done
          c.loop-column.column-index now s.passing column front.cell lt (get_or_default now c.loop-column.column-index c.column-item.result column lt) c.push_front.new.column (sym front.builds);
      roomy = λ k d low high.
          let other : k ≢ c.loop-column.column-index = omega (arith, low) in
          let below : k < length now = omega (arith, high, length-set now c.loop-column.column-index c.push_front.new.column) in
          rw (get_or-set_other now c.loop-column.column-index k c.push_front.new.column d other) (s.roomy k d (omega (arith, low)) below);
      is_ascii = λ ascii. rest_ascii c.loop-column.left.now front.cell c.in-Some.rest.now c.in-Some.last cut (s.is_ascii ascii);
      behind = behind_more c.args.text.now c.loop-column.left.now c.in-Some.rest.now s.behind cut.behind;
      marked = rw c.in-Some.is at c.in_ok-found.ensures.marks;
    }

pub returns-clause-ok : goal.returns-clause-ok
returns-clause-ok c =
    let s = c.loop-column.invariant in
    record {
      fields = s.done;
      begins = record { state = s.state; left = s.left; reads = rw c.if-not-ended.false at s.read; goes_on = s.goes_on; behind = s.behind };
      takes = λ row. passing_all c.args.null_word.now c.args.columns.now s.done c.loop-column.column-index c.loop-column.columns s.passing row
          (omega arith) (omega arith);
    }

pub returns-clause-ascii : goal.returns-clause-ascii
returns-clause-ascii c = c.loop-column.invariant.is_ascii

pub push_front-requires-clause-marks : goal.push_front-requires-clause-marks
push_front-requires-clause-marks c = c.loop-column.invariant.marked

pub returns-clause-marks : goal.returns-clause-marks
returns-clause-marks c = c.loop-column.invariant.marked
