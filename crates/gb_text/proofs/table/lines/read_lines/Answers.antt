use Rattle.std.proofs.Common.{◌≡◌, ◌<◌, length, drop, refl, arith}
use Rattle.std.proofs.lemmas.List.{length-drop, take_at, take_rest}
use Rattle.gb_text.proofs.LinesLemmas.{behind_at, part_blank, part_more, part_one, part_roomy, part_start}
use Rattle.gb_text.proofs.MarkLemmas.{no_marks}
use Rattle.gb_text.proofs.PlainLemmas.{behind_more}
use Rattle.gb_text.proofs.table.lines.read_lines.Goals as goal

pub loop-init : goal.loop-init
loop-init c =
    let text = c.args.text.now in
    rw (take_rest text c.args.from) (record {
      part = λ names header e. part_start names c.args.null_word.now header (drop c.args.from text) c.args.columns.items e;
      behind = record { count = c.args.from; is = refl };
      marked = no_marks (drop c.args.from text);
    })

pub returns-then-left-behind : goal.returns-then-left-behind
returns-then-left-behind c = λ names header e.
    let text = c.args.text.now in
    let s = c.loop.invariant in
    let here = behind_at text c.loop.left.now c.args.to s.behind c.requires.to (omega arith) in
    part_one names c.args.null_word.now header (drop c.args.from text) (drop c.args.to text) c.loop.columns.items (rw here at (s.part names header e))

pub push_line-requires-clause-room : goal.push_line-requires-clause-room
push_line-requires-clause-room c =
    let text = c.args.text.now in
    let t = c.requires.start in
    rw c.deref_mut.ensures.value (part_roomy t.names c.args.null_word.now t.header (drop c.args.from text) c.loop.left.now c.loop.columns.items (c.loop.invariant.part t.names t.header t.start)
    (omega (arith, c.requires.few, length-drop c.args.from text)))

pub loop-preserved-then-is_line_end : goal.loop-preserved-then-is_line_end
loop-preserved-then-is_line_end c =
    let text = c.args.text.now in
    let s = c.loop.invariant in
    let left = c.loop.left.now in
    let some : 0 < length left = omega arith in
    rw (take_rest left 1) (record {
      part = λ names header e. part_blank names c.args.null_word.now header (drop c.args.from text) left c.loop.columns.items (s.part names header e) some c.if-is_line_end.ensures.yes;
      behind = behind_more text left (drop 1 left) s.behind (record { count = 1; is = refl });
      marked = no_marks (drop 1 left);
    })

pub loop-preserved : goal.loop-preserved
loop-preserved c =
    let text = c.args.text.now in
    let s = c.loop.invariant in
    let line = rw (c.in-Some.is, c.deref_mut.ensures.value) at c.in_ok-found.ensures.ok in
    let first = c.if-is_line_end.ensures.no in
    let some : 0 < length c.loop.left.now = omega arith in
    let new = c.push_line.new.columns in
    let long : length new ≡ c.loop.columns.len = omega arith in
    rw (take_at new (drop (length new) c.loop.columns.items) c.loop.columns.len long) (record {
      part = λ names header e. part_more names c.args.null_word.now header (drop c.args.from text) c.loop.left.now c.loop.columns.items (s.part names header e) new c.in-Some.rest.now some first.0 first.1 line;
      behind = behind_more text c.loop.left.now c.in-Some.rest.now s.behind line.begins.behind;
      marked = rw c.in-Some.is at c.in_ok-found.ensures.marks;
    })

pub push_line-requires-clause-marks : goal.push_line-requires-clause-marks
push_line-requires-clause-marks c = c.loop.invariant.marked
