use Rattle.std.proofs.Common.{◌<◌, ◌≤◌, All, arith, length, subst}
use Rattle.std.proofs.lemmas.List.{take_all}
use Rattle.std.proofs.lemmas.List.Elements.{All-more}
use Rattle.gb_defs.specs.Column.{Frame}
use Rattle.gb_rows_tests.proofs.hashes.have_columns.Goals as goal

pub loop-frame-preserved : goal.loop-frame-preserved
loop-frame-preserved c =
    let filled : 0 < length c.frame-item.result = omega (arith, c.width.ensures, c.if-width-eq0.false) in
    All-more (λ (frame : Frame). 0 < length frame) c.args.frames.now c.loop-frame.frame-index c.frame-item.result c.loop-frame-test.true
    c.loop-frame.invariant (subst (λ (frame : Frame). 0 < length frame) c.frame-item.is filled)

pub returns : goal.returns
returns c told =
    let all : length c.args.frames.now ≤ c.loop-frame.frame-index = omega (arith, c.loop-frame-test.false) in
    subst (All (λ (frame : Frame). 0 < length frame)) (take_all c.loop-frame.frame-index c.args.frames.now all) c.loop-frame.invariant
