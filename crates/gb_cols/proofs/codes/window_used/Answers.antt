use Rattle.std.proofs.Common.{◌≡◌, List, Bool, false, replicate, subst, sym}
use Rattle.gb_cols.specs.Codes.{HasMarked}
use Rattle.gb_cols.proofs.CodeLemmas.{marks_tell}
use Rattle.gb_cols.proofs.codes.window_used.Goals as goal

pub returns : goal.returns
returns g c =
    let marked : HasMarked c.args.first c.args.codes.now.slots (replicate 16384 false) c.mark_all.new.marks =
    subst (λ (old : List Bool). HasMarked c.args.first c.args.codes.now.slots old c.mark_all.new.marks) c.as_mut_slice.ensures.value c.mark_all.ensures in
    marks_tell c.args.first c.args.count 16384 c.args.codes.now.slots c.mark_all.new.marks c.all_marked.result c.requires.fits marked c.all_marked.ensures
