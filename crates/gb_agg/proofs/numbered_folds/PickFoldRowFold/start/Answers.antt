use Rattle.std.proofs.Common.{◌∙◌, arith, refl}
use Rattle.gb_agg.proofs.numbered_folds.PickFoldRowFold.start.Goals as goal

pub returns : goal.returns
returns g c = record {
  some = λ some. absurd (omega (arith, some));
  none = λ none. c.none.ensures.behind;
  picked = c.none.ensures.of_none;
}
