use Rattle.std.proofs.Common.{◌∙◌, sym}
use Rattle.gb_base.specs.Sorted.{flag_of}
use Rattle.gb_runs.proofs.TogetherLemmas.{flagged_together}
use Rattle.gb_paths.proofs.path.byte_path_of.Goals as goal

pub returns-then-is_whole-clause-together : goal.returns-then-is_whole-clause-together
returns-then-is_whole-clause-together g c =
    let column = g.C.SeriesTrait.value c.args.column.now in
    λ e. flagged_together column.dtype (flag_of c.args.order.sorted) column.slots (sym c.is_flagged.ensures ∙ c.if-is_flagged.true) c.requires.holds c.len-rows.ensures.fitting
