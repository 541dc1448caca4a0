use Rattle.std.proofs.Common.{◌≤◌, ◌<◌, arith, length, sym}
use Rattle.gb_agg.proofs.PickLemmas.{picks_first, picks_later}
use Rattle.gb_agg.proofs.numbered_folds.PickFoldRowFold.with_row.Goals as goal
