use Rattle.gb_groups.proofs.SliceLemmas.{fit_rises, rises_fit}
use Rattle.gb_groups.proofs.groups_slice.GroupsSlice.slices_fit.Goals as goal

pub loop-slice-init : goal.loop-slice-init
loop-slice-init c = record { there = fit_rises c.args.slices.now; back = rises_fit c.args.slices.now }
