use Rattle.gb_defs.specs.ColumnType.{Flat, Binary}
use Rattle.gb_compare.proofs.PlacedLemmas.{bytes_ordered}
use Rattle.gb_compare.proofs.total_ord.RefSliceU8TotalOrd.tot_cmp.Goals as goal

pub returns : goal.returns
returns c = bytes_ordered (Flat Binary) c.args.self.now.now c.args.other.now.now c.cmp.result c.cmp.ensures
