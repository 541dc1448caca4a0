use Rattle.std.proofs.Common.{◌≡◌, ◌≤◌, ◌++◌, ◌∷◌, ◌+◌, ◌*◌, map, take}
use Rattle.gb_base.specs.DataType.{fields_of}
use Rattle.gb_defs.specs.CellText.{parts_text}
use Rattle.gb_defs.specs.ColumnType.{ListOf}
use Rattle.gb_defs.specs.Slices.{between}
use Rattle.gb_defs.specs.Slot.{items_of}
use Rattle.gb_series.specs.Depth.{depth, fields_depth}
use Rattle.gb_series.specs.Series.{value_of}
use Rattle.gb_series.specs.Structs.{across, field_part, struct_type}
use Rattle.gb_series.proofs.+write_cell.Given as goal

abbrev pub decreases-series::SeriesSeriesTrait::write_cell : goal.decreases-series::SeriesSeriesTrait::write_cell
decreases-series::SeriesSeriesTrait::write_cell l = 4 * depth (value_of l.self.now).dtype + 3

abbrev pub decreases-nested::list::ListChunkedSeriesTrait::write_cell : goal.decreases-nested::list::ListChunkedSeriesTrait::write_cell
decreases-nested::list::ListChunkedSeriesTrait::write_cell l = 4 * depth l.self.now.dtype + 2

abbrev pub decreases-nested::array::ArrayChunkedSeriesTrait::write_cell : goal.decreases-nested::array::ArrayChunkedSeriesTrait::write_cell
decreases-nested::array::ArrayChunkedSeriesTrait::write_cell l = 4 * depth l.self.now.dtype + 2

abbrev pub decreases-nested::structs::StructChunkedSeriesTrait::write_cell : goal.decreases-nested::structs::StructChunkedSeriesTrait::write_cell
decreases-nested::structs::StructChunkedSeriesTrait::write_cell l = 4 * depth l.self.now.dtype + 2

abbrev pub decreases-nested::text::write_item : goal.decreases-nested::text::write_item
decreases-nested::text::write_item l = 4 * depth (value_of l.items.now).dtype + 4

abbrev pub decreases-nested::text::write_items : goal.decreases-nested::text::write_items
decreases-nested::text::write_items l = 4 * depth (value_of l.items.now).dtype + 5

abbrev pub decreases-nested::text::write_fields : goal.decreases-nested::text::write_fields
decreases-nested::text::write_fields l = 4 * fields_depth (fields_of (map field_part (map value_of l.fields.now.items))) + 5

abbrev pub invariant-nested::text::write_items-loop-place : goal.invariant-nested::text::write_items-loop-place
invariant-nested::text::write_items-loop-place l =
    let items = value_of l.items in record {
      text : l.to.items ≡ l.fn.to.items ++ (91 ∷ parts_text (ListOf items.dtype) 0 (items_of (between l.start l.place items.slots)));
      low : l.start ≤ l.place;
      high : l.place ≤ l.end;
    }

abbrev pub invariant-nested::text::write_fields-loop-place : goal.invariant-nested::text::write_fields-loop-place
invariant-nested::text::write_fields-loop-place l =
    l.to.items ≡ l.fn.to.items ++ (91 ∷ parts_text (struct_type (map value_of l.fields.items)) 0 (items_of (across (map value_of (take l.place l.fields.items)) l.row)))
