use Rattle.std.proofs.Common.{◌≡◌, ◌+◌, ◌*◌, map, take}
use Rattle.gb_base.specs.DataType.{fields_of}
use Rattle.gb_series.specs.Depth.{depth, fields_depth}
use Rattle.gb_series.specs.Series.{value_of}
use Rattle.gb_series.specs.Structs.{field_part}
use Rattle.gb_rows.specs.Cells.{cells_of}
use Rattle.gb_rows.specs.Keys.{key_cells}
use Rattle.gb_rows.proofs.keys.+encode.Given as goal

abbrev pub decreases-encode_keys : goal.decreases-encode_keys
decreases-encode_keys l = 4 * fields_depth (fields_of (map field_part (map value_of l.keys.now))) + 3

abbrev pub decreases-all_cells : goal.decreases-all_cells
decreases-all_cells l = 4 * fields_depth (fields_of (map field_part (map value_of l.keys.now))) + 2

abbrev pub decreases-cells_of_key : goal.decreases-cells_of_key
decreases-cells_of_key l = 4 * depth (value_of l.key.now).dtype + 1

abbrev pub decreases-list_cells : goal.decreases-list_cells
decreases-list_cells l = 4 * depth l.column.now.dtype

abbrev pub decreases-array_cells : goal.decreases-array_cells
decreases-array_cells l = 4 * depth l.column.now.dtype

abbrev pub decreases-struct_cells : goal.decreases-struct_cells
decreases-struct_cells l = 4 * depth l.column.now.dtype

-- the cells of the keys so far
abbrev pub invariant-all_cells-loop-key : goal.invariant-all_cells-loop-key
invariant-all_cells-loop-key l = map key_cells l.made.items ≡ map cells_of (map value_of (take l.key-index l.keys))
