use Rattle.std.proofs.Common.{◌≡◌, ◌+◌, ◌*◌, map, take}
use Rattle.gb_base.specs.DataType.{fields_of}
use Rattle.gb_defs.specs.Slices.{between}
use Rattle.gb_series.specs.Depth.{depth, fields_depth}
use Rattle.gb_series.specs.Series.{value_of}
use Rattle.gb_series.specs.Structs.{across, field_part}
use Rattle.gb_compare.proofs.+eq_element.Given as goal

abbrev pub decreases-series::SeriesTotalEqInner::eq_element : goal.decreases-series::SeriesTotalEqInner::eq_element
decreases-series::SeriesTotalEqInner::eq_element l = 4 * depth (value_of l.self.now).dtype + 3

abbrev pub decreases-nested::ListChunkedTotalEqInner::eq_element : goal.decreases-nested::ListChunkedTotalEqInner::eq_element
decreases-nested::ListChunkedTotalEqInner::eq_element l = 4 * depth l.self.now.dtype + 2

abbrev pub decreases-nested::ArrayChunkedTotalEqInner::eq_element : goal.decreases-nested::ArrayChunkedTotalEqInner::eq_element
decreases-nested::ArrayChunkedTotalEqInner::eq_element l = 4 * depth l.self.now.dtype + 2

abbrev pub decreases-nested::StructChunkedTotalEqInner::eq_element : goal.decreases-nested::StructChunkedTotalEqInner::eq_element
decreases-nested::StructChunkedTotalEqInner::eq_element l = 4 * depth l.self.now.dtype + 2

abbrev pub decreases-nested::same_pieces : goal.decreases-nested::same_pieces
decreases-nested::same_pieces l = 4 * depth (value_of l.items.now).dtype + 5

abbrev pub decreases-nested::same_items : goal.decreases-nested::same_items
decreases-nested::same_items l = 4 * depth (value_of l.items.now).dtype + 4

abbrev pub decreases-nested::same_across : goal.decreases-nested::same_across
decreases-nested::same_across l = 4 * fields_depth (fields_of (map field_part (map value_of l.fields.now))) + 4

abbrev pub invariant-nested::same_items-loop-place : goal.invariant-nested::same_items-loop-place
invariant-nested::same_items-loop-place l =
    let slots = (value_of l.items).slots in
    between l.a (l.a + l.place) slots ≡ between l.b (l.b + l.place) slots

abbrev pub invariant-nested::same_across-loop-field : goal.invariant-nested::same_across-loop-field
invariant-nested::same_across-loop-field l =
    let front = map value_of (take l.field-index l.fields) in
    across front l.a ≡ across front l.b
