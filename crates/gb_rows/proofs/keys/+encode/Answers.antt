use Rattle.std.proofs.Common.{◌≡◌, ◌-◌, ◌≤◌, ◌∷◌, [], All, List, ℕ, length, map, ap, arith, subst, sym, ◌∙◌}
use Rattle.std.specs.List.{range_with_len}
use Rattle.gb_defs.specs.RowBytes.{row_bytes}
use Rattle.gb_series.specs.Series.{value_of}
use Rattle.gb_series.proofs.FieldLemmas.{depth_read}
use Rattle.gb_rows.specs.Keys.{key_cells}
use Rattle.gb_rows.specs.Rows.{rows_of_cells}
use Rattle.gb_rows.proofs.KeyLemmas.{array_told, fields_told, list_told}
use Rattle.gb_rows.proofs.RowLemmas.{cells_long, one_key, rows_are}
use Rattle.gb_rows.proofs.keys.+encode.Goals as goal

pub all_cells-cells_of_key-requires : goal.all_cells-cells_of_key-requires
all_cells-cells_of_key-requires t c = (omega (arith, c.decreases, depth_read value_of c.args.keys.now c.loop-key.key-index c.key-item.result c.loop-key-test.true c.key-item.is), tt)

pub list_cells-cells_of_items-requires : goal.list_cells-cells_of_items-requires
list_cells-cells_of_items-requires t c =
    let items = value_of c.items_by_row.result.0.now in
    let rows : ℕ → List (List ℕ) = λ n. map (row_bytes (items ∷ [])) (range_with_len 0 n) in
    let held = c.in_ok-held.ensures.ok ∙ ap (λ l. map (row_bytes (map value_of l)) (range_with_len 0 c.len.result)) c.from_ref.ensures.value ∙ ap rows c.len.ensures.value ∙ one_key items in
    list_told c.args.column.now items.dtype items.slots c.items_by_row.result.1.now c.in_ok-held.held c.items_by_row.ensures.typed c.items_by_row.ensures.rows held

pub array_cells-cells_of_items-requires : goal.array_cells-cells_of_items-requires
array_cells-cells_of_items-requires t c =
    let items = value_of c.items_by_row.result.0.now in
    let rows : ℕ → List (List ℕ) = λ n. map (row_bytes (items ∷ [])) (range_with_len 0 n) in
    let held = c.in_ok-held.ensures.ok ∙ ap (λ l. map (row_bytes (map value_of l)) (range_with_len 0 c.len.result)) c.from_ref.ensures.value ∙ ap rows c.len.ensures.value ∙ one_key items in
    array_told c.args.column.now items.dtype _ items.slots c.items_by_row.result.1.now c.in_ok-held.held c.items_by_row.ensures.typed c.items_by_row.ensures.rows held

pub struct_cells-cells_of_fields-requires : goal.struct_cells-cells_of_fields-requires
struct_cells-cells_of_fields-requires t c =
    let fields = map value_of c.fields.result.now in
    let held = c.in_ok-held.ensures.ok ∙ ap (λ n. map (row_bytes fields) (range_with_len 0 n)) c.len.ensures.value in
    fields_told c.args.column.now fields c.in_ok-held.held c.fields.ensures held

pub encode_keys-encode-requires-clause-long : goal.encode_keys-encode-requires-clause-long
encode_keys-encode-requires-clause-long t c =
    let keys = map value_of c.args.keys.now in
    let cells = ap (map key_cells) c.deref.ensures.value ∙ c.in_ok-cells.ensures.ok in
    subst (λ (columns : List (List (List ℕ))). All (λ (cells : List (List ℕ)). c.args.count ≤ length cells) columns) (sym cells) (cells_long keys c.args.count c.requires)

pub encode_keys-returns-clause-ok : goal.encode_keys-returns-clause-ok
encode_keys-returns-clause-ok t c =
    let keys = map value_of c.args.keys.now in
    let count = c.args.count in
    let cells = ap (map key_cells) c.deref.ensures.value ∙ c.in_ok-cells.ensures.ok in
    let size : count - 0 ≡ count = omega arith in
    c.in_ok-rows.ensures.ok ∙ ap (rows_of_cells 0 count) cells ∙ rows_are keys 0 count (omega arith) c.requires ∙ ap (λ n. map (row_bytes keys) (range_with_len 0 n)) size
