-- Rows of bytes, and that they stand for slots that hold others.
use Rattle.std.proofs.Common.{◌≡◌, ℕ, ◌<◌, [], ◌∷◌, length, map, sym, ◌∙◌, ap, arith}
use Rattle.std.proofs.lemmas.List.{get_or-map, length-map}
use Rattle.std.proofs.lemmas.List.FromFn.{get_or-map-range_with_len, length-map-range_with_len}
use Rattle.std.specs.Int.{w64}
use Rattle.std.specs.List.{range_with_len}
use Rattle.gb_defs.specs.Column.{ColumnValue, Frame, frame_height}
use Rattle.gb_defs.specs.Hash.{hash_of, seed_mix}
use Rattle.gb_defs.specs.Path.{Parts, kind_of}
use Rattle.gb_defs.specs.RowBytes.{row_bytes}
use Rattle.gb_defs.specs.Slot.{Bytes, Nil, slot_at, slot_eq}
use Rattle.gb_defs.proofs.AnswerLemmas.{agree_one}
use Rattle.gb_rows.specs.Rows.{row_slots}
use Rattle.gb_rows.specs.Told.{AreToldByRows}
use Rattle.gb_paths.specs.Keys.{StandFor, hashed_slot}
use Rattle.gb_paths.specs.declared.keys.Keys.TheVariants.{RowBytes}
use Rattle.gb_paths.proofs.KeyFormLemmas.{parts_rows, parts_width}

pub row_at : (keys : Frame) (i : ℕ) → i < frame_height keys → slot_at (row_slots keys) i ≡ Bytes (row_bytes keys i)
row_at keys i lt =
    get_or-map (λ bytes. Bytes bytes) (map (row_bytes keys) (range_with_len 0 (frame_height keys))) i [] Nil (omega (arith, lt, length-map-range_with_len (row_bytes keys) 0 (frame_height keys)))
    ∙ ap (λ bytes. Bytes bytes) (get_or-map-range_with_len (row_bytes keys) 0 (frame_height keys) i i [] lt (omega arith))

pub rows_many : (keys : Frame) → length (row_slots keys) ≡ frame_height keys
rows_many keys = length-map (map (row_bytes keys) (range_with_len 0 (frame_height keys))) (λ bytes. Bytes bytes) ∙ length-map-range_with_len (row_bytes keys) 0 (frame_height keys)

-- the rows of one key that holds others stand for it
pub rows_stand_for : (column rows : ColumnValue) → kind_of column.dtype ≡ Parts → rows.slots ≡ row_slots (column ∷ []) → AreToldByRows (column ∷ []) → StandFor column (RowBytes rows)
rows_stand_for column rows parts same told =
    let key = column ∷ [] in
    let at : (i : ℕ) → i < length column.slots → slot_at rows.slots i ≡ Bytes (row_bytes key i) = λ i lt. ap (λ ss. slot_at ss i) same ∙ row_at key i lt in
    record {
      rows = λ seed. record {
        many = ap length same ∙ rows_many key;
        agree = λ i j low high.
            ap (λ f. f i j) (sym (agree_one column.slots))
            ∙ sym (told.same i j low high)
            ∙ sym (ap (λ s. slot_eq s (slot_at rows.slots j)) (at i low) ∙ ap (λ s. slot_eq (Bytes (row_bytes key i)) s) (at j high));
        hashed = λ i lt.
            ap (λ w. hash_of w seed seed_mix (hashed_slot column.dtype column i)) (parts_width column.dtype parts)
            ∙ ap (hash_of w64 seed seed_mix) (parts_rows column parts i ∙ sym (at i lt));
      };
      kind = parts;
    }
