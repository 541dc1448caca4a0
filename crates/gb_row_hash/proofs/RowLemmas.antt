-- The hashes of rows, column by column.
use Rattle.std.proofs.Common.{◌≡◌, ◌∙◌, ℕ, zero, suc, ◌+◌, ◌<◌, true, None, Some, Option, List, [], ◌∷◌, length, get_or, map, drop, refl, sym, ap, arith}
use Rattle.std.specs.List.{range_with_len}
use Rattle.std.specs.Option.{option_or}
use Rattle.std.proofs.lemmas.List.{drop_more, ext_get_or, get_or-map, length-map}
use Rattle.std.proofs.lemmas.List.FromFn.{get_or-map-range_with_len, length-map-range_with_len}
use Rattle.gb_defs.specs.Column.{ColumnValue, Frame, all_have_length, frame_height}
use Rattle.gb_defs.specs.Fault.{Fault, key_fault}
use Rattle.gb_defs.specs.Hash.{cell_hash, combine_of, hash_behind, row_hash}
use Rattle.gb_defs.specs.Slot.{Nil}
use Rattle.gb_series.proofs.FrameLemmas.{long_test}
use Rattle.gb_row_hash.specs.Hashes.{combine_each, combined_all, combined_hashes, slot_hash, slot_hashes}
use Rattle.gb_row_hash.specs.Rows.{first_frame_fault, first_key_fault, row_hashes}
use Rattle.gb_row_hash.proofs.CombineLemmas.{combine_length}

-- ---- hashes by row

each_at : (f : ℕ → ℕ → ℕ) (hs rs : List ℕ) (row : ℕ) → row < length hs → row < length rs → get_or (combine_each f hs rs) row 0 ≡ f (get_or hs row 0) (get_or rs row 0)
each_at f [] rs row low inside = absurd (omega (arith, low))
each_at f (h ∷ hs) [] row low inside = absurd (omega (arith, inside))
each_at f (h ∷ hs) (r ∷ rs) zero low inside = refl
each_at f (h ∷ hs) (r ∷ rs) (suc row) low inside = each_at f hs rs row (omega (arith, low)) (omega (arith, inside))

module _ (seed : ℕ) (mix : ℕ → ℕ) where
  slot_at_row : (c : ColumnValue) (row : ℕ) → row < length c.slots → get_or (slot_hashes seed mix c) row 0 ≡ cell_hash seed mix row c
  slot_at_row c row lt = get_or-map (slot_hash c.dtype seed mix) c.slots row Nil 0 lt

  all_length : (cs : Frame) (before : List ℕ) → length (combined_all seed mix cs before) ≡ length before
  all_length [] before = refl
  all_length (c ∷ cs) before = all_length cs (combined_hashes seed mix c before) ∙ combine_length (combine_of c.dtype) (slot_hashes seed mix c) before

  all_at : (cs : Frame) (before : List ℕ) (row : ℕ) → all_have_length (length before) cs ≡ true → row < length before
      → get_or (combined_all seed mix cs before) row 0 ≡ hash_behind seed mix row (get_or before row 0) cs
  all_at [] before row long lt = refl
  all_at (c ∷ cs) before row long lt =
      let next = combined_hashes seed mix c before in
      let same : length next ≡ length before = combine_length (combine_of c.dtype) (slot_hashes seed mix c) before in
      let (high, rest) = long_test (length before) c cs long in
      let inside : row < length c.slots = omega (arith, high, lt) in
      let here : get_or next row 0 ≡ combine_of c.dtype (cell_hash seed mix row c) (get_or before row 0) =
      each_at (combine_of c.dtype) (slot_hashes seed mix c) before row (omega (arith, inside, length-map c.slots (slot_hash c.dtype seed mix))) lt
      ∙ ap (λ h. combine_of c.dtype h (get_or before row 0)) (slot_at_row c row inside) in
      all_at cs next row (ap (λ n. all_have_length n cs) same ∙ rest) (omega (arith, same, lt)) ∙ ap (λ r. hash_behind seed mix row r cs) here

  -- the first column's hashes, with those of the others put to them, are the rows' hashes
  pub rows_hashed : (c : ColumnValue) (cs : Frame) → all_have_length (length c.slots) (c ∷ cs) ≡ true → combined_all seed mix cs (slot_hashes seed mix c) ≡ row_hashes seed mix (c ∷ cs)
  rows_hashed c cs long =
      let first = slot_hashes seed mix c in
      let count : length first ≡ length c.slots = length-map c.slots (slot_hash c.dtype seed mix) in
      let many : length (combined_all seed mix cs first) ≡ length c.slots = all_length cs first ∙ count in
      let rest : all_have_length (length first) cs ≡ true = ap (λ n. all_have_length n cs) count ∙ (long_test (length c.slots) c cs long).1 in
      ext_get_or 0 (combined_all seed mix cs first) (row_hashes seed mix (c ∷ cs)) (many ∙ sym (length-map-range_with_len (row_hash seed mix (c ∷ cs)) 0 (length c.slots)))
      (λ row lt.
      let inside : row < length c.slots = omega (arith, lt, many) in
      all_at cs first row rest (omega (arith, inside, count)) ∙ ap (λ h. hash_behind seed mix row h cs) (slot_at_row c row inside)
      ∙ sym (get_or-map-range_with_len (row_hash seed mix (c ∷ cs)) 0 (length c.slots) row row 0 inside (omega arith)))

-- ---- columns in turn

no_first : (a b : Option Fault) → option_or a b ≡ None → a ≡ None
no_first None b none = refl
no_first (Some x) b none = cc

no_second : (a b : Option Fault) → option_or a b ≡ None → b ≡ None
no_second None b none = none
no_second (Some x) b none = cc

module _ {S : Type 0} (value : S → ColumnValue) (keys : List S) (i : ℕ) (key : S) (lt : i < length keys) (is : key ≡ get_or keys i key) where
  left_is : map value (drop i keys) ≡ value key ∷ map value (drop (i + 1) keys)
  left_is = ap (map value) (drop_more keys i key lt ∙ ap (λ k. k ∷ drop (i + 1) keys) (sym is))

  -- the next column and those behind it have a length
  pub next_long : (n : ℕ) → all_have_length n (map value (drop i keys)) ≡ true → (length (value key).slots ≡ n) × (all_have_length n (map value (drop (i + 1) keys)) ≡ true)
  next_long n long = long_test n (value key) (map value (drop (i + 1) keys)) (sym (ap (all_have_length n) left_is) ∙ long)

  -- and hashes
  pub next_fits : first_key_fault (map value (drop i keys)) ≡ None → key_fault (value key) ≡ None
  next_fits none = no_first (key_fault (value key)) (first_key_fault (map value (drop (i + 1) keys))) (sym (ap first_key_fault left_is) ∙ none)

  pub others_fit : first_key_fault (map value (drop i keys)) ≡ None → first_key_fault (map value (drop (i + 1) keys)) ≡ None
  others_fit none = no_second (key_fault (value key)) (first_key_fault (map value (drop (i + 1) keys))) (sym (ap first_key_fault left_is) ∙ none)

  -- with those behind it the hashes come to the same
  pub next_combined : (seed : ℕ) (mix : ℕ → ℕ) (before after : List ℕ) → after ≡ combined_hashes seed mix (value key) before
      → combined_all seed mix (map value (drop (i + 1) keys)) after ≡ combined_all seed mix (map value (drop i keys)) before
  next_combined seed mix before after made =
      ap (combined_all seed mix (map value (drop (i + 1) keys))) made ∙ sym (ap (λ (cs : Frame). combined_all seed mix cs before) left_is)

-- ---- frames

-- no frame has a column without hashes
pub frames_fit : (frames : List Frame) → first_frame_fault frames ≡ None → (k : ℕ) (d : Frame) → k < length frames → first_key_fault (get_or frames k d) ≡ None
frames_fit [] none k d lt = absurd (omega (arith, lt))
frames_fit (frame ∷ frames) none zero d lt = no_first (first_key_fault frame) (first_frame_fault frames) none
frames_fit (frame ∷ frames) none (suc k) d lt = frames_fit frames (no_second (first_key_fault frame) (first_frame_fault frames) none) k d (omega (arith, lt))
