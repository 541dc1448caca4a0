-- Rows that are made in parts, and joined.
use Rattle.std.proofs.Common.{◌≡◌, ◌∙◌, ◌+◌, ◌-◌, ◌<◌, ◌≤◌, ◌^◌, ℕ, zero, suc, Bool, cond, List, [], ◌∷◌, ◌++◌, length, map, take, drop, get_or, refl, sym, ap, subst, arith, append_assoc, length-append}
use Rattle.std.specs.List.{flat_map, range_with_len}
use Rattle.std.proofs.lemmas.List.{append-nil, get_or-map, length-map, same_lists}
use Rattle.std.proofs.lemmas.List.FromFn.{get_or-map-range_with_len, length-map-range_with_len, length-range_with_len}
use Rattle.gb_defs.specs.Column.{ColumnValue}
use Rattle.gb_defs.specs.Flat.{range_at, ranges_of}
use Rattle.gb_defs.specs.Slot.{Slot, Bytes, Nil}
use Rattle.gb_cols.specs.Column.{appended}
use Rattle.gb_values.specs.Array.{flagged_slots}
use Rattle.gb_flat.proofs.RangeLemmas.{range_between}
use Rattle.gb_flat.proofs.ShareLemmas.{range_inside, ranges_count, shares_joined}
use Rattle.gb_rows.specs.Rows.{full_of_cells, is_full, row_of_cells, rows_of_cells}
use Rattle.gb_rows.proofs.RowLemmas.{map_twice}
use Rattle.gb_rows.specs.Parts.{AreRowChunks, in_parts, joined_chunks, row_column, with_behind}

-- rows by their numbers, each with its flag
flagged_range : (row : ℕ → List ℕ) (full : ℕ → Bool) (start n : ℕ)
    → flagged_slots (map (λ bytes. Bytes bytes) (map row (range_with_len start n))) (map full (range_with_len start n)) ≡ map (λ r. cond (full r) (Bytes (row r)) Nil) (range_with_len start n)
flagged_range row full start zero = refl
flagged_range row full start (suc n) = ap (λ slots. cond (full start) (Bytes (row start)) Nil ∷ slots) (flagged_range row full (start + 1) n)

-- the rows of a share, and the same with nulls for those that are not full
module _ (columns : List (List (List ℕ))) (start count : ℕ) (rows : List (List ℕ)) (are : rows ≡ rows_of_cells start (start + count) columns) where
  counted : start + count - start ≡ count
  counted = omega arith

  pub share_encoded : map (λ bytes. Bytes bytes) rows ≡ map (λ r. Bytes (row_of_cells columns r)) (range_with_len start count)
  share_encoded = ap (map (λ bytes. Bytes bytes)) are ∙ sym (map_twice (λ bytes. Bytes bytes) (row_of_cells columns) (range_with_len start (start + count - start))) ∙ ap (λ n. map (λ r. Bytes (row_of_cells columns r)) (range_with_len start n)) counted

  pub share_broadcast : (full : List Bool) → full ≡ full_of_cells start (start + count) columns
      → flagged_slots (map (λ bytes. Bytes bytes) rows) full ≡ map (λ r. cond (is_full columns r) (Bytes (row_of_cells columns r)) Nil) (range_with_len start count)
  share_broadcast full which =
      ap (λ l. flagged_slots (map (λ bytes. Bytes bytes) l) full) are
      ∙ ap (flagged_slots (map (λ bytes. Bytes bytes) (rows_of_cells start (start + count) columns))) which
      ∙ flagged_range (row_of_cells columns) (is_full columns) start (start + count - start)
      ∙ ap (λ n. map (λ r. cond (is_full columns r) (Bytes (row_of_cells columns r)) Nil) (range_with_len start n)) counted

-- ---- a chunk for each range

module _ (f : ℕ → Slot) (height m : ℕ) (made : List ColumnValue) (some : 1 ≤ m) (long : length made ≡ m)
    (each : (k : ℕ) (d : ColumnValue) → k < m → get_or made k d ≡ row_column (map f (range_with_len (range_at height m k).0 (range_at height m k).1))) where
  slots_each : (k : ℕ) (d : ColumnValue) → k < m → (get_or made k d).slots ≡ map f (range_with_len (range_at height m k).0 (range_at height m k).1)
  slots_each k d lt = ap (λ (c : ColumnValue). c.slots) (each k d lt)

  pub parts_slots : flat_map (λ c. c.slots) made ≡ map f (range_with_len 0 height)
  parts_slots = shares_joined (λ (c : ColumnValue). c.slots) f (range_with_len 0 height) m made some long (λ k d lt.
      slots_each k d lt ∙ ap (map f) (sym (range_between height (range_at height m k).0 (range_at height m k).1 (range_inside height m k lt)))
      ∙ ap (λ l. map f (take (range_at l m k).1 (drop (range_at l m k).0 (range_with_len 0 height)))) (sym (length-range_with_len 0 height)))

  parts_lengths : map (λ c. length c.slots) made ≡ map (λ range. range.1) (ranges_of height m)
  parts_lengths =
      let lengths = map (λ c. length c.slots) made in
      let counted : length lengths ≡ m = length-map made (λ c. length c.slots) ∙ long in
      let dealt : length (map (λ range. range.1) (ranges_of height m)) ≡ m = length-map (ranges_of height m) (λ range. range.1) ∙ ranges_count height m in
      same_lists lengths (map (λ range. range.1) (ranges_of height m)) (counted ∙ sym dealt) (λ k d less.
      let lt : k < m = omega (arith, less, counted) in
      let range = range_at height m k in
      get_or-map (λ c. length c.slots) made k (row_column []) d (omega (arith, lt, long))
      ∙ ap length (slots_each k (row_column []) lt) ∙ length-map-range_with_len f range.0 range.1
      ∙ sym (get_or-map (λ range. range.1) (ranges_of height m) k (0, 0) d (omega (arith, lt, ranges_count height m)) ∙ ap (λ (r : ℕ × ℕ). r.1) (get_or-map-range_with_len (range_at height m) 0 m k k (0, 0) lt (omega arith))))

  pub parts_joined : joined_chunks made ≡ in_parts m height (map f (range_with_len 0 height))
  parts_joined =
      ap (λ slots. record (row_column slots) { chunks = map (λ c. length c.slots) made }) parts_slots
      ∙ ap (λ lengths. record (row_column (map f (range_with_len 0 height))) { chunks = lengths }) parts_lengths

  pub parts_small : length (flat_map (λ c. c.slots) made) ≡ height
  parts_small = ap length parts_slots ∙ length-map-range_with_len f 0 height

  pub parts_are_chunks : AreRowChunks made
  parts_are_chunks = λ k d lt.
      let is = each k d (omega (arith, lt, long)) in
      is ∙ ap (λ slots. row_column slots) (sym (ap (λ (c : ColumnValue). c.slots) is))

-- ---- chunks behind each other

-- those that are left
behind_all : (slots : List Slot) (chunks : List ℕ) (others : List ColumnValue) → AreRowChunks others
    → with_behind (record (row_column slots) { chunks = chunks }) others ≡ record (row_column (slots ++ flat_map (λ c. c.slots) others)) { chunks = chunks ++ map (λ c. length c.slots) others }
behind_all slots chunks [] each = ap (λ l. record (row_column l) { chunks = chunks }) (sym (append-nil slots)) ∙ ap (λ l. record (row_column (slots ++ [])) { chunks = l }) (sym (append-nil chunks))
behind_all slots chunks (c ∷ cs) each =
    let rest = flat_map (λ c. c.slots) cs in
    let lengths = map (λ c. length c.slots) cs in
    let here : c ≡ row_column c.slots = each 0 c (omega arith) in
    ap (λ o. with_behind (appended (record (row_column slots) { chunks = chunks }) o) cs) here
    ∙ behind_all (slots ++ c.slots) (chunks ++ length c.slots ∷ []) cs (λ k d lt. each (suc k) d (omega (arith, lt)))
    ∙ ap (λ l. record (row_column l) { chunks = (chunks ++ length c.slots ∷ []) ++ lengths }) (append_assoc slots c.slots rest)
    ∙ ap (λ l. record (row_column (slots ++ (c.slots ++ rest))) { chunks = l }) (append_assoc chunks (length c.slots ∷ []) lengths)

-- the first chunk with the others behind it
behind_first : (first : ColumnValue) (others : List ColumnValue) → AreRowChunks (first ∷ others) → with_behind first others ≡ joined_chunks (first ∷ others)
behind_first first others each =
    ap (λ c. with_behind c others) (each 0 first (omega arith)) ∙ behind_all first.slots (length first.slots ∷ []) others (λ k d lt. each (suc k) d (omega (arith, lt)))

-- ---- a loop over chunks that puts each behind those before

module _ (rows new chunk : ColumnValue) (rest left : List ColumnValue) (is : rest ≡ chunk ∷ left) where
  pub one_behind : (all : ColumnValue) → new ≡ appended rows chunk → with_behind rows rest ≡ all → with_behind new left ≡ all
  one_behind all more sofar = ap (λ c. with_behind c left) more ∙ sym (ap (with_behind rows) is) ∙ sofar

  pub left_chunks : AreRowChunks rest → AreRowChunks left
  left_chunks each = λ k d lt. (subst AreRowChunks is each) (suc k) d (omega (arith, lt))

  pub still_few : new ≡ appended rows chunk → length rows.slots + length (flat_map (λ c. c.slots) rest) < 2 ^ 63 → length new.slots + length (flat_map (λ c. c.slots) left) < 2 ^ 63
  still_few more few =
      let behind = flat_map (λ c. c.slots) left in
      let slots = ap (λ (c : ColumnValue). length c.slots) more in
      let all = ap (λ (cs : List ColumnValue). length (flat_map (λ c. c.slots) cs)) is in
      omega (arith, few, slots, all, length-append rows.slots chunk.slots, length-append chunk.slots behind)

-- no chunk is left
pub none_behind : (rows first : ColumnValue) (rest others all : List ColumnValue) → length rest ≡ 0 → all ≡ first ∷ others → AreRowChunks all → with_behind rows rest ≡ with_behind first others → rows ≡ joined_chunks all
none_behind rows first [] others all done is each sofar = sofar ∙ behind_first first others (subst AreRowChunks is each) ∙ ap joined_chunks (sym is)
none_behind rows first (c ∷ cs) others all done is each sofar = absurd (omega (arith, done))
