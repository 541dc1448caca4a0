-- The hashes of a column, chunk by chunk.
use Rattle.std.proofs.Common.{◌≡◌, ◌∙◌, ℕ, zero, suc, ◌+◌, ◌-◌, ◌<◌, ◌≤◌, List, [], ◌∷◌, ◌++◌, length, get_or, map, replicate, take, drop, refl, sym, ap, arith}
use Rattle.std.proofs.lemmas.List.{length-map, map-append}
use borrow.Rule.Slice.PartMut.{put_mid}
use Rattle.gb_cols.specs.Null.{AreNulls}
use Rattle.gb_cols.proofs.ChunkedLemmas.{all_slots, before_all, before_few, before_more, front_all, front_more, front_slots}
use Rattle.gb_defs.specs.Column.{ColumnValue}
use Rattle.gb_defs.specs.ColumnType.{ColumnType}
use Rattle.gb_defs.specs.Hash.{combine_of, null_hash}
use Rattle.gb_defs.specs.Slot.{Slot, Nil}
use Rattle.gb_row_hash.specs.Hashes.{combine_each, combined_hashes, slot_hash}
use Rattle.gb_row_hash.proofs.CombineLemmas.{combine_more}

module _ (earlier : List (List Slot)) (last : List Slot) where
  -- a chunk that starts behind those before it ends among all rows
  pub chunk_inside : (chunk slots : List Slot) (i start : ℕ) → i < length earlier → chunk ≡ get_or earlier i chunk → slots ≡ all_slots earlier last
      → start ≡ length (front_slots earlier i) → start + length chunk ≤ length slots
  chunk_inside chunk slots i start lt is all at = omega (arith, before_more earlier chunk i lt is, before_few earlier last (i + 1), at, ap length all)

  module _ (hash : Slot → ℕ) (f : ℕ → ℕ → ℕ) (before : List ℕ) where
    -- the hashes of a chunk more, put to those of its rows
    pub chunk_combined : (chunk : List Slot) (i : ℕ) (now new : List ℕ) (start end : ℕ) → i < length earlier → chunk ≡ get_or earlier i chunk
        → now ≡ combine_each f (map hash (front_slots earlier i)) before → start ≡ length (front_slots earlier i) → end ≡ start + length chunk
        → new ≡ combine_each f (map hash chunk) (take (end - start) (drop start now))
        → put_mid start (end - start) now new ≡ combine_each f (map hash (front_slots earlier (i + 1))) before
    chunk_combined chunk i now new start end lt is so_far at long made =
        let front = front_slots earlier i in
        combine_more f (map hash front) (map hash chunk) before now new start end so_far (at ∙ sym (length-map front hash)) (long ∙ ap (λ n. start + n) (sym (length-map chunk hash))) made
        ∙ ap (λ hs. combine_each f hs before) (sym (map-append hash front chunk) ∙ ap (map hash) (sym (front_more earlier chunk i lt is)))

    -- those of the last one, behind which nothing is left
    pub last_combined : (i : ℕ) (now new : List ℕ) (start : ℕ) → length earlier ≤ i → length now ≡ length (all_slots earlier last)
        → now ≡ combine_each f (map hash (front_slots earlier i)) before → start ≡ length (front_slots earlier i)
        → new ≡ combine_each f (map hash last) (take (length now - start) (drop start now))
        → put_mid start (length now - start) now new ≡ combine_each f (map hash (all_slots earlier last)) before
    last_combined i now new start done many so_far at made =
        let front = front_slots earlier i in
        let long : length now ≡ start + length (map hash last) = omega (arith, many, at, before_all earlier last i done, length-map last hash) in
        combine_more f (map hash front) (map hash last) before now new start (length now) so_far (at ∙ sym (length-map front hash)) long made
        ∙ ap (λ hs. combine_each f hs before) (sym (map-append hash front last) ∙ ap (map hash) (front_all earlier last i done))

  -- what is put to hashes by the chunks is what the column puts to them
  pub column_combined : (seed : ℕ) (mix : ℕ → ℕ) (t : ColumnType) (c : ColumnValue) (before new : List ℕ) → c.dtype ≡ t → c.slots ≡ all_slots earlier last
      → new ≡ combine_each (combine_of t) (map (slot_hash t seed mix) (all_slots earlier last)) before → new ≡ combined_hashes seed mix c before
  column_combined seed mix t c before new typed all made =
      made ∙ ap (λ (d : ColumnType). combine_each (combine_of d) (map (slot_hash d seed mix) (all_slots earlier last)) before) (sym typed)
      ∙ ap (λ (slots : List Slot). combine_each (combine_of c.dtype) (map (slot_hash c.dtype seed mix) slots) before) (sym all)

-- ---- nulls

module _ (t : ColumnType) (seed : ℕ) (mix : ℕ → ℕ) where
  null_each : (n : ℕ) → map (slot_hash t seed mix) (replicate n Nil) ≡ replicate n (null_hash seed mix)
  null_each zero = refl
  null_each (suc n) = ap (λ hs. null_hash seed mix ∷ hs) (null_each n)

  -- the hashes of so many nulls
  pub null_hashes : (slots : List Slot) (n null : ℕ) → AreNulls slots → length slots ≡ n → null ≡ null_hash seed mix → map (slot_hash t seed mix) slots ≡ replicate n null
  null_hashes slots n null nulls long is =
      ap (map (slot_hash t seed mix)) (nulls ∙ ap (λ k. replicate k Nil) long) ∙ null_each n ∙ ap (replicate n) (sym is)
