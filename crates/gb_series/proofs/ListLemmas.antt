-- The column of lists: what each call comes to.
use Rattle.std.proofs.Common.{◌≡◌, ℕ, zero, suc, ◌+◌, ◌-◌, ◌<◌, ◌≤◌, ℤ, pos, negsuc, ◌+ℤ◌, max, min, Bool, true, false, List, [], ◌∷◌, ◌++◌, length, map, take, drop, get_or, replicate, refl, sym, ◌∙◌, ap, arith, subst}
use Rattle.std.specs.List.{All, AllByRecursion, flat_map, sum}
use Rattle.std.proofs.lemmas.List.{length-append, length-drop, length-map, length-replicate, length-take}
use Rattle.std.proofs.lemmas.List.Elements.{All-from_recursion, recursion_from_All}
use Rattle.gb_defs.specs.Slot.{Slot, Nil, Items, is_nil, items_of, slot_at}
use Rattle.gb_defs.specs.Slices.{between, moved_into, shown, slice_end, slice_from, slice_start}
use Rattle.gb_defs.specs.ColumnType.{ColumnType, Fits, FitsParts, ListOf, part_type}
use Rattle.gb_defs.specs.Column.{ColumnValue, rechunked, repeated, sliced, taken}
use Rattle.gb_cols.specs.Column.{appended, first_chunks, pushed}
use Rattle.gb_cols.specs.Null.{null_column}
use Rattle.gb_values.specs.Array.{Rises, start_of}
use Rattle.gb_series.specs.Structs.{KeepsRows}
use Rattle.gb_series.specs.Rows.{AreItems, AreRowsOf, IsListed, end_of, list_column, list_slot, lists_of, pieces_to, places_at, row_slot, rows_of}
use Rattle.gb_series.proofs.PieceLemmas.{piece_at, piece_high, piece_low, part_back, part_high, part_is, part_low, pieces_both, pieces_join, pieces_front, pieces_length, pieces_mapped, pieces_take, places_below, read_pieces, rises_both, rises_end, rises_join, rises_take, whole_piece}
use Rattle.gb_series.proofs.RowLemmas.{row_at, rows_append, rows_between, rows_length, rows_take, rows_taken, take_nil}

-- the type of the items
pub item_type : (t u : ColumnType) → ListOf t ≡ ListOf u → t ≡ u
item_type t u e = ap (λ l. part_type l 0) e

-- columns that are equal in each part
pub list_alike : (rows rows' : ColumnValue) (present present' : List Bool) (ends ends' : List ℕ) (items items' : ColumnValue) → rows ≡ rows' → present ≡ present' → ends ≡ ends' → items ≡ items' →
    list_column rows present ends items ≡ list_column rows' present' ends' items'
list_alike rows rows' present present' ends ends' items items' a b c d =
    ap (λ r. list_column r present ends items) a ∙ ap (λ p. list_column rows' p ends items) b ∙ ap (λ e. list_column rows' present' e items) c
    ∙ ap (λ i. list_column rows' present' ends' i) d

pub listed_alike : (rows rows' : ColumnValue) (present present' : List Bool) (ends ends' : List ℕ) (items items' : ColumnValue) → rows ≡ rows' → present ≡ present' → ends ≡ ends' → items ≡ items' →
    IsListed rows' present' ends' items' → IsListed rows present ends items
listed_alike rows rows' present present' ends ends' items items' a b c d listed = record {
  flags = ap length b ∙ listed.flags ∙ sym (ap (λ r. length r.slots) a);
  ends_each = ap length c ∙ listed.ends_each ∙ sym (ap length b);
  rises = subst (λ (e : List ℕ). Rises 0 e (end_of e)) (sym c) listed.rises;
  within = omega (arith, ap end_of c, ap (λ i. length i.slots) d, listed.within);
}

-- ---- what fits

parts_fit : (t : ColumnType) (k : ℕ) (slots : List Slot) → AllByRecursion (Fits t) slots → FitsParts (ListOf t) k (items_of slots)
parts_fit t k [] all = tt
parts_fit t k (s ∷ ss) all = (all.0, parts_fit t (suc k) ss all.1)

pub all_taken : (P : Slot → Type 0) (n : ℕ) (slots : List Slot) → AllByRecursion P slots → AllByRecursion P (take n slots)
all_taken P zero [] all = tt
all_taken P zero (s ∷ ss) all = tt
all_taken P (suc n) [] all = tt
all_taken P (suc n) (s ∷ ss) all = (all.0, all_taken P n ss all.1)

pub all_dropped : (P : Slot → Type 0) (n : ℕ) (slots : List Slot) → AllByRecursion P slots → AllByRecursion P (drop n slots)
all_dropped P zero [] all = tt
all_dropped P zero (s ∷ ss) all = all
all_dropped P (suc n) [] all = tt
all_dropped P (suc n) (s ∷ ss) all = all_dropped P n ss all.1

row_fits : (t : ColumnType) (present : Bool) (piece : List Slot) → AllByRecursion (Fits t) piece → Fits (ListOf t) (row_slot present piece)
row_fits t true piece all = parts_fit t 0 piece all
row_fits t false piece all = tt

rows_fit : (t : ColumnType) (present : List Bool) (start : ℕ) (ends : List ℕ) (slots : List Slot) → AllByRecursion (Fits t) slots → AllByRecursion (Fits (ListOf t)) (rows_of present (pieces_to start ends slots))
rows_fit t [] start ends slots all = tt
rows_fit t (p ∷ ps) start [] slots all = (row_fits t p [] tt, rows_fit t ps start [] slots all)
rows_fit t (p ∷ ps) start (end ∷ ends) slots all =
    (row_fits t p (take (end - start) (drop start slots)) (all_taken (Fits t) (end - start) (drop start slots) (all_dropped (Fits t) start slots all)), rows_fit t ps end ends slots all)

pub lists_fit : (rows : ColumnValue) (present : List Bool) (ends : List ℕ) (items : ColumnValue) → All (Fits items.dtype) items.slots →
    All (Fits (ListOf items.dtype)) (list_column rows present ends items).slots
lists_fit rows present ends items all =
    All-from_recursion (Fits (ListOf items.dtype)) (rows_of present (pieces_to 0 ends items.slots))
    (rows_fit items.dtype present 0 ends items.slots (recursion_from_All (Fits items.dtype) items.slots all))

module _ (rows : ColumnValue) (present : List Bool) (ends : List ℕ) (items : ColumnValue) (listed : IsListed rows present ends items) where
  abbrev column : ColumnValue
  column = list_column rows present ends items

  abbrev pieces : List (List Slot)
  pieces = pieces_to 0 ends items.slots

  -- as many rows as the column of rows has
  pub list_length : length column.slots ≡ length rows.slots
  list_length = rows_length present pieces ∙ listed.flags

  pieces_each : length pieces ≡ length present
  pieces_each = pieces_length 0 ends items.slots ∙ listed.ends_each

  -- ---- one row

  pub row_inside : (row : ℕ) → row < length column.slots → row < length ends
  row_inside row lt = omega (arith, lt, rows_length present pieces, listed.ends_each)

  pub flag_inside : (row : ℕ) → row < length column.slots → row < length present
  flag_inside row lt = omega (arith, lt, rows_length present pieces)

  pub absent_slot : (row : ℕ) → get_or present row false ≡ false → slot_at column.slots row ≡ Nil
  absent_slot row e = row_at present pieces row ∙ ap (λ b. row_slot b (get_or pieces row [])) e

  pub present_slot : (row : ℕ) → row < length column.slots → get_or present row false ≡ true → slot_at column.slots row ≡ Items (items_of (between (start_of 0 ends row) (get_or ends row 0) items.slots))
  present_slot row lt e =
      row_at present pieces row ∙ ap (λ b. row_slot b (get_or pieces row [])) e
      ∙ ap (λ piece. Items (items_of piece)) (piece_at ends items.slots row (row_inside row lt))

  pub row_low : (row : ℕ) → row < length column.slots → start_of 0 ends row ≤ get_or ends row 0
  row_low row lt = piece_low ends (end_of ends) row listed.rises (row_inside row lt)

  pub row_high : (row : ℕ) → row < length column.slots → get_or ends row 0 ≤ length items.slots
  row_high row lt = omega (arith, piece_high ends (end_of ends) row listed.rises (row_inside row lt), listed.within)

  flag_of_valid : (row : ℕ) → is_nil (slot_at column.slots row) ≡ false → get_or present row false ≡ true
  flag_of_valid row valid = by (get_or present row false) refl where
    by : (b : Bool) → get_or present row false ≡ b → get_or present row false ≡ true
    by true e = e
    by false e = let never : true ≡ false = sym (ap is_nil (absent_slot row e)) ∙ valid in cc

  pub are_rows : AreRowsOf column.slots items.slots ends
  are_rows = record {
    placed = λ row lt. record { inside = row_inside row lt; low = row_low row lt; high = row_high row lt };
    held = λ row lt valid. present_slot row lt (flag_of_valid row valid);
  }

  -- the items of a row as a column of their own
  pub row_shown : (start end : ℕ) → start ≤ end → end ≤ length items.slots → shown items.slots (pos start) (end - start) ≡ between start end items.slots
  row_shown start end le high =
      let low : min start (length items.slots) ≡ start = omega (arith, le, high) in
      let last : min (start + (end - start)) (length items.slots) ≡ end = omega (arith, le, high) in
      ap (λ s. between s (min (start + (end - start)) (length items.slots)) items.slots) low ∙ ap (λ e. between start e items.slots) last

  -- ---- items that keep those of the rows

  module _ (kept : ColumnValue) (keep : KeepsRows (end_of ends) items kept) where
    kept_long : end_of ends ≤ length kept.slots
    kept_long =
        omega (arith, ap (λ (ss : List Slot). length ss) keep.rows, length-take (end_of ends) kept.slots, length-take (end_of ends) items.slots, listed.within)

    pub kept_view : list_column rows present ends kept ≡ column
    kept_view =
        let same : pieces_to 0 ends kept.slots ≡ pieces = pieces_front 0 ends (end_of ends) kept.slots listed.rises kept_long
        ∙ ap (pieces_to 0 ends) keep.rows ∙ sym (pieces_front 0 ends (end_of ends) items.slots listed.rises listed.within) in
        ap (λ t. record column { dtype = ListOf t; slots = rows_of present (pieces_to 0 ends kept.slots) }) (ap (λ p. p.1) keep.part)
        ∙ ap (λ ps. record column { slots = rows_of present ps }) same

    pub kept_listed : IsListed rows present ends kept
    kept_listed = record { flags = listed.flags; ends_each = listed.ends_each; rises = listed.rises; within = kept_long }

  -- ---- the first rows

  module _ (n : ℕ) (le : n ≤ length present) where
    first_inside : n ≤ length ends
    first_inside = omega (arith, le, listed.ends_each)

    first_rises : Rises 0 (take n ends) (start_of 0 ends n)
    first_rises = rises_take n 0 ends (end_of ends) listed.rises first_inside

    first_high : start_of 0 ends n ≤ end_of ends
    first_high = part_high ends (end_of ends) 0 n listed.rises (omega arith) first_inside

    pub first_listed : (fewer : ColumnValue) → length fewer.slots ≡ n → IsListed fewer (take n present) (take n ends) items
    first_listed fewer long = record {
      flags = omega (arith, length-take n present, le, long);
      ends_each = omega (arith, length-take n present, length-take n ends, le, first_inside);
      rises = subst (λ (last : ℕ). Rises 0 (take n ends) last) (sym (rises_end 0 (take n ends) (start_of 0 ends n) first_rises)) first_rises;
      within = omega (arith, rises_end 0 (take n ends) (start_of 0 ends n) first_rises, first_high, listed.within);
    }

    pub first_slots : rows_of (take n present) (pieces_to 0 (take n ends) items.slots) ≡ take n column.slots
    first_slots = ap (rows_of (take n present)) (sym (pieces_take n 0 ends items.slots)) ∙ sym (rows_take n present pieces)

  -- the first chunks
  module _ (count : ℕ) (made : ColumnValue) (flags : List Bool) (fewer : List ℕ) (kept : ℕ) (is_made : made ≡ first_chunks count rows) (all : sum made.chunks ≡ length made.slots) (long : kept ≡ length made.slots)
      (is_flags : flags ≡ take kept present) (is_fewer : fewer ≡ take kept ends) where
    kept_is : kept ≡ sum (take count rows.chunks)
    kept_is = long ∙ sym all ∙ ap (λ (v : ColumnValue). sum v.chunks) is_made

    kept_few : kept ≤ length present
    kept_few =
        omega (arith, long, ap (λ (v : ColumnValue). length v.slots) is_made, length-take (sum (take count rows.chunks)) rows.slots, listed.flags)

    pub undone_listed : IsListed made flags fewer items
    undone_listed =
        listed_alike made made flags (take kept present) fewer (take kept ends) items items refl is_flags is_fewer refl (first_listed kept kept_few made (sym long))

    pub undone_view : list_column made flags fewer items ≡ first_chunks count column
    undone_view =
        list_alike made (first_chunks count rows) flags (take kept present) fewer (take kept ends) items items is_made is_flags is_fewer refl
        ∙ ap (λ ss. record (first_chunks count column) { slots = ss }) (first_slots kept kept_few ∙ ap (λ n. take n column.slots) kept_is)

  -- ---- others behind, where the items end with those of the last row

  module _ (exact : end_of ends ≡ length items.slots) (others : ColumnValue) (flags : List Bool) (more : List ℕ) (inner : ColumnValue) (also : IsListed others flags more inner) where
    full : Rises 0 ends (length items.slots)
    full = subst (λ (n : ℕ). Rises 0 ends n) exact listed.rises

    abbrev other : ColumnValue
    other = list_column others flags more inner

    joined_slots : rows_of (present ++ flags) (pieces_to 0 (ends ++ map (λ end. length items.slots + end) more) (items.slots ++ inner.slots)) ≡ column.slots ++ other.slots
    joined_slots =
        ap (rows_of (present ++ flags)) (pieces_both ends more items.slots inner.slots full)
        ∙ rows_append present flags pieces (pieces_to 0 more inner.slots) pieces_each

    pub list_appended : list_column (appended rows others) (present ++ flags) (ends ++ map (λ end. length items.slots + end) more) (appended items inner) ≡ appended column other
    list_appended = ap (λ ss. record (appended column other) { slots = ss }) joined_slots

    abbrev canonical_ends : List ℕ
    canonical_ends = ends ++ map (λ end. length items.slots + end) more

    both_rise : Rises 0 canonical_ends (length items.slots + end_of more)
    both_rise = rises_both ends more (length items.slots) (end_of more) full also.rises

    both_end : end_of canonical_ends ≡ length items.slots + end_of more
    both_end = rises_end 0 canonical_ends (length items.slots + end_of more) both_rise

    pub listed_appended : IsListed (appended rows others) (present ++ flags) (ends ++ map (λ end. length items.slots + end) more) (appended items inner)
    listed_appended = record {
      flags = length-append present flags ∙ omega (arith, listed.flags, also.flags) ∙ sym (length-append rows.slots others.slots);
      ends_each =
          omega
          (arith, length-append ends (map (λ end. length items.slots + end) more), length-map more (λ end. length items.slots + end), length-append present flags, listed.ends_each, also.ends_each);
      rises = subst (λ (n : ℕ). Rises 0 canonical_ends n) (sym both_end) both_rise;
      within = omega (arith, both_end, length-append items.slots inner.slots, also.within);
    }

    -- the same for what is made of these parts
    module _ (made : ColumnValue) (made_flags : List Bool) (made_ends : List ℕ) (made_items : ColumnValue) (by : ℕ) (long : by ≡ length items.slots) (is_made : made ≡ appended rows others) (is_flags : made_flags ≡ present ++ flags) (is_ends : made_ends ≡ ends ++ map (λ end. by + end) more) (is_items : made_items ≡ appended items inner) where
      ends_are : made_ends ≡ canonical_ends
      ends_are = is_ends ∙ ap (λ n. ends ++ map (λ end. n + end) more) long

      pub appended_view : list_column made made_flags made_ends made_items ≡ appended column other
      appended_view =
          list_alike made (appended rows others) made_flags (present ++ flags) made_ends canonical_ends made_items (appended items inner) is_made is_flags ends_are is_items
          ∙ list_appended

      pub appended_listed : IsListed made made_flags made_ends made_items
      appended_listed =
          listed_alike made (appended rows others) made_flags (present ++ flags) made_ends canonical_ends made_items (appended items inner) is_made is_flags ends_are is_items listed_appended

  -- one row more
  module _ (exact : end_of ends ≡ length items.slots) (present_one : Bool) (inner : ColumnValue) where
    abbrev last : ℕ
    last = length items.slots + length inner.slots

    filled : Rises 0 ends (length items.slots)
    filled = subst (λ (n : ℕ). Rises 0 ends n) exact listed.rises

    one_rises : Rises 0 (ends ++ last ∷ []) last
    one_rises = rises_both ends (length inner.slots ∷ []) (length items.slots) (length inner.slots) filled (omega arith, refl)

    one_slot : rows_of (present ++ present_one ∷ []) (pieces_to 0 (ends ++ last ∷ []) (items.slots ++ inner.slots)) ≡ column.slots ++ row_slot present_one inner.slots ∷ []
    one_slot =
        ap (rows_of (present ++ present_one ∷ [])) (pieces_both ends (length inner.slots ∷ []) items.slots inner.slots filled)
        ∙ rows_append present (present_one ∷ []) pieces (pieces_to 0 (length inner.slots ∷ []) inner.slots) pieces_each
        ∙ ap (λ piece. column.slots ++ row_slot present_one piece ∷ []) (whole_piece inner.slots)

    pub list_pushed : list_column (pushed rows Nil) (present ++ present_one ∷ []) (ends ++ last ∷ []) (appended items inner) ≡ pushed column (row_slot present_one inner.slots)
    list_pushed = ap (λ ss. record (pushed column (row_slot present_one inner.slots)) { slots = ss }) one_slot

    pub listed_pushed : IsListed (pushed rows Nil) (present ++ present_one ∷ []) (ends ++ last ∷ []) (appended items inner)
    listed_pushed = record {
      flags = omega (arith, length-append present (present_one ∷ []), length-append rows.slots (Nil ∷ []), listed.flags);
      ends_each = omega (arith, length-append ends (last ∷ []), length-append present (present_one ∷ []), listed.ends_each);
      rises = subst (λ (n : ℕ). Rises 0 (ends ++ last ∷ []) n) (sym (rises_end 0 (ends ++ last ∷ []) last one_rises)) one_rises;
      within = omega (arith, rises_end 0 (ends ++ last ∷ []) last one_rises, length-append items.slots inner.slots);
    }

    module _ (made : ColumnValue) (made_flags : List Bool) (made_ends : List ℕ) (made_items : ColumnValue) (end : ℕ) (long : end ≡ last) (is_made : made ≡ pushed rows Nil) (is_flags : made_flags ≡ present ++ present_one ∷ []) (is_ends : made_ends ≡ ends ++ end ∷ []) (is_items : made_items ≡ appended items inner) where
      end_is : made_ends ≡ ends ++ last ∷ []
      end_is = is_ends ∙ ap (λ n. ends ++ n ∷ []) long

      pub pushed_view : list_column made made_flags made_ends made_items ≡ pushed column (row_slot present_one inner.slots)
      pushed_view =
          list_alike made (pushed rows Nil) made_flags (present ++ present_one ∷ []) made_ends (ends ++ last ∷ []) made_items (appended items inner) is_made is_flags end_is is_items
          ∙ list_pushed

      pub pushed_listed : IsListed made made_flags made_ends made_items
      pushed_listed =
          listed_alike made (pushed rows Nil) made_flags (present ++ present_one ∷ []) made_ends (ends ++ last ∷ []) made_items (appended items inner) is_made is_flags end_is is_items listed_pushed

  -- one null more
  module _ (made : ColumnValue) (flags : List Bool) (more : List ℕ) (end : ℕ) (long : end ≡ end_of ends) (is_made : made ≡ pushed rows Nil) (is_flags : flags ≡ present ++ false ∷ []) (is_more : more ≡ ends ++ end ∷ []) where
    null_rises : Rises 0 (ends ++ end ∷ []) (end_of ends)
    null_rises = rises_join 0 ends (end ∷ []) (end_of ends) (end_of ends) listed.rises (omega (arith, long), long)

    null_end : end_of (ends ++ end ∷ []) ≡ end_of ends
    null_end = rises_end 0 (ends ++ end ∷ []) (end_of ends) null_rises

    null_slot : rows_of (present ++ false ∷ []) (pieces_to 0 (ends ++ end ∷ []) items.slots) ≡ column.slots ++ Nil ∷ []
    null_slot =
        ap (rows_of (present ++ false ∷ [])) (pieces_join 0 ends (end ∷ []) (end_of ends) items.slots listed.rises)
        ∙ rows_append present (false ∷ []) pieces (between (end_of ends) end items.slots ∷ []) pieces_each

    pub null_pushed : list_column made flags more items ≡ pushed column Nil
    null_pushed =
        list_alike made (pushed rows Nil) flags (present ++ false ∷ []) more (ends ++ end ∷ []) items items is_made is_flags is_more refl
        ∙ ap (λ ss. record (pushed column Nil) { slots = ss }) null_slot

    pub listed_null : IsListed made flags more items
    listed_null =
        listed_alike made (pushed rows Nil) flags (present ++ false ∷ []) more (ends ++ end ∷ []) items items is_made is_flags is_more refl
        (record {
          flags = omega (arith, length-append present (false ∷ []), length-append rows.slots (Nil ∷ []), listed.flags);
          ends_each = omega (arith, length-append ends (end ∷ []), length-append present (false ∷ []), listed.ends_each);
          rises = subst (λ (n : ℕ). Rises 0 (ends ++ end ∷ []) n) (sym null_end) null_rises;
          within = omega (arith, null_end, listed.within);
        })

  -- ---- some rows

  -- rows of the column are rows of its parts
  module _ (picks : List ℕ) (inside : All (λ row. row < length column.slots) picks) where
    flags_below : All (λ row. row < length present) picks
    flags_below = subst (λ (n : ℕ). All (λ row. row < n) picks) (rows_length present pieces) inside

    pub rows_have_flags : All (λ row. row < length present) picks
    rows_have_flags = flags_below

    pub rows_have_ends : All (λ row. row < length ends) picks
    rows_have_ends = subst (λ (n : ℕ). All (λ row. row < n) picks) (sym listed.ends_each) flags_below

    pub rows_are_rows : All (λ row. row < length rows.slots) picks
    rows_are_rows = subst (λ (n : ℕ). All (λ row. row < n) picks) list_length inside

  module _ (picks : List ℕ) (found places : List ℕ) (are : AreItems ends picks found places) (inside : All (λ row. row < length column.slots) picks) where
    picks_inside : AllByRecursion (λ row. row < length ends) picks
    picks_inside =
        recursion_from_All (λ row. row < length ends) picks
        (subst (λ (n : ℕ). All (λ row. row < n) picks) (rows_length present pieces ∙ sym listed.ends_each) inside)

    pub places_inside : All (λ place. place < length items.slots) places
    places_inside =
        subst (λ (ps : List ℕ). All (λ place. place < length items.slots) ps) (sym are.placed)
        (All-from_recursion (λ place. place < length items.slots) (flat_map (places_at ends) picks)
        (lower (flat_map (places_at ends) picks) (places_below ends picks (end_of ends) listed.rises picks_inside)))
      where
        lower : (ps : List ℕ) → AllByRecursion (λ place. place < end_of ends) ps → AllByRecursion (λ place. place < length items.slots) ps
        lower [] all = tt
        lower (p ∷ ps) all = (omega (arith, all.0, listed.within), lower ps all.1)

    taken_pieces : pieces_to 0 found (map (slot_at items.slots) places) ≡ map (λ row. get_or pieces row []) picks
    taken_pieces =
        pieces_mapped (slot_at items.slots) 0 found places ∙ ap (map (map (slot_at items.slots))) are.pieced
        ∙ read_pieces Nil items.slots ends picks (end_of ends) listed.rises listed.within picks_inside

    abbrev flags_taken : List Bool
    flags_taken = map (λ row. get_or present row false) picks

    pub list_taken : list_column (taken picks rows) flags_taken found (taken places items) ≡ taken picks column
    list_taken =
        ap (λ n. record (list_column (taken picks rows) flags_taken found (taken places items)) { chunks = n ∷ [] }) (length-map picks (slot_at rows.slots) ∙ sym (length-map picks (slot_at column.slots)))
        ∙ ap (λ ss. record (taken picks column) { slots = ss }) (ap (rows_of flags_taken) taken_pieces ∙ sym (rows_taken present pieces picks))

    pub listed_taken : IsListed (taken picks rows) flags_taken found (taken places items)
    listed_taken = record {
      flags = length-map picks (λ row. get_or present row false) ∙ sym (length-map picks (slot_at rows.slots));
      ends_each =
          sym (pieces_length 0 found places) ∙ ap length are.pieced ∙ length-map picks (places_at ends) ∙ sym (length-map picks (λ row. get_or present row false));
      rises = subst (λ (n : ℕ). Rises 0 found n) (sym (rises_end 0 found (length places) are.rises)) are.rises;
      within = omega (arith, rises_end 0 found (length places) are.rises, length-map places (slot_at items.slots));
    }

    module _ (made : ColumnValue) (made_flags : List Bool) (made_items : ColumnValue) (is_made : made ≡ taken picks rows) (is_flags : made_flags ≡ flags_taken) (is_items : made_items ≡ taken places items) where
      pub taken_view : list_column made made_flags found made_items ≡ taken picks column
      taken_view =
          list_alike made (taken picks rows) made_flags flags_taken found found made_items (taken places items) is_made is_flags refl is_items ∙ list_taken

      pub taken_listed : IsListed made made_flags found made_items
      taken_listed =
          listed_alike made (taken picks rows) made_flags flags_taken found found made_items (taken places items) is_made is_flags refl is_items listed_taken

  pub list_rechunked : list_column (rechunked rows) present ends (rechunked items) ≡ rechunked column
  list_rechunked = ap (λ n. record (rechunked column) { chunks = n ∷ [] }) (sym list_length)

  pub listed_rechunked : IsListed (rechunked rows) present ends (rechunked items)
  listed_rechunked = record { flags = listed.flags; ends_each = listed.ends_each; rises = listed.rises; within = listed.within }

  -- ---- a slice

  moved_few : (count : ℕ) (place : ℤ) → moved_into count place ≤ count
  moved_few count (pos n) = omega arith
  moved_few count (negsuc n) = omega arith

  module _ (offset : ℤ) (len : ℕ) where
    abbrev count : ℕ
    count = length rows.slots

    abbrev from : ℕ
    from = slice_start count offset

    abbrev to : ℕ
    to = max (slice_end count offset len) from

    from_few : from ≤ count
    from_few = moved_few count (slice_from count offset)

    pub to_few : to ≤ count
    to_few = omega (arith, moved_few count (slice_from count offset +ℤ pos len), from_few)

    abbrev first : ℕ
    first = start_of 0 ends from

    abbrev behind : ℕ
    behind = start_of 0 ends to

    from_to : from ≤ to
    from_to = omega arith

    to_inside : to ≤ length ends
    to_inside = omega (arith, to_few, listed.flags, listed.ends_each)

    pub slice_low : first ≤ behind
    slice_low = part_low ends (end_of ends) from to listed.rises from_to to_inside

    pub slice_high : behind ≤ length items.slots
    slice_high = omega (arith, part_high ends (end_of ends) from to listed.rises from_to to_inside, listed.within)

    abbrev part_ends : List ℕ
    part_ends = map (λ end. end - first) (between from to ends)

    -- the part of the items that the slice shows
    items_shown : shown items.slots (pos first) (behind - first) ≡ between first behind items.slots
    items_shown =
        let low : min first (length items.slots) ≡ first = omega (arith, slice_low, slice_high) in
        let high : min (first + (behind - first)) (length items.slots) ≡ behind = omega (arith, slice_low, slice_high) in
        ap (λ s. between s (min (first + (behind - first)) (length items.slots)) items.slots) low ∙ ap (λ e. between first e items.slots) high

    rows_shown : between from to column.slots ≡ shown column.slots offset len
    rows_shown =
        let size : to - from ≡ slice_end count offset len - from = omega arith in
        ap (λ n. take n (drop from column.slots)) size
        ∙ ap (λ n. between (slice_start n offset) (slice_end n offset len) column.slots) (sym list_length)

    slots_sliced : rows_of (between from to present) (pieces_to 0 part_ends (shown items.slots (pos first) (behind - first))) ≡ shown column.slots offset len
    slots_sliced =
        ap (λ xs. rows_of (between from to present) (pieces_to 0 part_ends xs)) items_shown
        ∙ ap (rows_of (between from to present)) (part_is ends (end_of ends) from to listed.rises from_to to_inside items.slots)
        ∙ sym (rows_between from to present pieces) ∙ rows_shown

    pub list_sliced : list_column (sliced offset len rows) (between from to present) part_ends (sliced (pos first) (behind - first) items) ≡ sliced offset len column
    list_sliced = ap (λ ss. record (sliced offset len column) { slots = ss }) slots_sliced

    between_length : {A : Type 0} (xs : List A) → to ≤ length xs → length (between from to xs) ≡ to - from
    between_length xs le = omega (arith, le, from_to, length-take (to - from) (drop from xs), length-drop from xs)

    shown_length : length (shown rows.slots offset len) ≡ to - from
    shown_length =
        let end = slice_end count offset len in
        let few : end ≤ count = moved_few count (slice_from count offset +ℤ pos len) in
        omega (arith, few, from_few, length-take (end - from) (drop from rows.slots), length-drop from rows.slots)

    part_rise : Rises 0 part_ends (behind - first)
    part_rise = part_back ends (end_of ends) from to listed.rises from_to to_inside

    part_end : end_of part_ends ≡ behind - first
    part_end = rises_end 0 part_ends (behind - first) part_rise

    pub listed_sliced : IsListed (sliced offset len rows) (between from to present) part_ends (sliced (pos first) (behind - first) items)
    listed_sliced = record {
      flags = between_length present (omega (arith, to_few, listed.flags)) ∙ sym shown_length;
      ends_each =
          length-map (between from to ends) (λ end. end - first) ∙ between_length ends to_inside
          ∙ sym (between_length present (omega (arith, to_few, listed.flags)));
      rises = subst (λ (n : ℕ). Rises 0 part_ends n) (sym part_end) part_rise;
      within =
          let long : length (between first behind items.slots) ≡ behind - first =
          omega (arith, slice_low, slice_high, length-take (behind - first) (drop first items.slots), length-drop first items.slots) in
          omega (arith, part_end, ap (λ (ss : List Slot). length ss) items_shown, long);
    }

    module _ (at till start end : ℕ) (is_from : at ≡ from) (is_to : till ≡ to) (is_start : start ≡ start_of 0 ends at) (is_end : end ≡ start_of 0 ends till) where
      starts : start ≡ first
      starts = is_start ∙ ap (start_of 0 ends) is_from

      stops : end ≡ behind
      stops = is_end ∙ ap (start_of 0 ends) is_to

      pub start_low : start ≤ end
      start_low = omega (arith, starts, stops, slice_low)

      pub end_high : end ≤ length items.slots
      end_high = omega (arith, stops, slice_high)

      part_at : {A : Type 0} (xs : List A) → between at till xs ≡ between from to xs
      part_at xs = ap (λ n. between n till xs) is_from ∙ ap (λ n. between from n xs) is_to

      module _ (made : ColumnValue) (made_flags : List Bool) (made_ends : List ℕ) (made_items : ColumnValue) (is_made : made ≡ sliced offset len rows) (is_flags : made_flags ≡ between at till present) (is_ends : made_ends ≡ map (λ e. e - start) (between at till ends)) (is_items : made_items ≡ sliced (pos start) (end - start) items) where
        flags_are : made_flags ≡ between from to present
        flags_are = is_flags ∙ part_at present

        ends_moved : made_ends ≡ part_ends
        ends_moved = is_ends ∙ ap (λ n. map (λ e. e - n) (between at till ends)) starts ∙ ap (map (λ e. e - first)) (part_at ends)

        items_are : made_items ≡ sliced (pos first) (behind - first) items
        items_are =
            is_items ∙ ap (λ n. sliced (pos n) (end - n) items) starts ∙ ap (λ n. sliced (pos first) (n - first) items) stops

        pub sliced_view : list_column made made_flags made_ends made_items ≡ sliced offset len column
        sliced_view =
            list_alike made (sliced offset len rows) made_flags (between from to present) made_ends part_ends made_items (sliced (pos first) (behind - first) items) is_made flags_are ends_moved items_are
            ∙ list_sliced

        pub sliced_listed : IsListed made made_flags made_ends made_items
        sliced_listed =
            listed_alike made (sliced offset len rows) made_flags (between from to present) made_ends part_ends made_items (sliced (pos first) (behind - first) items) is_made flags_are ends_moved items_are listed_sliced

-- ---- a row so many times

-- what a list of nothing is once it has been made so long
pub resized : {A : Type 0} (n : ℕ) (x : A) → take n [] ++ replicate (n - 0) x ≡ replicate n x
resized zero x = refl
resized (suc n) x = let e : suc n - 0 ≡ suc n = omega arith in ap (λ m. replicate m x) e

map_replicate : {A B : Type 0} (f : A → B) (n : ℕ) (x : A) → map f (replicate n x) ≡ replicate n (f x)
map_replicate f zero x = refl
map_replicate f (suc n) x = ap (λ ys. f x ∷ ys) (map_replicate f n x)

pub taken_repeated : (row n : ℕ) (c : ColumnValue) → taken (replicate n row) c ≡ repeated row n c
taken_repeated row n c =
    ap (λ ss. record (taken (replicate n row) c) { slots = ss; chunks = length ss ∷ [] }) (map_replicate (slot_at c.slots) n row)

-- ---- rows of which none is null

rows_present : (pieces : List (List Slot)) → rows_of (replicate (length pieces) true) pieces ≡ map list_slot pieces
rows_present [] = refl
rows_present (piece ∷ pieces) = ap (λ ss. list_slot piece ∷ ss) (rows_present pieces)

-- flags of which there were none, filled up
pub all_present : (count n long : ℕ) (before now : List Bool) → before ≡ [] → long ≡ 0 → count ≡ n → now ≡ take count before ++ replicate (count - long) true → now ≡ replicate n true
all_present count n long before now none empty is e =
    let whole : count - long ≡ n = omega (arith, empty, is) in
    e ∙ ap (λ bs. take count bs ++ replicate (count - long) true) none ∙ ap (λ bs. bs ++ replicate (count - long) true) (take_nil {A = Bool} count) ∙ ap (λ k. replicate k true) whole

module _ (name : List ℕ) (ends : List ℕ) (items : ColumnValue) (rises : Rises 0 ends (length items.slots)) (rows : ColumnValue) (present : List Bool)
    (flags : present ≡ replicate (length ends) true) (counted : rows ≡ null_column name (length ends ∷ [])) where
  present_each : length present ≡ length ends
  present_each = ap length flags ∙ length-replicate (length ends) true

  pub from_listed : IsListed rows present ends items
  from_listed = record {
    flags = omega (arith, present_each, ap (λ r. length r.slots) counted, length-replicate (sum (length ends ∷ [])) Nil);
    ends_each = sym present_each;
    rises = subst (λ (last : ℕ). Rises 0 ends last) (sym (rises_end 0 ends (length items.slots) rises)) rises;
    within = omega (arith, rises_end 0 ends (length items.slots) rises);
  }

  pub from_view : list_column rows present ends items ≡ lists_of name ends items
  from_view =
      let pieces = pieces_to 0 ends items.slots in
      let each : length pieces ≡ length ends = pieces_length 0 ends items.slots in
      let slots : rows_of present pieces ≡ map list_slot pieces = ap (λ ps. rows_of ps pieces) (flags ∙ ap (λ n. replicate n true) (sym each)) ∙ rows_present pieces in
      let count : length ends ≡ length (map list_slot pieces) = sym each ∙ sym (length-map pieces list_slot) in
      ap (λ r. list_column r present ends items) counted
      ∙ ap (λ ss. record (lists_of name ends items) { slots = ss; chunks = length ends ∷ [] }) slots
      ∙ ap (λ n. record (lists_of name ends items) { chunks = n ∷ [] }) count
