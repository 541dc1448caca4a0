-- A table's text read record by record: what is known of it after the header, after each record, and at the end.
use Rattle.std.proofs.Common.{◌≡◌, ℕ, ◌+◌, ◌≤◌, List, [], ◌∷◌, ◌++◌, length, map, refl, sym, ◌∙◌, ap, append_assoc, arith, length-append, None, Result, Ok, Err, All}
use Rattle.std.proofs.lemmas.List.Elements.{All-from_recursion}
use Rattle.std.specs.List.{filter_map}
use Rattle.csv.specs.declared.parser.State.{State}
use Rattle.csv.specs.declared.parser.State.TheVariants as st
use Rattle.csv.specs.Machine.{next_record}
use Rattle.csv.specs.Reading.{Reached, records, default_config, strip_bom}
use Rattle.gb_defs.specs.Slot.{Slot}
use Rattle.gb_defs.specs.Column.{Frame, IsFrame}
use Rattle.gb_defs.specs.Table.{TableFault, NoHeader, Head, heads_of, columns_from, rows_from, record_slots, frame_by_rows, frame_by_heads, table, table_of_records}
use Rattle.gb_text.specs.Asked.{asked_table, is_asked, kept}
use Rattle.gb_text.specs.Building.{Building, IsRoomy, IsWhole, in_one_chunk, read_if_kept}
use Rattle.gb_text.specs.Status.{fault_value}
use Rattle.gb_text.specs.Taking.{IsReading}
use Rattle.gb_text.specs.Refusal.{IsRefusedTable}
use Rattle.gb_text.specs.declared.status.TableError.{TableError}
use Rattle.gb_text.specs.declared.status.TableError.TheVariants.{Fault, NoMemory}
use Rattle.gb_text.specs.Table.{built_from, map_ok, columns_with, columns_of_header, head_in, taken_each}
use Rattle.gb_text.proofs.BuiltLemmas.{heads_one, one_built, read_same, roomy_back, taken_one, whole_back}
use Rattle.gb_text.proofs.RecordLemmas.{whole_records, first_records, records_few, strip_bom-length}
use Rattle.gb_text.proofs.AskedLemmas.{kept_is_frame}
use Rattle.gb_text.proofs.TableLemmas.{columns_kept, heads_in_built, record_length, rows_more, rows_bad, rows_length, columns_more, roomy_columns, whole_columns, names_from, aligned, distinct_from}

-- what is refused for one fault is refused for the other
pub refused_too : {A B : Type 0} (e : TableError) (one : Result A TableFault) (other : Result B TableFault) → ((fault : TableFault) → one ≡ Err fault → other ≡ Err fault) → IsRefusedTable e one → IsRefusedTable e other
refused_too (Fault fault) one other h r = h (fault_value fault) r
refused_too NoMemory one other h r = tt

pub ok_parts : {A B : Type 0} (f : A → B) (r : Result A TableFault) (y : B) → map_ok f r ≡ Ok y → (x : A) × (r ≡ Ok x) × (y ≡ f x)
ok_parts f (Ok x) y e = (x, refl, cc)
ok_parts f (Err fault) y e = cc

no_ok : {A B : Type 0} (f : A → B) (r : Result A TableFault) (fault : TableFault) → map_ok f r ≡ Err fault → r ≡ Err fault
no_ok f (Ok x) fault e = cc
no_ok f (Err other) fault e = let same : other ≡ fault = cc in ap (λ g. Err g) same

module _ (names : List (List ℕ)) (null_word bytes : List ℕ) where
  -- ---- no header

  pub no_header : (s : State) (left : List ℕ) → Reached default_config st.StartRecord (strip_bom bytes) [] s left → next_record default_config s [] [] left ≡ None → table bytes null_word ≡ Err NoHeader
  unfolding table
  no_header s left r e = rw (whole_records default_config (strip_bom bytes) [] s left r e)

  -- ---- the header

  pub header_whole : (header : List (List ℕ)) (columns : List Building) → columns_of_header (is_asked names) header ≡ Ok columns → All IsWhole columns
  header_whole header columns e =
      let p = ok_parts (λ heads. built_from (is_asked names) 0 heads []) (heads_of header) columns e in
      rw p.2 (All-from_recursion IsWhole _ (whole_columns (is_asked names) 0 p.0 [] (omega arith)))

  table_at : (header : List (List ℕ)) (rows : List (List (List ℕ))) → records default_config (strip_bom bytes) ≡ header ∷ rows → table bytes null_word ≡ frame_by_heads null_word (heads_of header) rows
  unfolding table
  table_at header rows e = rw e

  pub header_bad : (header : List (List ℕ)) (s : State) (left : List ℕ) → Reached default_config st.StartRecord (strip_bom bytes) (header ∷ []) s left → (fault : TableFault) → columns_of_header (is_asked names) header ≡ Err fault
      → table bytes null_word ≡ Err fault
  header_bad header s left r fault e =
      let more = first_records default_config (strip_bom bytes) (header ∷ []) s left r in
      let bad = no_ok (λ heads. built_from (is_asked names) 0 heads []) (heads_of header) fault e in
      table_at header more.0 more.1 ∙ ap (λ h. frame_by_heads null_word h more.0) bad

  pub reading_header : (header : List (List ℕ)) (columns : List Building) (s : State) (left : List ℕ) → Reached default_config st.StartRecord (strip_bom bytes) (header ∷ []) s left
      → columns_of_header (is_asked names) header ≡ Ok columns → IsReading names null_word bytes 1 columns s left
  reading_header header columns s left r e =
      let p = ok_parts (λ heads. built_from (is_asked names) 0 heads []) (heads_of header) columns e in
      record {
        header = header;
        rows = [];
        heads = p.0;
        slots = [];
        state = s;
        behind = left;
        reached = r;
        goes_on = refl;
        counted = refl;
        heads_are = p.1;
        slots_are = refl;
        columns_are = ap (map in_one_chunk) p.2 ∙ one_built (is_asked names) 0 p.0 [];
      }

  module _ (row : ℕ) (columns : List Building) (s : State) (left : List ℕ) (now : IsReading names null_word bytes row columns s left) where
    -- ---- one record more

    slots_with : (fields : List (List ℕ)) → columns_with null_word row columns fields ≡ map_ok (taken_each columns) (record_slots null_word (length now.rows + 1) now.heads fields)
    slots_with fields =
        ap (λ heads. map_ok (taken_each columns) (record_slots null_word row heads fields)) (sym (heads_one columns) ∙ ap (map head_in) now.columns_are ∙ heads_in_built (is_asked names) 0 now.heads now.slots)
        ∙ ap (λ n. map_ok (taken_each columns) (record_slots null_word n now.heads fields)) now.counted

    pub reading_more : (fields : List (List ℕ)) (columns' : List Building) (s' : State) (left' : List ℕ) → Reached default_config st.StartRecord (strip_bom bytes) (now.header ∷ now.rows ++ fields ∷ []) s' left'
        → columns_with null_word row columns fields ≡ Ok columns' → IsReading names null_word bytes (row + 1) columns' s' left'
    reading_more fields columns' s' left' r e =
        let p = ok_parts (taken_each columns) (record_slots null_word (length now.rows + 1) now.heads fields) columns' (sym (slots_with fields) ∙ e) in
        record {
          header = now.header;
          rows = now.rows ++ fields ∷ [];
          heads = now.heads;
          slots = now.slots ++ p.0 ∷ [];
          state = s';
          behind = left';
          reached = r;
          goes_on = refl;
          counted = omega (arith, now.counted, length-append now.rows (fields ∷ []));
          heads_are = now.heads_are;
          slots_are = rows_more null_word now.heads 1 now.rows fields now.slots p.0 now.slots_are p.1;
          columns_are = ap (map in_one_chunk) p.2 ∙ taken_one columns p.0 ∙ ap (λ cs. taken_each cs p.0) now.columns_are
              ∙ columns_more (is_asked names) 0 now.heads now.slots [] p.0 refl (record_length null_word (length now.rows + 1) now.heads fields p.0 p.1);
        }

    pub reading_bad : (fields : List (List ℕ)) (s' : State) (left' : List ℕ) → Reached default_config st.StartRecord (strip_bom bytes) (now.header ∷ now.rows ++ fields ∷ []) s' left'
        → (fault : TableFault) → columns_with null_word row columns fields ≡ Err fault → table bytes null_word ≡ Err fault
    reading_bad fields s' left' r fault e =
        let more = first_records default_config (strip_bom bytes) (now.header ∷ now.rows ++ fields ∷ []) s' left' r in
        let bad = no_ok (taken_each columns) (record_slots null_word (length now.rows + 1) now.heads fields) fault (sym (slots_with fields) ∙ e) in
        let rows = now.rows ++ fields ∷ more.0 in
        table_at now.header rows (more.1 ∙ ap (λ rows. now.header ∷ rows) (append_assoc now.rows (fields ∷ []) more.0))
        ∙ ap (λ h. frame_by_heads null_word h rows) now.heads_are ∙ ap (frame_by_rows now.heads) (rows_bad null_word now.heads 1 now.rows fields more.0 now.slots fault now.slots_are bad)

    -- ---- no record more

    kept_columns : filter_map read_if_kept columns ≡ kept names (columns_from 0 now.heads now.slots)
    kept_columns = sym (read_same columns) ∙ ap (filter_map read_if_kept) now.columns_are ∙ columns_kept names 0 now.heads now.slots

    pub reading_end : next_record default_config s [] [] left ≡ None → asked_table names bytes null_word ≡ Ok (filter_map read_if_kept columns)
    reading_end e =
        ap (map_ok (kept names)) (table_at now.header now.rows (whole_records default_config (strip_bom bytes) (now.header ∷ now.rows) now.state now.behind now.reached (now.goes_on ∙ e))
        ∙ ap (λ h. frame_by_heads null_word h now.rows) now.heads_are ∙ ap (frame_by_rows now.heads) now.slots_are)
        ∙ ap (λ f. Ok f) (sym kept_columns)

    -- ---- the frame so far

    pub reading_frame : IsFrame (filter_map read_if_kept columns)
    reading_frame = rw kept_columns (kept_is_frame names (columns_from 0 now.heads now.slots) (record {
      distinct = rw (names_from 0 now.heads now.slots) (distinct_from 1 [] now.header now.heads now.heads_are);
      aligned = aligned now.heads now.slots;
    }))

    few_rows : length now.slots ≤ length bytes
    few_rows = omega (arith, records_few default_config st.StartRecord (strip_bom bytes) (now.header ∷ now.rows) now.state now.behind now.reached, strip_bom-length bytes, rows_length null_word now.heads 1 now.rows now.slots now.slots_are)

    pub reading_roomy : length bytes ≤ 4294967295 → All IsRoomy columns
    reading_roomy h = roomy_back columns (rw now.columns_are (All-from_recursion IsRoomy _ (roomy_columns (is_asked names) 0 now.heads now.slots (omega (arith, few_rows, h)))))

    pub reading_whole : length bytes ≤ 4294967295 → All IsWhole columns
    reading_whole h = whole_back columns (rw now.columns_are (All-from_recursion IsWhole _ (whole_columns (is_asked names) 0 now.heads now.slots (omega (arith, few_rows, h)))))

-- ---- what a table reads as is a frame

frame_of_rows : (heads : List Head) (header : List (List ℕ)) (rows : Result (List (List Slot)) TableFault) (frame : Frame) → heads_of header ≡ Ok heads → frame_by_rows heads rows ≡ Ok frame → IsFrame frame
frame_of_rows heads header (Err fault) frame e h = cc
frame_of_rows heads header (Ok slots) frame e h =
    let same : columns_from 0 heads slots ≡ frame = cc in
    rw (← same) (record {
      distinct = rw (names_from 0 heads slots) (distinct_from 1 [] header heads e);
      aligned = aligned heads slots;
    })

frame_of_heads : (null_word : List ℕ) (header : List (List ℕ)) (heads : Result (List Head) TableFault) (rest : List (List (List ℕ))) (frame : Frame) → heads_of header ≡ heads
    → frame_by_heads null_word heads rest ≡ Ok frame → IsFrame frame
frame_of_heads null_word header (Err fault) rest frame e h = cc
frame_of_heads null_word header (Ok heads) rest frame e h = frame_of_rows heads header (rows_from null_word 1 heads rest) frame e h

frame_of_records : (null_word : List ℕ) (all : List (List (List ℕ))) (frame : Frame) → table_of_records null_word all ≡ Ok frame → IsFrame frame
frame_of_records null_word [] frame e = cc
frame_of_records null_word (header ∷ rest) frame e = frame_of_heads null_word header (heads_of header) rest frame refl e

pub table_is_frame : (null_word bytes : List ℕ) (frame : Frame) → table bytes null_word ≡ Ok frame → IsFrame frame
unfolding table
table_is_frame null_word bytes frame e = frame_of_records null_word (records default_config (strip_bom bytes)) frame e
