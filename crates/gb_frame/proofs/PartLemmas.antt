-- The columns of an answer: their names differ, or the frame of them is refused; and one aggregate more.
use Rattle.std.proofs.Common.{◌≡◌, ℕ, ◌+◌, ◌<◌, Bool, true, false, List, [], ◌∷◌, ◌++◌, Option, Some, None, cond, length, map, take, get_or, refl, sym, ◌∙◌, ap, append_assoc, eq-eqb, ◌==◌}
use Rattle.std.specs.Option.{option_or}
use Rattle.std.proofs.lemmas.List.{length-map, map_more, map-append}
use Rattle.gb_defs.specs.Slot.{Slot, slot_at}
use Rattle.gb_defs.specs.Column.{ColumnValue, Content, Frame, all_have_length, content, find_column, first_repeated, frame_height, names_of, taken}
use Rattle.gb_defs.specs.Fold.{Method, fold_of}
use Rattle.gb_defs.specs.Answer.{aggregated, answer_name, answer_names, slots_in, type_in}
use Rattle.gb_defs.specs.Fault.{Fault, duplicate_of}
use Rattle.gb_base.specs.PlSmallStr.{name_of}
use Rattle.gb_series.specs.Frame.{frame_fault}
use Rattle.gb_frame.specs.declared.agg.Agg.{Agg}
use Rattle.gb_frame.specs.Grouping.{aggregates_over, answer_parts}
use Rattle.gb_frame.specs.Agg.{agg_of, aggs_of}

names_content : (cs : Frame) → names_of cs ≡ map (λ (c : Content). c.name) (map content cs)
names_content [] = refl
names_content (c ∷ cs) = ap (λ names. c.name ∷ names) (names_content cs)

abbrev pub all_of_length : ℕ → List Content → Bool
all_of_length n [] = true
all_of_length n (c ∷ cs) = cond (length c.slots == n) (all_of_length n cs) false

lengths_content : (n : ℕ) (cs : Frame) → all_have_length n cs ≡ all_of_length n (map content cs)
lengths_content n [] = refl
lengths_content n (c ∷ cs) = ap (λ b. cond (length c.slots == n) b false) (lengths_content n cs)

abbrev content_height : List Content → ℕ
content_height [] = 0
content_height (c ∷ cs) = length c.slots

height_content : (cs : Frame) → frame_height cs ≡ content_height (map content cs)
height_content [] = refl
height_content (c ∷ cs) = refl

or_none_right : (a : Option Fault) → option_or a None ≡ a
or_none_right None = refl
or_none_right (Some f) = refl

module _ (frame : Frame) (rows : List ℕ) (lists : List (List ℕ)) (same : length rows ≡ length lists) where
  aggregates_long : (aggs : List (List ℕ × Method)) → all_of_length (length rows) (aggregates_over frame aggs lists) ≡ true
  aggregates_long [] = refl
  aggregates_long (agg ∷ aggs) =
      let long = length-map lists (λ rows. slot_of agg rows) ∙ sym same in
      rw (eq-eqb (length (aggregated agg (find_column frame agg.0) lists).slots) (length rows) long) (aggregates_long aggs)
    where
      slot_of : List ℕ × Method → List ℕ → Slot
      slot_of agg rows = fold_of agg.1 (type_in (find_column frame agg.0)) (slots_in (find_column frame agg.0)) rows

  parts_long : (keys : List ColumnValue) (aggs : List (List ℕ × Method)) → all_of_length (length rows) (answer_parts frame keys aggs rows lists) ≡ true
  parts_long [] aggs = aggregates_long aggs
  parts_long (key ∷ keys) aggs =
      rw (eq-eqb (length (map (slot_at key.slots) rows)) (length rows) (length-map rows (slot_at key.slots))) (parts_long keys aggs)

  parts_aligned : (key : ColumnValue) (keys : List ColumnValue) (aggs : List (List ℕ × Method)) →
      let parts = answer_parts frame (key ∷ keys) aggs rows lists in all_of_length (content_height parts) parts ≡ true
  parts_aligned key keys aggs =
      ap (λ n. all_of_length n (answer_parts frame (key ∷ keys) aggs rows lists)) (length-map rows (slot_at key.slots)) ∙ parts_long (key ∷ keys) aggs

  aggregate_names : (aggs : List (List ℕ × Method)) → map (λ (c : Content). c.name) (aggregates_over frame aggs lists) ≡ map (λ agg. answer_name agg.0 agg.1) aggs
  aggregate_names [] = refl
  aggregate_names (agg ∷ aggs) = ap (λ names. answer_name agg.0 agg.1 ∷ names) (aggregate_names aggs)

  part_names : (keys : List ColumnValue) (aggs : List (List ℕ × Method)) → map (λ (c : Content). c.name) (answer_parts frame keys aggs rows lists) ≡ answer_names keys aggs
  part_names [] aggs = aggregate_names aggs
  part_names (key ∷ keys) aggs = ap (λ names. key.name ∷ names) (part_names keys aggs)

  -- all that a frame of the parts can be refused for is a name that comes twice
  pub parts_fault : (key : ColumnValue) (keys : List ColumnValue) (aggs : List (List ℕ × Method)) (columns : Frame) →
      map content columns ≡ answer_parts frame (key ∷ keys) aggs rows lists → frame_fault columns ≡ duplicate_of (first_repeated (answer_names (key ∷ keys) aggs))
  parts_fault key keys aggs columns e =
      let names : names_of columns ≡ answer_names (key ∷ keys) aggs =
      names_content columns ∙ ap (map (λ (c : Content). c.name)) e ∙ part_names (key ∷ keys) aggs in
      let aligned : all_have_length (frame_height columns) columns ≡ true =
      lengths_content (frame_height columns) columns
      ∙ ap (λ n. all_of_length n (map content columns)) (height_content columns)
      ∙ ap (λ cs. all_of_length (content_height cs) cs) e ∙ parts_aligned key keys aggs in
      rw (names, aligned) (or_none_right (duplicate_of (first_repeated (answer_names (key ∷ keys) aggs))))

-- the columns with one aggregate more
module _ (frame : Frame) (keys : List ColumnValue) (rows : List ℕ) (lists : List (List ℕ)) (aggs : List Agg) (i : ℕ) (agg : Agg) (lt : i < length aggs) (read : agg ≡ get_or aggs i agg) where
  pub parts_more : (old : List Content) (one : Content) →
      old ≡ answer_parts frame keys (aggs_of (take i aggs)) rows lists →
      one ≡ aggregated (agg_of agg) (find_column frame (name_of agg.column)) lists →
      old ++ one ∷ [] ≡ answer_parts frame keys (aggs_of (take (i + 1) aggs)) rows lists
  parts_more old one before at =
      let column = λ (agg : List ℕ × Method). aggregated agg (find_column frame agg.0) lists in
      let firsts = map (λ key. content (taken rows key)) keys in
      rw (before, at) (append_assoc firsts (aggregates_over frame (aggs_of (take i aggs)) lists) (column (agg_of agg) ∷ [])
      ∙ ap (λ cs. firsts ++ cs) (sym (
      ap (map column) (map_more agg_of aggs i agg lt)
      ∙ map-append column (aggs_of (take i aggs)) (agg_of (get_or aggs i agg) ∷ [])
      ∙ ap (λ a. map column (aggs_of (take i aggs)) ++ column (agg_of a) ∷ []) (sym read))))
