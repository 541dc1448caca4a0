-- A frame groups as the same frame does with each column in one chunk.
use Rattle.std.proofs.Common.{◌≡◌, ◌==◌, ℕ, Bool, inl, inr, List, [], ◌∷◌, length, map, refl, ◌∙◌, ap, Option, Some, None, Result, Ok, Err}
use Rattle.std.specs.Prelude.{option_map, is_none, not, ◌||◌}
use Rattle.std.specs.List.{list_any}
use Rattle.std.specs.Str.{bytes_eq}
use Rattle.std.proofs.lemmas.Bool.{cases_Bool}
use Rattle.gb_defs.specs.Answer.{aggregated, agree_of, answer, height_of, key_at, stretched_key}
use Rattle.gb_defs.specs.Classes.{agree_by, class, longest, rows_below}
use Rattle.gb_defs.specs.Column.{ColumnValue, Frame, IsFrame, all_have_length, find_column, frame_height, names_of, rechunked}
use Rattle.gb_defs.specs.Fault.{Fault, fault, keyless_fault, missing_fault, shape_fault, unfit_at, unfit_fault}
use Rattle.gb_defs.specs.Fold.{Method}
use Rattle.gb_defs.specs.Outcome.{column_onto, find_columns, grouped, grouped_by, grouped_if}

-- ---- what is read of a list of columns

map_same : {Y : Type 0} (f : ColumnValue → Y) → ((c : ColumnValue) → f (rechunked c) ≡ f c) → (cs : List ColumnValue) → map f (map rechunked cs) ≡ map f cs
map_same f same [] = refl
map_same f same (c ∷ cs) = rw (same c, map_same f same cs) refl

any_same : (p : ColumnValue → Bool) → ((c : ColumnValue) → p (rechunked c) ≡ p c) → (cs : List ColumnValue) → list_any p (map rechunked cs) ≡ list_any p cs
any_same p same [] = refl
any_same p same (c ∷ cs) = rw (same c, any_same p same cs) refl

keyless_same : (keys : List ColumnValue) → keyless_fault (map rechunked keys) ≡ keyless_fault keys
keyless_same [] = refl
keyless_same (key ∷ keys) = refl

-- ---- columns by their names

find_same : (frame : Frame) (name : List ℕ) → find_column (map rechunked frame) name ≡ option_map rechunked (find_column frame name)
find_same [] name = refl
find_same (c ∷ cs) name = elim (cases_Bool (bytes_eq c.name name)) [ inl same ↦ rw same refl | inr other ↦ rw other (find_same cs name) ]

abbrev pub found : Result (List ColumnValue) Fault → Result (List ColumnValue) Fault
found (Err missing) = Err missing
found (Ok cs) = Ok (map rechunked cs)

onto_same : (name : List ℕ) (o : Option ColumnValue) (r : Result (List ColumnValue) Fault) → column_onto name (option_map rechunked o) (found r) ≡ found (column_onto name o r)
onto_same name None r = refl
onto_same name (Some c) (Err missing) = refl
onto_same name (Some c) (Ok cs) = refl

pub columns_same : (frame : Frame) (by : List (List ℕ)) → find_columns (map rechunked frame) by ≡ found (find_columns frame by)
columns_same frame [] = refl
columns_same frame (name ∷ by) = rw (find_same frame name, columns_same frame by) (onto_same name (find_column frame name) (find_columns frame by))

pub height_same : (frame : Frame) (keys : List ColumnValue) → height_of (map rechunked frame) (map rechunked keys) ≡ height_of frame keys
height_same [] keys = ap longest (map_same (λ key. key.slots) (λ c. refl) keys)
height_same (c ∷ cs) keys = refl

-- ---- aggregates

module _ (frame : Frame) where
  none_same : (o : Option ColumnValue) → is_none (option_map rechunked o) ≡ is_none o
  none_same None = refl
  none_same (Some c) = refl

  missing_same : (aggs : List (List ℕ × Method)) → missing_fault (map rechunked frame) aggs ≡ missing_fault frame aggs
  missing_same [] = refl
  missing_same (agg ∷ aggs) = rw (find_same frame agg.0, none_same (find_column frame agg.0), missing_same aggs) refl

  unfit_at_same : (method : Method) (o : Option ColumnValue) → unfit_at method (option_map rechunked o) ≡ unfit_at method o
  unfit_at_same method None = refl
  unfit_at_same method (Some c) = refl

  unfit_same : (aggs : List (List ℕ × Method)) → unfit_fault (map rechunked frame) aggs ≡ unfit_fault frame aggs
  unfit_same [] = refl
  unfit_same (agg ∷ aggs) = rw (find_same frame agg.0, unfit_at_same agg.1 (find_column frame agg.0), unfit_same aggs) refl

  one_same : (agg : List ℕ × Method) (o : Option ColumnValue) (lists : List (List ℕ)) → aggregated agg (option_map rechunked o) lists ≡ aggregated agg o lists
  one_same agg None lists = refl
  one_same agg (Some c) lists = refl

  aggregated_same : (aggs : List (List ℕ × Method)) (lists : List (List ℕ))
      → map (λ agg. aggregated agg (find_column (map rechunked frame) agg.0) lists) aggs ≡ map (λ agg. aggregated agg (find_column frame agg.0) lists) aggs
  aggregated_same [] lists = refl
  aggregated_same (agg ∷ aggs) lists = rw (find_same frame agg.0, one_same agg (find_column frame agg.0) lists, aggregated_same aggs lists) refl

  -- ---- groups

  module _ (keys : List ColumnValue) where
    pub agree_same : agree_of (map rechunked frame) (map rechunked keys) ≡ agree_of frame keys
    agree_same = rw (height_same frame keys) (ap agree_by (map_same (λ key. (stretched_key (height_of frame keys) key).slots) (λ c. refl) keys))

    shape_same : (height : ℕ) → shape_fault height (map rechunked keys) ≡ shape_fault height keys
    shape_same height = rw (any_same (λ key. not ((length key.slots == height) || (length key.slots == 1))) (λ c. refl) keys) refl

    fault_same : (aggs : List (List ℕ × Method)) → fault (map rechunked frame) (map rechunked keys) aggs ≡ fault frame keys aggs
    unfolding fault
    fault_same aggs =
        rw (height_same frame keys, keyless_same keys, shape_same (height_of frame keys), missing_same aggs, unfit_same aggs, map_same (λ key. key.name) (λ c. refl) keys) refl

    answer_same : (aggs : List (List ℕ × Method)) (rows : List ℕ) → answer (map rechunked frame) (map rechunked keys) aggs rows ≡ answer frame keys aggs rows
    unfolding answer
    answer_same aggs rows =
        let lists = map (class (agree_of frame keys) (rows_below (height_of frame keys))) rows in
        rw (agree_same, height_same frame keys, map_same (key_at (height_of frame keys) rows) (λ c. refl) keys, aggregated_same aggs lists) refl

    by_same : (aggs : List (List ℕ × Method)) → grouped_by (map rechunked frame) (map rechunked keys) aggs ≡ grouped_by frame keys aggs
    unfolding grouped_by
    by_same aggs = rw (fault_same aggs, agree_same, height_same frame keys, answer_same aggs _) refl

  if_same : (aggs : List (List ℕ × Method)) (r : Result (List ColumnValue) Fault) → grouped_if (map rechunked frame) (found r) aggs ≡ grouped_if frame r aggs
  if_same aggs (Err missing) = refl
  if_same aggs (Ok keys) = by_same keys aggs

  pub grouped_rechunked : (by : List (List ℕ)) (aggs : List (List ℕ × Method)) → grouped (map rechunked frame) by aggs ≡ grouped frame by aggs
  grouped_rechunked by aggs = ap (λ r. grouped_if (map rechunked frame) r aggs) (columns_same frame by) ∙ if_same aggs (find_columns frame by)

-- ---- a frame stays one

names_same : (frame : Frame) → names_of (map rechunked frame) ≡ names_of frame
names_same frame = map_same (λ c. c.name) (λ c. refl) frame

lengths_same : (n : ℕ) (frame : Frame) → all_have_length n (map rechunked frame) ≡ all_have_length n frame
lengths_same n [] = refl
lengths_same n (c ∷ cs) = rw (lengths_same n cs) refl

pub tall_same : (frame : Frame) → frame_height (map rechunked frame) ≡ frame_height frame
tall_same [] = refl
tall_same (c ∷ cs) = refl

pub frame_rechunked : (frame : Frame) → IsFrame (map rechunked frame) → IsFrame frame
frame_rechunked frame f = record {
  distinct = rw (names_same frame) at f.distinct;
  aligned = rw (tall_same frame, lengths_same (frame_height frame) frame) at f.aligned;
}
