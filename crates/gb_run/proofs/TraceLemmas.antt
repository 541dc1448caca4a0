-- How rows are grouped does not change with chunks, nor with columns that are not asked for; the line of a trace.
use Rattle.std.proofs.Common.{◌≡◌, ◌≢◌, ℕ, ◌<◌, Bool, true, false, inl, inr, List, [], ◌∷◌, ◌∙◌, Result, Ok, Err, length, map, refl, sym, ap, subst}
use Rattle.std.proofs.lemmas.Bool.{cases_Bool}
use Rattle.gb_defs.specs.Answer.{agree_of, kept_rows, stretched_key}
use Rattle.gb_defs.specs.Classes.{agree_by, firsts, rows_below}
use Rattle.gb_defs.specs.Column.{Ascending, ColumnValue, Descending, Frame, IsDetected, IsFrame, NotSorted, SortedFlag, frame_height, rechunked}
use Rattle.gb_defs.specs.Fold.{Method}
use Rattle.gb_defs.specs.Notes.{AreDetected, IsTraceLine, IsTraced, IsTracedIn, Trace, bounded_threshold, bounded_workers, detected, is_valued, keys_path, path_by_keys, trace_of, valued_keys}
use Rattle.gb_defs.specs.Request.{Group, ToolOptions}
use Rattle.gb_defs.specs.Table.{TableFault, table}
use Rattle.gb_text.specs.Asked.{asked_table, kept}
use Rattle.gb_text.specs.Table.{map_ok}
use Rattle.gb_text.proofs.ChunkLemmas.{agree_same, columns_same, found, height_same, tall_same}
use Rattle.gb_text.proofs.ReadingLemmas.{table_is_frame}
use Rattle.gb_run.specs.Request.{asked_names}
use Rattle.gb_run.proofs.CutLemmas as cut
use Rattle.gb_run.proofs.CutLemmas.{are_asked}
use Rattle.gb_run.proofs.ReportLemmas.{some_names}

-- ---- chunks

detected_same : (flag : SortedFlag) (key : ColumnValue) → IsDetected flag key → IsDetected flag (rechunked key)
detected_same Ascending key h = h
detected_same Descending key h = h
detected_same NotSorted key h = h

are_same : (flag : SortedFlag) (keys : Frame) → AreDetected flag keys → AreDetected flag (map rechunked keys)
are_same flag [] h = tt
are_same flag (key ∷ []) h = detected_same flag key h
are_same flag (key ∷ other ∷ keys) h = tt

valued_same : (keys : Frame) → valued_keys (map rechunked keys) ≡ map rechunked (valued_keys keys)
valued_same [] = refl
valued_same (key ∷ keys) = elim (cases_Bool (is_valued key)) [
  | inl yes' ↦ rw (yes', valued_same keys) refl
  | inr no' ↦ rw (no', valued_same keys) refl
]

none_same : (keys : Frame) (rows : ℕ) (multithreaded : Bool) (workers threshold : ℕ) → path_by_keys (map rechunked keys) rows multithreaded workers threshold ≡ path_by_keys keys rows multithreaded workers threshold
none_same [] rows multithreaded workers threshold = refl
none_same (key ∷ keys) rows multithreaded workers threshold = refl

path_same : (flag : SortedFlag) (keys : Frame) (multithreaded : Bool) (workers threshold : ℕ)
    → keys_path (detected flag (map rechunked keys)) multithreaded workers threshold ≡ keys_path (detected flag keys) multithreaded workers threshold
path_same flag [] multithreaded workers threshold = refl
path_same flag (key ∷ []) multithreaded workers threshold = refl
path_same flag (key ∷ other ∷ keys) multithreaded workers threshold =
    let all = key ∷ other ∷ keys in
    ap (λ ks. path_by_keys ks (length key.slots) multithreaded workers threshold) (valued_same all)
    ∙ none_same (valued_keys all) (length key.slots) multithreaded workers threshold

-- ---- a frame that is cut, and lies in chunks

module _ (by : List (List ℕ)) (workers threshold : ℕ) (trace : Trace) where
  traced_rechunked : (frame : Frame) → IsTraced frame by workers threshold trace → IsTraced (map rechunked frame) by workers threshold trace
  traced_rechunked frame t =
      let keys = t.keys in
      let path = keys_path (detected t.flag keys) true workers threshold in
      let groups = length (firsts (agree_of frame keys) (kept_rows frame keys)) in
      let groups_there = length (firsts (agree_of (map rechunked frame) (map rechunked keys)) (kept_rows (map rechunked frame) (map rechunked keys))) in
      let counted : groups_there ≡ groups =
      ap (λ (a : ℕ → ℕ → Bool). length (firsts a (kept_rows (map rechunked frame) (map rechunked keys)))) (agree_same frame keys)
      ∙ ap (λ n. length (firsts (agree_of frame keys) (rows_below n))) (height_same frame keys) in
      record {
        keys = map rechunked keys;
        found = columns_same frame by ∙ ap found t.found;
        flag = t.flag;
        ordered = are_same t.flag keys t.ordered;
        is = t.is
            ∙ sym (ap (λ p. trace_of p (frame_height (map rechunked keys)) groups_there) (path_same t.flag keys true workers threshold)
            ∙ ap (λ n. trace_of path n groups_there) (tall_same keys)
            ∙ ap (trace_of path (frame_height keys)) counted);
      }

  traced_cut : (names : List (List ℕ)) (frame : Frame) → IsFrame frame → by ≢ [] → are_asked names by ≡ true → IsTraced (kept names frame) by workers threshold trace → IsTraced frame by workers threshold trace
  traced_cut names frame f some asked t =
      let keys = t.keys in
      let path = keys_path (detected t.flag keys) true workers threshold in
      let there = sym (cut.columns_same names frame by asked) ∙ t.found in
      record {
        keys = keys;
        found = there;
        flag = t.flag;
        ordered = t.ordered;
        is = t.is
            ∙ ap (λ n. trace_of path (frame_height keys) (length (firsts (agree_by (map (λ key. (stretched_key n key).slots) keys)) (rows_below n))))
            (cut.height_same names frame by keys f some asked there);
      }

  traced_as : (aggs : List (List ℕ × Method)) (r : Result Frame TableFault) (frame : Frame) → by ≢ [] → ((whole : Frame) → r ≡ Ok whole → IsFrame whole)
      → map_ok (kept (asked_names by aggs)) r ≡ Ok (map rechunked frame) → IsTraced frame by workers threshold trace
      → (whole : Frame) × (r ≡ Ok whole) × IsTraced whole by workers threshold trace
  traced_as aggs (Err fault) frame some whole e t = cc
  traced_as aggs (Ok all) frame some whole e t =
      let names = asked_names by aggs in
      let same : kept names all ≡ map rechunked frame = cc in
      (all, refl, traced_cut names all (whole all refl) some (cut.keys_asked by aggs) (subst (λ (f : Frame). IsTraced f by workers threshold trace) (sym same) (traced_rechunked frame t)))

-- what is told of a frame that was read is told of the table
pub traced_in : (by : List (List ℕ)) (aggs : List (List ℕ × Method)) (options : ToolOptions) (bytes : List ℕ) (frame : Frame) → 0 < length by
    → asked_table (asked_names by aggs) bytes options.null_word ≡ Ok (map rechunked frame)
    → (trace : Trace) → IsTraced frame by (bounded_workers options) (bounded_threshold options) trace → IsTracedIn bytes (Group by aggs options) trace
traced_in by aggs options bytes frame some read trace t =
    traced_as by (bounded_workers options) (bounded_threshold options) trace aggs (table bytes options.null_word) frame (some_names by some) (table_is_frame options.null_word bytes) read t

-- ---- the line

-- a line of one trace is one of any that it is
pub line_is : (asked : Bool) (trace : Trace) (P : Trace → Type 0) (line : List ℕ) → P trace → IsTraceLine asked (λ told. told ≡ trace) line → IsTraceLine asked P line
line_is true trace P line holds told = (told.0, subst P (sym told.1) holds, told.2)
line_is false trace P line holds told = told
