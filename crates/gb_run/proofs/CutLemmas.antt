-- A frame cut to the columns that are asked for groups by those columns as the whole does.
use Rattle.std.proofs.Common.{◌≡◌, ◌≢◌, ℕ, Bool, true, inl, inr, List, [], ◌∷◌, ◌++◌, append_assoc, map, refl, sym, ◌∙◌, ap, Result, Ok, Err}
use Rattle.std.specs.List.{list_all}
use Rattle.std.specs.Str.{bytes_eq}
use Rattle.std.specs.Cmp.Lexicographic.{bytes_decides}
use Rattle.std.proofs.lemmas.Bool.{and_parts, cases_Bool}
use Rattle.gb_defs.specs.Answer.{aggregated, agree_of, answer, height_of}
use Rattle.gb_defs.specs.Classes.{class, rows_below}
use Rattle.gb_defs.specs.Column.{ColumnValue, Frame, IsFrame, all_have_length, find_column, frame_height}
use Rattle.gb_defs.specs.Fault.{Fault, fault, missing_fault, unfit_fault}
use Rattle.gb_defs.specs.Fold.{Method}
use Rattle.gb_defs.specs.Outcome.{column_onto, find_columns, grouped, grouped_by, grouped_if}
use Rattle.gb_text.specs.Asked.{is_asked, kept}
use Rattle.gb_text.proofs.AskedLemmas.{aligned_kept, aligned_tail, find_kept}
use Rattle.gb_run.specs.Request.{asked_names}

abbrev SameAt : Frame → Frame → List (List ℕ × Method) → Type 0
SameAt f g [] = Unit {0}
SameAt f g (agg ∷ aggs) = (find_column f agg.0 ≡ find_column g agg.0) × SameAt f g aggs

module _ (f g : Frame) where
  missing_same : (aggs : List (List ℕ × Method)) → SameAt f g aggs → missing_fault f aggs ≡ missing_fault g aggs
  missing_same [] s = refl
  missing_same (agg ∷ aggs) s = rw (s.0, missing_same aggs s.1) refl

  unfit_same : (aggs : List (List ℕ × Method)) → SameAt f g aggs → unfit_fault f aggs ≡ unfit_fault g aggs
  unfit_same [] s = refl
  unfit_same (agg ∷ aggs) s = rw (s.0, unfit_same aggs s.1) refl

  aggregated_same : (aggs : List (List ℕ × Method)) (lists : List (List ℕ)) → SameAt f g aggs
      → map (λ agg. aggregated agg (find_column f agg.0) lists) aggs ≡ map (λ agg. aggregated agg (find_column g agg.0) lists) aggs
  aggregated_same [] lists s = refl
  aggregated_same (agg ∷ aggs) lists s = rw (s.0, aggregated_same aggs lists s.1) refl

  module _ (aggs : List (List ℕ × Method)) (keys : List ColumnValue) (h : height_of f keys ≡ height_of g keys) (s : SameAt f g aggs) where
    fault_same : fault f keys aggs ≡ fault g keys aggs
    unfolding fault
    fault_same = rw (h, missing_same aggs s, unfit_same aggs s) refl

    answer_same : (rows : List ℕ) → answer f keys aggs rows ≡ answer g keys aggs rows
    unfolding answer
    answer_same rows = rw (h, aggregated_same aggs (map (class (agree_of g keys) (rows_below (height_of g keys))) rows) s) refl

    grouped_same : grouped_by f keys aggs ≡ grouped_by g keys aggs
    unfolding grouped_by
    grouped_same = rw (fault_same, h, answer_same _) refl

-- ---- a frame that is cut

abbrev pub are_asked : List (List ℕ) → List (List ℕ) → Bool
are_asked names asked = list_all (is_asked names) asked

module _ (names : List (List ℕ)) (frame : Frame) where
  kept_same : (aggs : List (List ℕ × Method)) → are_asked names (map (λ agg. agg.0) aggs) ≡ true → SameAt (kept names frame) frame aggs
  kept_same [] a = tt
  kept_same (agg ∷ aggs) a =
      let p = and_parts (is_asked names agg.0) (are_asked names (map (λ agg. agg.0) aggs)) a in
      (find_kept names frame agg.0 p.0, kept_same aggs p.1)

  pub columns_same : (by : List (List ℕ)) → are_asked names by ≡ true → find_columns (kept names frame) by ≡ find_columns frame by
  columns_same [] a = refl
  columns_same (name ∷ by) a =
      let p = and_parts (is_asked names name) (are_asked names by) a in
      rw (find_kept names frame name p.0, columns_same by p.1) refl

  -- a frame in which a column is found has the height of its columns
  found_height : (f : Frame) (name : List ℕ) (rest : Result (List ColumnValue) Fault) (keys : List ColumnValue) (n : ℕ) → all_have_length n f ≡ true
      → column_onto name (find_column f name) rest ≡ Ok keys → height_of f keys ≡ n
  found_height [] name rest keys n all e = cc
  found_height (c ∷ cs) name rest keys n all e = (aligned_tail n c cs all).0

  pub height_same : (by : List (List ℕ)) (keys : List ColumnValue) → IsFrame frame → by ≢ [] → are_asked names by ≡ true → find_columns frame by ≡ Ok keys
      → height_of (kept names frame) keys ≡ height_of frame keys
  height_same [] keys f some a e = absurd (some refl)
  height_same (name ∷ by) keys f some a e =
      let p = and_parts (is_asked names name) (are_asked names by) a in
      let n = frame_height frame in
      let here = rw (← (find_kept names frame name p.0)) at e in
      found_height (kept names frame) name (find_columns frame by) keys n (aligned_kept names n frame f.aligned) here
      ∙ sym (found_height frame name (find_columns frame by) keys n f.aligned e)

  same_if : (by : List (List ℕ)) (aggs : List (List ℕ × Method)) (r : Result (List ColumnValue) Fault) → IsFrame frame → by ≢ []
      → are_asked names by ≡ true → are_asked names (map (λ agg. agg.0) aggs) ≡ true → find_columns frame by ≡ r → grouped_if (kept names frame) r aggs ≡ grouped_if frame r aggs
  same_if by aggs (Err missing) f some a b e = refl
  same_if by aggs (Ok keys) f some a b e = grouped_same (kept names frame) frame aggs keys (height_same by keys f some a e) (kept_same aggs b)

  -- the columns that the keys and the aggregates name are all that a grouping reads
  pub grouped_kept : (by : List (List ℕ)) (aggs : List (List ℕ × Method)) → IsFrame frame → by ≢ []
      → are_asked names by ≡ true → are_asked names (map (λ agg. agg.0) aggs) ≡ true → grouped (kept names frame) by aggs ≡ grouped frame by aggs
  grouped_kept by aggs f some a b =
      ap (λ r. grouped_if (kept names frame) r aggs) (columns_same by a) ∙ same_if by aggs (find_columns frame by) f some a b refl

-- ---- the names that a request asks

asked_here : (front : List (List ℕ)) (name : List ℕ) (rest : List (List ℕ)) → is_asked (front ++ name ∷ rest) name ≡ true
asked_here [] name rest = let same : bytes_eq name name ≡ true = (bytes_decides name name).1 refl in rw same refl
asked_here (other ∷ front) name rest = elim (cases_Bool (bytes_eq name other)) [
  | inl same ↦ rw same refl
  | inr differs ↦ rw differs (asked_here front name rest)
]

asked_behind : (front names : List (List ℕ)) → are_asked (front ++ names) names ≡ true
asked_behind front [] = refl
asked_behind front (name ∷ names) =
    let rest = rw (append_assoc front (name ∷ []) names) at (asked_behind (front ++ name ∷ []) names) in
    rw (asked_here front name names, rest) refl

asked_front : (names behind front : List (List ℕ)) → are_asked (front ++ (names ++ behind)) names ≡ true
asked_front [] behind front = refl
asked_front (name ∷ names) behind front =
    let rest = rw (append_assoc front (name ∷ []) (names ++ behind)) at (asked_front names behind (front ++ name ∷ [])) in
    rw (asked_here front name (names ++ behind), rest) refl

pub keys_asked : (by : List (List ℕ)) (aggs : List (List ℕ × Method)) → are_asked (asked_names by aggs) by ≡ true
keys_asked by aggs = asked_front by (map (λ (agg : List ℕ × Method). agg.0) aggs) []

-- the keys and the columns that are aggregated are all that a grouping reads
pub grouped_asked : (frame : Frame) (by : List (List ℕ)) (aggs : List (List ℕ × Method)) → IsFrame frame → by ≢ []
    → grouped (kept (asked_names by aggs) frame) by aggs ≡ grouped frame by aggs
grouped_asked frame by aggs f some =
    let names = map (λ (agg : List ℕ × Method). agg.0) aggs in
    grouped_kept (asked_names by aggs) frame by aggs f some (keys_asked by aggs) (asked_behind by names)
