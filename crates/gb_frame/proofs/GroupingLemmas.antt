-- Keys that a frame has by their names, and what a grouping by them is refused for.
use Rattle.std.proofs.Common.{◌≡◌, ℕ, ◌<◌, true, List, [], ◌∷◌, ◌++◌, ◌+◌, drop, get_or, take, Bor, Option, Some, None, Result, Ok, Err, length, map, refl, sym, ◌∙◌, ap, subst, arith, eq-eqb, is_none, if◌then◌else◌}
use Rattle.std.specs.Result.{result_err}
use Rattle.std.proofs.lemmas.List.{drop_more, length-map, map-append, take-append-drop}
use Rattle.std.proofs.lemmas.Bool.{le-ltb}
use Rattle.gb_defs.specs.Column.{ColumnValue, Content, Frame, IsFrame, all_have_length, content, find_column, first_repeated, frame_height}
use Rattle.gb_defs.specs.Fold.{Method}
use Rattle.gb_defs.specs.Groups.{HasRowNumbers, first_of}
use Rattle.gb_defs.specs.Notes.{IsTraced, Trace, detected, keys_path, trace_of}
use Rattle.gb_defs.specs.Answer.{answer_names, height_of}
use Rattle.gb_defs.specs.Fault.{ColumnNotFound, Fault, duplicate_of, fault, keyless_fault, rows_fault, shape_fault}
use Rattle.gb_defs.specs.Outcome.{column_onto, find_columns, grouped, grouped_by, grouped_if}
use Rattle.gb_defs.proofs.AnswerLemmas.{AreHigh, faulty}
use Rattle.gb_base.specs.PolarsError.{IsCause}
use Rattle.gb_base.specs.Pool.{threshold_of, workers_of}
use Rattle.gb_base.specs.declared.pool.Pool.{Pool}
use Rattle.gb_paths.specs.Tuples.{AreFound}
use Rattle.gb_rows.specs.Lent.{keys_in}
use Rattle.gb_series.specs.Series.{value_of}
use Rattle.gb_series.specs.declared.series.Series.{Series}
use Rattle.gb_series.specs.Frame.{frame_fault, missing_column}
use Rattle.gb_series.proofs.FrameLemmas.{found_long}
use Rattle.gb_frame.specs.Grouping.{answer_parts}
use Rattle.gb_frame.specs.Answers.{IsTracedAnswer}
use Rattle.gb_frame.specs.GroupBy.{in_order}
use Rattle.gb_frame.specs.Refusals.{keys_fault}
use Rattle.gb_frame.proofs.StretchLemmas.{first_high, keys_same}
use Rattle.gb_frame.proofs.PartLemmas.{parts_fault}

-- ---- keys found by name

module _ (frame : Frame) (aligned : all_have_length (frame_height frame) frame ≡ true) where
  onto_high : (name : List ℕ) (found : Option ColumnValue) (rest : Result (List ColumnValue) Fault) (keys : List ColumnValue) →
      ((c : ColumnValue) → found ≡ Some c → length c.slots ≡ frame_height frame) → ((cs : List ColumnValue) → rest ≡ Ok cs → AreHigh (frame_height frame) cs) →
      column_onto name found rest ≡ Ok keys → AreHigh (frame_height frame) keys
  onto_high name None rest keys one more e = cc
  onto_high name (Some c) (Err f) keys one more e = cc
  onto_high name (Some c) (Ok cs) keys one more e = let same : c ∷ cs ≡ keys = cc in subst (AreHigh (frame_height frame)) same (one c refl, more cs refl)

  pub found_high : (by : List (List ℕ)) (keys : List ColumnValue) → find_columns frame by ≡ Ok keys → AreHigh (frame_height frame) keys
  found_high [] keys e = let same : [] ≡ keys = cc in subst (AreHigh (frame_height frame)) same tt
  found_high (name ∷ names) keys e =
      onto_high name (find_column frame name) (find_columns frame names) keys (λ c at. found_long (frame_height frame) frame name c aligned at) (λ cs at. found_high names cs at) e

nothing_found : (keys : List ColumnValue) → [] ≡ keys → 0 < length keys → ⊥
nothing_found [] e some = omega (arith, some)
nothing_found (key ∷ keys) e some = cc e

height_same : (frame : Frame) (names : List (List ℕ)) (keys : List ColumnValue) → find_columns frame names ≡ Ok keys → 0 < length keys → height_of frame keys ≡ frame_height frame
height_same frame [] keys e some = let none : [] ≡ keys = cc e in absurd (nothing_found keys none some)
height_same [] (name ∷ names) keys e some = cc e
height_same (c ∷ cs) (name ∷ names) keys e some = refl

-- as many keys are found as are named
onto_some : (name : List ℕ) (found : Option ColumnValue) (rest : Result (List ColumnValue) Fault) (keys : List ColumnValue) → column_onto name found rest ≡ Ok keys → 0 < length keys
onto_some name None rest keys e = cc
onto_some name (Some c) (Err f) keys e = cc
onto_some name (Some c) (Ok cs) keys e = let same : c ∷ cs ≡ keys = cc in subst (λ (ks : List ColumnValue). 0 < length ks) same (omega arith)

pub found_some : (frame : Frame) (names : List (List ℕ)) (keys : List ColumnValue) → find_columns frame names ≡ Ok keys → 0 < length names → 0 < length keys
found_some frame [] keys e some = absurd (omega (arith, some))
found_some frame (name ∷ names) keys e some = onto_some name (find_column frame name) (find_columns frame names) keys e

-- keys that are found one after the other
onto_more : (name : List ℕ) (found : Option ColumnValue) (a b : Result (List ColumnValue) Fault) (front : List ColumnValue) (key : ColumnValue)
    → ((cs : List ColumnValue) → a ≡ Ok cs → b ≡ Ok (cs ++ key ∷ [])) → column_onto name found a ≡ Ok front → column_onto name found b ≡ Ok (front ++ key ∷ [])
onto_more name None a b front key more e = cc
onto_more name (Some c) (Err f) b front key more e = cc
onto_more name (Some c) (Ok cs) b front key more e =
    let same : c ∷ cs ≡ front = cc in rw (more cs refl) (ap (λ (ks : List ColumnValue). Ok (ks ++ key ∷ [])) same)

pub found_more : (frame : Frame) (names : List (List ℕ)) (name : List ℕ) (front : List ColumnValue) (key : ColumnValue) → find_columns frame names ≡ Ok front → find_column frame name ≡ Some key
    → find_columns frame (names ++ name ∷ []) ≡ Ok (front ++ key ∷ [])
found_more frame [] name front key e at = let none : [] ≡ front = cc in rw (at, ← none) refl
found_more frame (other ∷ names) name front key e at =
    onto_more other (find_column frame other) (find_columns frame names) (find_columns frame (names ++ name ∷ [])) front key (λ cs is. found_more frame names name cs key is at) e

onto_missing : (other : List ℕ) (found : Option ColumnValue) (a b : Result (List ColumnValue) Fault) (front : List ColumnValue) (f : Fault)
    → ((cs : List ColumnValue) → a ≡ Ok cs → b ≡ Err f) → column_onto other found a ≡ Ok front → column_onto other found b ≡ Err f
onto_missing other None a b front f missing e = cc
onto_missing other (Some c) (Err g) b front f missing e = cc
onto_missing other (Some c) (Ok cs) b front f missing e = rw (missing cs refl) refl

-- the first name that is missing is the fault
found_missing : (frame : Frame) (names : List (List ℕ)) (name : List ℕ) (rest : List (List ℕ)) (front : List ColumnValue) → find_columns frame names ≡ Ok front → find_column frame name ≡ None
    → find_columns frame (names ++ name ∷ rest) ≡ Err (ColumnNotFound name)
found_missing frame [] name rest front e at = rw at refl
found_missing frame (other ∷ names) name rest front e at =
    onto_missing other (find_column frame other) (find_columns frame names) (find_columns frame (names ++ name ∷ rest)) front (ColumnNotFound name) (λ cs is. found_missing frame names name rest cs is at) e

missing_cause : (found : Option ColumnValue) (name : List ℕ) (known : Option Fault) (r : Result (List ColumnValue) Fault) → (found ≡ None → r ≡ Err (ColumnNotFound name))
    → IsCause known (if is_none found then Some (ColumnNotFound name) else None) → IsCause known (result_err r)
missing_cause found name None r missing h = tt
missing_cause None name (Some f) r missing h = rw (missing refl) h
missing_cause (Some key) name (Some f) r missing h = cc h

pub keys_missing : (frame : Frame) (names : List (List ℕ)) (name : List ℕ) (rest : List (List ℕ)) (front : List ColumnValue) → find_columns frame names ≡ Ok front
    → (known : Option Fault) → IsCause known (missing_column frame name) → IsCause known (result_err (find_columns frame (names ++ name ∷ rest)))
keys_missing frame names name rest front e known h =
    missing_cause (find_column frame name) name known (find_columns frame (names ++ name ∷ rest)) (λ at. found_missing frame names name rest front e at) h

-- names before one, itself, and those behind it
pub names_split : {A : Type 0} (f : A → List ℕ) (xs : List A) (i : ℕ) (x : A) → i < length xs → x ≡ get_or xs i x → map f xs ≡ map f (take i xs) ++ f x ∷ map f (drop (i + 1) xs)
names_split f xs i x lt read =
    ap (map f) (sym (take-append-drop i xs))
    ∙ map-append f (take i xs) (drop i xs)
    ∙ ap (λ rest. map f (take i xs) ++ map f rest) (drop_more xs i x lt)
    ∙ ap (λ y. map f (take i xs) ++ f y ∷ map f (drop (i + 1) xs)) (sym read)

-- a key that is missing is why there is no grouping
unfound : (frame : Frame) (r : Result (List ColumnValue) Fault) (aggs : List (List ℕ × Method)) (known : Option Fault) → IsCause known (result_err r) → IsCause known (result_err (grouped_if frame r aggs))
unfound frame r aggs None h = tt
unfound frame (Ok keys) aggs (Some f) h = cc
unfound frame (Err g) aggs (Some f) h = h

pub unfound_keys : (frame : Frame) (names : List (List ℕ)) (aggs : List (List ℕ × Method)) (known : Option Fault) → IsCause known (result_err (find_columns frame names)) → IsCause known (result_err (grouped frame names aggs))
unfound_keys frame names aggs known h = unfound frame (find_columns frame names) aggs known h

shape_none : (height : ℕ) (keys : List ColumnValue) → AreHigh height keys → shape_fault height keys ≡ None
shape_none height [] high = refl
shape_none height (key ∷ keys) high = rw (eq-eqb (length key.slots) height high.0) (shape_none height keys high.1)

pub rows_none : (height : ℕ) → HasRowNumbers height → rows_fault height ≡ None
rows_none height lt = rw (le-ltb 4294967295 height (omega (arith, lt)))

pub keyless_none : (keys : List ColumnValue) → 0 < length keys → keyless_fault keys ≡ None
keyless_none [] some = absurd (omega (arith, some))
keyless_none (key ∷ keys) some = refl

-- what a frame of the columns is refused for
pub columns_fault : (frame : Frame) (rows : List ℕ) (lists : List (List ℕ)) → length rows ≡ length lists → (keys : List ColumnValue) → 0 < length keys → (aggs : List (List ℕ × Method)) (columns : Frame)
    → map content columns ≡ answer_parts frame keys aggs rows lists → frame_fault columns ≡ duplicate_of (first_repeated (answer_names keys aggs))
columns_fault frame rows lists same [] some aggs columns e = absurd (omega (arith, some))
columns_fault frame rows lists same (key ∷ keys) some aggs columns e = parts_fault frame rows lists same key keys aggs columns e

-- ---- a grouping by names

module _ (frame : Frame) (whole : IsFrame frame) (names : List (List ℕ)) (keys : List ColumnValue) (found : find_columns frame names ≡ Ok keys) (some : 0 < length keys) where
  pub names_height : height_of frame keys ≡ frame_height frame
  names_height = height_same frame names keys found some

  -- the keys are columns of the frame, and as long as it is high
  pub names_high : AreHigh (height_of frame keys) keys
  names_high = subst (λ (n : ℕ). AreHigh n keys) (sym names_height) (found_high frame whole.aligned names keys found)

  -- so that they are refused for their number of rows alone
  pub names_left : keys_fault frame keys ≡ rows_fault (frame_height frame)
  names_left = rw (keyless_none keys some, shape_none (height_of frame keys) keys names_high, names_height) refl

module _ (frame : Frame) (names : List (List ℕ)) (keys : List ColumnValue) (found : find_columns frame names ≡ Ok keys) (aggs : List (List ℕ × Method)) where
  pub grouped_names : (columns : List Content) → grouped_by frame keys aggs ≡ Ok columns → grouped frame names aggs ≡ Ok columns
  grouped_names columns made = rw found made

  pub refused_names : (known : Option Fault) → IsCause known (fault frame keys aggs) → IsCause known (result_err (grouped frame names aggs))
  refused_names None h = tt
  refused_names (Some f) h = ap result_err (faulty frame names aggs keys found f h)

-- what is told of groups by the columns of names
module _ (frame : Frame) (names : List (List ℕ)) (keys : List ColumnValue) (found : find_columns frame names ≡ Ok keys) (some : 0 < length keys) (aggs : List (List ℕ × Method)) (pool : Pool)
    (made : List Content) (trace : Trace) (told : IsTracedAnswer frame keys aggs in_order pool made trace) where
  pub names_traced : IsTraced frame names (workers_of pool) (threshold_of pool) trace
  names_traced =
      let pairs = told.answer.groups.pairs in
      let same = keys_same frame keys (names_high frame told.frame_is names keys found some) in
      let on : AreFound keys true true pool told.answer.groups told.answer.path = subst (λ ks. AreFound ks true true pool told.answer.groups told.answer.path) same told.answer.found in
      let path = keys_path (detected on.flag keys) true (workers_of pool) (threshold_of pool) in
      record {
        keys = keys;
        found = found;
        flag = on.flag;
        ordered = on.ordered;
        is = told.traced
            ∙ ap (λ p. trace_of p (height_of frame keys) (length pairs)) on.path_is
            ∙ ap (λ n. trace_of path n (length pairs)) (sym (first_high (height_of frame keys) keys (names_high frame told.frame_is names keys found some) some))
            ∙ ap (trace_of path (frame_height keys)) (sym (length-map pairs first_of) ∙ ap length (told.answer.by_first refl));
      }

-- ---- lent keys

-- the first key is as long as all are
pub first_long : (keys : List (Bor Series)) (key d : Bor Series) → 0 < length keys → key ≡ get_or keys 0 d → length (value_of key.now).slots ≡ frame_height (keys_in keys)
first_long [] key d some is = absurd (omega (arith, some))
first_long (k ∷ ks) key d some is = ap (λ (x : Bor Series). length (value_of x.now).slots) is
