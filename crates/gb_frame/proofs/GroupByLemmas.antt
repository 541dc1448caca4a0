-- Why there is no grouping by names, and no answer over groups.
use Rattle.std.proofs.Common.{◌≡◌, ◌∙◌, ℕ, zero, suc, ◌+◌, ◌<◌, ◌||◌, Bool, true, false, not, eqb, Bor, List, [], ◌∷◌, ◌++◌, Option, None, Ok, get_or, length, map, take, ap, arith, refl, sym}
use Rattle.std.specs.List.{filter, list_any}
use Rattle.std.specs.Str.{bytes_eq}
use Rattle.std.proofs.lemmas.List.{append-nil, map-append, take_more}
use Rattle.std.proofs.lemmas.List.Elements.{filter-append}
use Rattle.std.proofs.lemmas.List.Folds.{list_any-append}
use Rattle.std.specs.Result.{result_err}
use Rattle.gb_defs.specs.Column.{ColumnValue, Frame, content, first_repeated, frame_height, names_of}
use Rattle.gb_defs.specs.Fault.{Fault, duplicate_of, missing_fault, rows_fault, unfit_fault}
use Rattle.gb_defs.specs.Fold.{Method}
use Rattle.gb_defs.specs.Outcome.{find_columns}
use Rattle.gb_base.specs.PolarsError.{IsCause}
use Rattle.gb_rows.specs.Lent.{keys_in}
use Rattle.gb_series.specs.Frame.{frame_fault}
use Rattle.gb_series.specs.Series.{value_of}
use Rattle.gb_series.specs.declared.series.Series.{Series}
use Rattle.gb_frame.specs.Refusals.{aggs_fault, chosen, each_by, keys_fault, names_fault, nameless_fault}
use Rattle.gb_frame.specs.Grouping.{answer_parts}
use Rattle.gb_frame.proofs.CauseLemmas.{cause_first}
use Rattle.gb_frame.proofs.GroupingLemmas.{columns_fault}

-- there are some
pub some_of : (n : ℕ) → false ≡ eqb n 0 → 0 < n
some_of zero e = cc
some_of (suc n) e = omega arith

nameless_none : (by : List (List ℕ)) → 0 < length by → nameless_fault by ≡ None
nameless_none [] some = absurd (omega (arith, some))
nameless_none (name ∷ names) some = refl

module _ (frame : Frame) (by : List (List ℕ)) (some : 0 < length by) where
  pub names_missing : (known : Option Fault) → IsCause known (result_err (find_columns frame by)) → IsCause known (names_fault frame by)
  names_missing known h = rw (nameless_none by some) (cause_first known _ _ h)

  module _ (keys : Frame) (found : find_columns frame by ≡ Ok keys) where
    pub names_repeated : (known : Option Fault) → IsCause known (duplicate_of (first_repeated by)) → IsCause known (names_fault frame by)
    names_repeated known h = rw (nameless_none by some, found) (cause_first known _ _ h)

    -- where each is found once
    pub names_by_keys : first_repeated by ≡ None → keys_fault frame keys ≡ rows_fault (frame_height frame) → names_fault frame by ≡ keys_fault frame keys
    names_by_keys apart left = rw (nameless_none by some, found, apart) (sym left)

module _ (frame keys : Frame) (aggs : List (List ℕ × Method)) where
  pub aggs_missing : (known : Option Fault) → IsCause known (missing_fault frame aggs) → IsCause known (aggs_fault frame keys aggs)
  aggs_missing known h = cause_first known _ _ h

  module _ (there : missing_fault frame aggs ≡ None) where
    pub aggs_unfit : (known : Option Fault) → IsCause known (unfit_fault frame aggs) → IsCause known (aggs_fault frame keys aggs)
    aggs_unfit known h = rw there (cause_first known _ _ h)

    module _ (fit : unfit_fault frame aggs ≡ None) (some : 0 < length keys) (rows : List ℕ) (lists : List (List ℕ)) (same : length rows ≡ length lists)
        (columns : Frame) (are : map content columns ≡ answer_parts frame keys aggs rows lists) where
      pub aggs_named : aggs_fault frame keys aggs ≡ frame_fault columns
      aggs_named = rw (there, fit) (sym (columns_fault frame rows lists same keys some aggs columns are))

-- ---- the columns that are chosen

pub any_found : {A : Type 0} (p : A → Bool) (xs : List A) (i : ℕ) (x : A) → i < length xs → x ≡ get_or xs i x → p x ≡ true → list_any p xs ≡ true
any_found p [] i x lt is h = absurd (omega (arith, lt))
any_found p (y ∷ ys) zero x lt is h = rw (sym (ap p is) ∙ h) refl
any_found p (y ∷ ys) (suc i) x lt is h = rw (any_found p ys i x (omega (arith, lt)) is h) (or_true (p y))
  where
    or_true : (b : Bool) → (b || true) ≡ true
    or_true true = refl
    or_true false = refl

any_more : {A : Type 0} (p : A → Bool) (xs : List A) (i : ℕ) (x : A) → i < length xs → x ≡ get_or xs i x → list_any p (take i xs) ≡ false → p x ≡ false → list_any p (take (i + 1) xs) ≡ false
any_more p xs i x lt is none h = rw (take_more xs i x lt, list_any-append p (take i xs) (get_or xs i x ∷ []), none, sym (ap p is) ∙ h) refl

-- a test of what elements stand for
pub any_mapped : {A B : Type 0} (p : B → Bool) (f : A → B) (xs : List A) → list_any p (map f xs) ≡ list_any (λ x. p (f x)) xs
any_mapped p f [] = refl
any_mapped p f (x ∷ xs) = ap (λ b. p (f x) || b) (any_mapped p f xs)

any_named : (name : List ℕ) (keys : List (Bor Series)) → list_any (bytes_eq name) (names_of (keys_in keys)) ≡ list_any (λ (k : Bor Series). bytes_eq name (value_of k.now).name) keys
any_named name keys = any_mapped (bytes_eq name) (λ (c : ColumnValue). c.name) (keys_in keys) ∙ any_mapped (λ (c : ColumnValue). bytes_eq name c.name) (λ (k : Bor Series). value_of k.now) keys

module _ (name : List ℕ) (keys : List (Bor Series)) (i : ℕ) (key : Bor Series) (lt : i < length keys) (is : key ≡ get_or keys i key) where
  pub key_named : bytes_eq name (value_of key.now).name ≡ true → true ≡ list_any (bytes_eq name) (names_of (keys_in keys))
  key_named h = sym (any_named name keys ∙ any_found (λ (k : Bor Series). bytes_eq name (value_of k.now).name) keys i key lt is h)

  pub key_other : list_any (bytes_eq name) (names_of (keys_in (take i keys))) ≡ false → bytes_eq name (value_of key.now).name ≡ false
      → list_any (bytes_eq name) (names_of (keys_in (take (i + 1) keys))) ≡ false
  key_other none h =
      any_named name (take (i + 1) keys)
      ∙ any_more (λ (k : Bor Series). bytes_eq name (value_of k.now).name) keys i key lt is (sym (any_named name (take i keys)) ∙ none) h

-- one column more, whose name is a key's or not
module _ (method : Method) (keys : Frame) (columns : List Series) (i : ℕ) (column : Series) (lt : i < length columns) (is : column ≡ get_or columns i column) where
  abbrev keeps : List ℕ → Bool
  keeps name = not (list_any (bytes_eq name) (names_of keys))

  names_more : names_of (map value_of (take (i + 1) columns)) ≡ names_of (map value_of (take i columns)) ++ (value_of column).name ∷ []
  names_more =
      ap (λ (cs : List Series). names_of (map value_of cs)) (take_more columns i column lt ∙ ap (λ (c : Series). take i columns ++ c ∷ []) (sym is))
      ∙ names_append (take i columns) column
    where
      names_append : (cs : List Series) (c : Series) → names_of (map value_of (cs ++ c ∷ [])) ≡ names_of (map value_of cs) ++ (value_of c).name ∷ []
      names_append [] c = refl
      names_append (d ∷ ds) c = ap (λ ns. (value_of d).name ∷ ns) (names_append ds c)

  chosen_more : chosen (map value_of (take (i + 1) columns)) keys None ≡ chosen (map value_of (take i columns)) keys None ++ filter keeps ((value_of column).name ∷ [])
  chosen_more = ap (filter keeps) names_more ∙ filter-append keeps (names_of (map value_of (take i columns))) ((value_of column).name ∷ [])

  pub chosen_key : list_any (bytes_eq (value_of column).name) (names_of keys) ≡ true → each_by method (chosen (map value_of (take i columns)) keys None) ≡ each_by method (chosen (map value_of (take (i + 1) columns)) keys None)
  chosen_key known =
      let before = chosen (map value_of (take i columns)) keys None in
      let last : filter keeps ((value_of column).name ∷ []) ≡ [] = rw known refl in
      ap (each_by method) (sym (chosen_more ∙ ap (λ ns. before ++ ns) last ∙ append-nil before))

  pub chosen_other : list_any (bytes_eq (value_of column).name) (names_of keys) ≡ false
      → each_by method (chosen (map value_of (take i columns)) keys None) ++ ((value_of column).name, method) ∷ [] ≡ each_by method (chosen (map value_of (take (i + 1) columns)) keys None)
  chosen_other unknown =
      let before = chosen (map value_of (take i columns)) keys None in
      let one : List ℕ → List ℕ × Method = λ name. (name, method) in
      let last : filter keeps ((value_of column).name ∷ []) ≡ (value_of column).name ∷ [] = rw unknown refl in
      sym (map-append one before ((value_of column).name ∷ [])) ∙ ap (each_by method) (sym (chosen_more ∙ ap (λ ns. before ++ ns) last))
