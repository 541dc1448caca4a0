-- The columns of a frame, one after the other.
use Rattle.std.proofs.Common.{◌≡◌, ℕ, zero, suc, ◌+◌, ◌-◌, ◌<◌, ◌≤◌, ℤ, Bool, true, false, cond, List, [], ◌∷◌, length, map, get_or, drop, Option, Some, refl, sym, ◌∙◌, ap, arith, eq-eqb, eqb-true}
use Rattle.std.specs.Prelude.{min, pos, slice_get, ◌==◌}
use Rattle.std.specs.Str.{bytes_eq}
use Rattle.std.proofs.lemmas.List.{drop_more, length-drop, length-map, length-take}
use Rattle.gb_defs.specs.Column.{ColumnValue, Frame, IsFrame, all_have_length, find_column, first_repeated, frame_height, names_of}
use Rattle.gb_defs.specs.Column.{rechunked, sliced, taken}
use Rattle.gb_defs.specs.Slices.{slice_end, slice_start}
use Rattle.gb_series.specs.Frame.{IsSmallFrame}
use Rattle.gb_series.specs.Series.{part_at}
pub use Rattle.gb_base.proofs.NameLemmas.{listed_more}

-- ---- lengths

pub long_yes : (n : ℕ) (c : ColumnValue) (cs : Frame) → length c.slots ≡ n → all_have_length n (c ∷ cs) ≡ all_have_length n cs
long_yes n c cs e = ap (λ b. cond b (all_have_length n cs) false) (eq-eqb (length c.slots) n e)

pub both_true : (test rest : Bool) → cond test rest false ≡ true → (test ≡ true) × (rest ≡ true)
both_true true rest e = (refl, e)
both_true false rest e = cc

pub long_test : (n : ℕ) (c : ColumnValue) (cs : Frame) → all_have_length n (c ∷ cs) ≡ true → (length c.slots ≡ n) × (all_have_length n cs ≡ true)
long_test n c cs e =
    let parts = both_true (length c.slots == n) (all_have_length n cs) e in
    (eqb-true (length c.slots) n parts.0, parts.1)

pub long_at : (n : ℕ) (frame : Frame) (i : ℕ) (d : ColumnValue) → all_have_length n frame ≡ true → i < length frame → length (get_or frame i d).slots ≡ n
long_at n [] i d e lt = absurd (omega arith)
long_at n (c ∷ cs) zero d e lt = eqb-true (length c.slots) n (both_true (length c.slots == n) (all_have_length n cs) e).0
long_at n (c ∷ cs) (suc i) d e lt = long_at n cs i d (both_true (length c.slots == n) (all_have_length n cs) e).1 (omega arith)

-- ---- names

pub find_here : (c : ColumnValue) (cs : Frame) (name : List ℕ) → bytes_eq c.name name ≡ true → find_column (c ∷ cs) name ≡ Some c
find_here c cs name e = ap (λ b. cond b (Some c) (find_column cs name)) e

found_step : (n : ℕ) (test : Bool) (x c : ColumnValue) (rest : Option ColumnValue) → length x.slots ≡ n → (rest ≡ Some c → length c.slots ≡ n) → cond test (Some x) rest ≡ Some c → length c.slots ≡ n
found_step n true x c rest e later found =
    let same : x ≡ c = cc in
    ap (λ (x : ColumnValue). length x.slots) (sym same) ∙ e
found_step n false x c rest e later found = later found

-- a column that is found has the length of all
pub found_long : (n : ℕ) (frame : Frame) (name : List ℕ) (c : ColumnValue) → all_have_length n frame ≡ true → find_column frame name ≡ Some c → length c.slots ≡ n
found_long n [] name c long found = cc
found_long n (x ∷ xs) name c long found =
    let parts = both_true (length x.slots == n) (all_have_length n xs) long in
    found_step n (bytes_eq x.name name) x c (find_column xs name) (eqb-true (length x.slots) n parts.0) (found_long n xs name c parts.1) found

-- ---- columns as they are stored

module _ {S : Type 0} (value : S → ColumnValue) where
  pub stored_more : (columns : List S) (i : ℕ) (column : S) → i < length columns → column ≡ get_or columns i column →
      map value (drop i columns) ≡ value column ∷ map value (drop (i + 1) columns)
  stored_more columns i column lt read = ap (map value) (drop_more columns i column lt) ∙ ap (λ c. value c ∷ map value (drop (i + 1) columns)) (sym read)

  pub stored_at : (columns : List S) (i : ℕ) (column : S) → i < length columns → column ≡ get_or columns i column → slice_get (map value columns) i ≡ Some (value column)
  stored_at [] i column lt read = absurd (omega arith)
  stored_at (c ∷ cs) zero column lt read = ap (λ d. Some (value d)) (sym read)
  stored_at (c ∷ cs) (suc i) column lt read = stored_at cs i column (omega arith) read

-- ---- the same rows of each column

taken_names : (rows : List ℕ) (frame : Frame) → names_of (map (taken rows) frame) ≡ names_of frame
taken_names rows [] = refl
taken_names rows (c ∷ cs) = ap (λ names. c.name ∷ names) (taken_names rows cs)

taken_long : (rows : List ℕ) (frame : Frame) → all_have_length (length rows) (map (taken rows) frame) ≡ true
taken_long rows [] = refl
taken_long rows (c ∷ cs) = long_yes (length rows) (taken rows c) (map (taken rows) cs) (length-map rows _) ∙ taken_long rows cs

taken_aligned : (rows : List ℕ) (frame : Frame) → all_have_length (frame_height (map (taken rows) frame)) (map (taken rows) frame) ≡ true
taken_aligned rows [] = refl
taken_aligned rows (c ∷ cs) =
    ap (λ n. all_have_length n (map (taken rows) (c ∷ cs))) (length-map rows _) ∙ taken_long rows (c ∷ cs)

pub taken_is : (rows : List ℕ) (frame : Frame) → IsFrame frame → IsFrame (map (taken rows) frame)
taken_is rows frame is = record {
  distinct = ap first_repeated (taken_names rows frame) ∙ is.distinct;
  aligned = taken_aligned rows frame;
}

pub taken_height : (rows : List ℕ) (frame : Frame) (n : ℕ) → length rows < n → 0 < n → frame_height (map (taken rows) frame) < n
taken_height rows [] n lt some = some
taken_height rows (c ∷ cs) n lt some = rw (length-map rows _) lt

-- ---- the same change of each column

-- each column keeps its name, and its length becomes what the length alone says, which is no more
module _ (f : ColumnValue → ColumnValue) (h : ℕ → ℕ) (named : (c : ColumnValue) → (f c).name ≡ c.name) (long : (c : ColumnValue) → length (f c).slots ≡ h (length c.slots)) where
  mapped_names : (frame : Frame) → names_of (map f frame) ≡ names_of frame
  mapped_names [] = refl
  mapped_names (c ∷ cs) = ap (λ name. name ∷ names_of (map f cs)) (named c) ∙ ap (λ names. c.name ∷ names) (mapped_names cs)

  mapped_long : (n : ℕ) (frame : Frame) → all_have_length n frame ≡ true → all_have_length (h n) (map f frame) ≡ true
  mapped_long n [] all = refl
  mapped_long n (c ∷ cs) all =
      let parts = both_true (length c.slots == n) (all_have_length n cs) all in
      long_yes (h n) (f c) (map f cs) (long c ∙ ap h (eqb-true (length c.slots) n parts.0)) ∙ mapped_long n cs parts.1

  mapped_aligned : (frame : Frame) → all_have_length (frame_height frame) frame ≡ true → all_have_length (frame_height (map f frame)) (map f frame) ≡ true
  mapped_aligned [] all = refl
  mapped_aligned (c ∷ cs) all = ap (λ n. all_have_length n (map f (c ∷ cs))) (long c) ∙ mapped_long (length c.slots) (c ∷ cs) all

  mapped_height : (frame : Frame) → ((n : ℕ) → h n ≤ n) → frame_height (map f frame) ≤ frame_height frame
  mapped_height [] less = omega arith
  mapped_height (c ∷ cs) less = omega (arith, long c, less (length c.slots))

  mapped_small : (frame : Frame) → ((n : ℕ) → h n ≤ n) → IsSmallFrame frame → IsSmallFrame (map f frame)
  mapped_small frame less is = record {
    is_frame = record {
      distinct = ap first_repeated (mapped_names frame) ∙ is.is_frame.distinct;
      aligned = mapped_aligned frame is.is_frame.aligned;
    };
    small = omega (arith, mapped_height frame less, is.small);
  }

-- how many of so many rows a slice shows
abbrev pub count_shown : ℤ → ℕ → ℕ → ℕ
count_shown offset len n = min (slice_end n offset len - slice_start n offset) (n - slice_start n offset)

pub sliced_long : (offset : ℤ) (len : ℕ) (c : ColumnValue) → length (sliced offset len c).slots ≡ count_shown offset len (length c.slots)
sliced_long offset len c =
    length-take _ (drop (slice_start (length c.slots) offset) c.slots) ∙ ap (min (slice_end (length c.slots) offset len - slice_start (length c.slots) offset)) (length-drop (slice_start (length c.slots) offset) c.slots)

pub sliced_small : (offset : ℤ) (len : ℕ) (frame : Frame) → IsSmallFrame frame → IsSmallFrame (map (sliced offset len) frame)
sliced_small offset len frame = mapped_small (sliced offset len) (count_shown offset len) (λ c. refl) (sliced_long offset len) frame (λ n. omega arith)

pub part_small : (start len : ℕ) (frame : Frame) → IsSmallFrame frame → IsSmallFrame (map (part_at start len) frame)
part_small start len frame = mapped_small (part_at start len) (count_shown (pos start) len) (λ c. refl) (sliced_long (pos start) len) frame (λ n. omega arith)

pub rechunked_small : (frame : Frame) → IsSmallFrame frame → IsSmallFrame (map rechunked frame)
rechunked_small frame = mapped_small rechunked (λ n. n) (λ c. refl) (λ c. refl) frame (λ n. omega arith)
