-- A frame put behind another, column by column, and taken back to what it was.
use Rattle.std.proofs.Common.{◌≡◌, ℕ, zero, suc, ◌+◌, ◌<◌, ◌≤◌, ◌^◌, Bool, true, false, cond, List, [], ◌∷◌, ◌++◌, map, length, get_or, set, take, drop, Option, Some, None, Ok, Err, OnOk, OnErr, Result, refl, sym, ◌∙◌, ap, arith, subst}
use Rattle.std.specs.Prelude.{sum}
use Rattle.std.specs.Str.{bytes_eq}
use Rattle.std.proofs.Math.Seq.{take-append_seam}
use Rattle.std.proofs.lemmas.List.{get_or-map, get_or-take, length-append, length-map, length-take, map-set, set-get_or}
use Rattle.gb_defs.specs.Column.{ColumnValue, Frame, IsFlagTrue, SortedFlag, UsesAll, all_have_length, first_repeated, frame_height, names_of}
use Rattle.gb_defs.specs.ColumnType.{ColumnType, Flat, ListOf, ArrayOf, StructOf}
use Rattle.gb_defs.specs.Fault as fault
use Rattle.gb_defs.specs.Slot.{Slot}
use Rattle.gb_base.specs.Sorted.{flag_of}
use Rattle.gb_base.specs.declared.error.PolarsError.{PolarsError}
use Rattle.gb_base.specs.declared.data_type.IsSorted.TheVariants.{Ascending}
use Rattle.gb_cols.specs.Column.{appended, first_chunks, unflagged}
use Rattle.gb_series.specs.Append.{AreMarksOf, CanAppend, CanUndo, CanUndoFrom, IsMarkOf, append_fault, appended_frame, appended_from, are_named_alike, type_eq, type_fault, undone, undone_from}
use Rattle.gb_series.specs.Frame.{IsSmallFrame}
use Rattle.gb_series.specs.Variant.{type_variant}
use Rattle.gb_series.specs.declared.append.Mark.{Mark}
use Rattle.gb_series.proofs.FrameLemmas.{both_true, long_test, long_yes, stored_more}
use Rattle.gb_series.proofs.TypeLemmas.{type_back}

-- the codes of a type occur where it is one of categories
pub uses_flat : (t : ColumnType) (slots : List Slot) → UsesAll t slots → type_variant t ≡ 0
uses_flat (Flat t) slots used = refl
uses_flat (ListOf t) slots used = absurd used
uses_flat (ArrayOf t n) slots used = absurd used
uses_flat (StructOf fs) slots used = absurd used

-- ---- one column

-- of a column with another behind it, the first chunks are the column
front_back : (c o : ColumnValue) (n : ℕ) → n ≡ length c.chunks → sum c.chunks ≡ length c.slots → first_chunks n (appended c o) ≡ unflagged c
front_back c o n e rows =
    let kept : take n (c.chunks ++ o.chunks) ≡ c.chunks = ap (λ k. take k (c.chunks ++ o.chunks)) e ∙ take-append_seam c.chunks o.chunks in
    let slots : take (sum c.chunks) (c.slots ++ o.slots) ≡ c.slots = ap (λ k. take k (c.slots ++ o.slots)) rows ∙ take-append_seam c.slots o.slots in
    ap (λ ns. record (unflagged c) { slots = take (sum ns) (c.slots ++ o.slots); chunks = ns }) kept ∙ ap (λ ss. record (unflagged c) { slots = ss }) slots

abbrev with_flag : ColumnValue → SortedFlag → Bool → ColumnValue
with_flag c flag all_used = record c { sorted = flag; all_used = all_used }

module _ (c o : ColumnValue) (mark : Mark) (is : IsMarkOf c mark) where
  front : first_chunks mark.chunks (appended c o) ≡ unflagged c
  front = front_back c o mark.chunks is.chunks is.rows

  mark_back : undone mark (appended c o) ≡ c
  mark_back =
      ap (λ (v : ColumnValue). with_flag v (flag_of mark.sorted) mark.uses_all) front
      ∙ ap (λ (f : SortedFlag). with_flag c f mark.uses_all) is.sorted ∙ ap (λ (b : Bool). with_flag c c.sorted b) is.uses_all

  front_slots : (first_chunks mark.chunks (appended c o)).slots ≡ c.slots
  front_slots = ap (λ (v : ColumnValue). v.slots) front

  mark_fits : CanUndo mark (appended c o)
  mark_fits = record {
    some = is.some;
    within = omega (arith, is.chunks, length-append c.chunks o.chunks);
    ordered = subst (λ (ss : List Slot). IsFlagTrue (flag_of mark.sorted) c.dtype ss) (sym front_slots) (subst (λ (f : SortedFlag). IsFlagTrue f c.dtype c.slots) (sym is.sorted) is.ordered);
    used = λ e. subst (λ (ss : List Slot). UsesAll c.dtype ss) (sym front_slots) (is.used e);
  }

-- ---- marks of all columns

pub marks_more : (frame : Frame) (marks : List Mark) (c : ColumnValue) (mark : Mark) → AreMarksOf frame marks → IsMarkOf c mark → AreMarksOf (frame ++ c ∷ []) (marks ++ mark ∷ [])
marks_more [] [] c mark are is = (is, tt)
marks_more [] (m ∷ ms) c mark are is = absurd are
marks_more (x ∷ xs) [] c mark are is = absurd are
marks_more (x ∷ xs) (m ∷ ms) c mark are is = (are.0, marks_more xs ms c mark are.1 is)

-- ---- the loop that undoes

-- what stands for a mark where there is none
abbrev pub no_mark : Mark
no_mark = record { chunks = 0; sorted = Ascending; uses_all = false }

pub fits_long : (k : ℕ) (marks : List Mark) (frame : Frame) → CanUndoFrom k marks frame → length frame ≤ length marks
fits_long k marks [] fits = omega arith
fits_long k [] (c ∷ cs) fits = absurd fits
fits_long zero (m ∷ ms) (c ∷ cs) fits = omega (arith, fits_long zero ms cs fits.1)
fits_long (suc k) (m ∷ ms) (c ∷ cs) fits = omega (arith, fits_long k ms cs fits)

pub fits_at : (k : ℕ) (marks : List Mark) (frame : Frame) (d : Mark) (e : ColumnValue) → CanUndoFrom k marks frame → k < length frame → CanUndo (get_or marks k d) (get_or frame k e)
fits_at k marks [] d e fits lt = absurd (omega (arith, lt))
fits_at k [] (c ∷ cs) d e fits lt = absurd fits
fits_at zero (m ∷ ms) (c ∷ cs) d e fits lt = fits.0
fits_at (suc k) (m ∷ ms) (c ∷ cs) d e fits lt = fits_at k ms cs d e fits (omega (arith, lt))

fits_suc : (k : ℕ) (marks : List Mark) (frame : Frame) (c : ColumnValue) → CanUndoFrom k marks frame → CanUndoFrom (suc k) marks (set frame k c)
fits_suc k marks [] x fits = tt
fits_suc k [] (c ∷ cs) x fits = absurd fits
fits_suc zero (m ∷ ms) (c ∷ cs) x fits = fits.1
fits_suc (suc k) (m ∷ ms) (c ∷ cs) x fits = fits_suc k ms cs x fits

undo_suc : (k : ℕ) (marks : List Mark) (frame : Frame) (d : Mark) (e : ColumnValue) → CanUndoFrom k marks frame → k < length frame →
    undone_from k marks frame ≡ undone_from (suc k) marks (set frame k (undone (get_or marks k d) (get_or frame k e)))
undo_suc k marks [] d e fits lt = absurd (omega (arith, lt))
undo_suc k [] (c ∷ cs) d e fits lt = absurd fits
undo_suc zero (m ∷ ms) (c ∷ cs) d e fits lt = refl
undo_suc (suc k) (m ∷ ms) (c ∷ cs) d e fits lt = ap (λ (rest : Frame). c ∷ rest) (undo_suc k ms cs d e fits (omega (arith, lt)))

next : (k : ℕ) → suc k ≡ k + 1
next k = omega arith

pub fits_more : (k : ℕ) (marks : List Mark) (frame : Frame) (c : ColumnValue) → CanUndoFrom k marks frame → CanUndoFrom (k + 1) marks (set frame k c)
fits_more k marks frame c fits = subst (λ n. CanUndoFrom n marks (set frame k c)) (next k) (fits_suc k marks frame c fits)

pub undo_more : (k : ℕ) (marks : List Mark) (frame : Frame) (d : Mark) (e : ColumnValue) → CanUndoFrom k marks frame → k < length frame →
    undone_from k marks frame ≡ undone_from (k + 1) marks (set frame k (undone (get_or marks k d) (get_or frame k e)))
undo_more k marks frame d e fits lt = undo_suc k marks frame d e fits lt ∙ ap (λ n. undone_from n marks (set frame k (undone (get_or marks k d) (get_or frame k e)))) (next k)

pub undo_end : (k : ℕ) (marks : List Mark) (frame : Frame) → length frame ≤ k → undone_from k marks frame ≡ frame
undo_end k marks [] le = refl
undo_end k [] (c ∷ cs) le = refl
undo_end zero (m ∷ ms) (c ∷ cs) le = absurd (omega (arith, le))
undo_end (suc k) (m ∷ ms) (c ∷ cs) le = ap (λ (rest : Frame). c ∷ rest) (undo_end k ms cs (omega (arith, le)))

-- ---- the loop that appends, from the last column on

pub as_many : (frame others : Frame) → CanAppend frame others → length others ≡ length frame
as_many [] [] can = refl
as_many [] (o ∷ os) can = absurd can
as_many (c ∷ cs) [] can = absurd can
as_many (c ∷ cs) (o ∷ os) can = omega (arith, as_many cs os can.2)

frame_long : (frame others : Frame) → length (appended_frame frame others) ≡ length frame
frame_long [] others = refl
frame_long (c ∷ cs) [] = refl
frame_long (c ∷ cs) (o ∷ os) = omega (arith, frame_long cs os)

pub from_long : (k : ℕ) (frame others : Frame) → length (appended_from k frame others) ≡ length frame
from_long zero frame others = frame_long frame others
from_long (suc k) [] others = refl
from_long (suc k) (c ∷ cs) [] = refl
from_long (suc k) (c ∷ cs) (o ∷ os) = omega (arith, from_long k cs os)

pub from_end : (frame others : Frame) → CanAppend frame others → appended_from (length others) frame others ≡ frame
from_end [] [] can = refl
from_end [] (o ∷ os) can = absurd can
from_end (c ∷ cs) [] can = absurd can
from_end (c ∷ cs) (o ∷ os) can = ap (λ (rest : Frame). c ∷ rest) (from_end cs os can.2)

-- the column at the place to which the loop comes next is as it was
pub from_at : (k : ℕ) (frame others : Frame) (d : ColumnValue) → CanAppend frame others → k < length others → get_or (appended_from (suc k) frame others) k d ≡ get_or frame k d
from_at k [] [] d can lt = absurd (omega (arith, lt))
from_at k [] (o ∷ os) d can lt = absurd can
from_at k (c ∷ cs) [] d can lt = absurd can
from_at zero (c ∷ cs) (o ∷ os) d can lt = refl
from_at (suc k) (c ∷ cs) (o ∷ os) d can lt = from_at k cs os d can.2 (omega (arith, lt))

pub can_at : (k : ℕ) (frame others : Frame) (d e : ColumnValue) → CanAppend frame others → k < length others →
    ((get_or others k e).dtype ≡ (get_or frame k d).dtype) × (length (get_or frame k d).slots + length (get_or others k e).slots < 2 ^ 63)
can_at k [] [] d e can lt = absurd (omega (arith, lt))
can_at k [] (o ∷ os) d e can lt = absurd can
can_at k (c ∷ cs) [] d e can lt = absurd can
can_at zero (c ∷ cs) (o ∷ os) d e can lt = (can.0, can.1)
can_at (suc k) (c ∷ cs) (o ∷ os) d e can lt = can_at k cs os d e can.2 (omega (arith, lt))

pub from_more : (k : ℕ) (frame others : Frame) (d e : ColumnValue) → CanAppend frame others → k < length others →
    set (appended_from (suc k) frame others) k (appended (get_or frame k d) (get_or others k e)) ≡ appended_from k frame others
from_more k [] [] d e can lt = absurd (omega (arith, lt))
from_more k [] (o ∷ os) d e can lt = absurd can
from_more k (c ∷ cs) [] d e can lt = absurd can
from_more zero (c ∷ cs) (o ∷ os) d e can lt = refl
from_more (suc k) (c ∷ cs) (o ∷ os) d e can lt = ap (λ (rest : Frame). c ∷ rest) (from_more k cs os d e can.2 (omega (arith, lt)))

pub from_fits : (k : ℕ) (frame others : Frame) (marks : List Mark) → CanAppend frame others → AreMarksOf frame marks → CanUndoFrom k marks (appended_from k frame others)
from_fits zero [] others marks can are = tt
from_fits (suc k) [] others marks can are = tt
from_fits k (c ∷ cs) [] marks can are = absurd can
from_fits k (c ∷ cs) (o ∷ os) [] can are = absurd are
from_fits zero (c ∷ cs) (o ∷ os) (m ∷ ms) can are = (mark_fits c o m are.0, from_fits zero cs os ms can.2 are.1)
from_fits (suc k) (c ∷ cs) (o ∷ os) (m ∷ ms) can are = from_fits k cs os ms can.2 are.1

pub from_back : (k : ℕ) (frame others : Frame) (marks : List Mark) → CanAppend frame others → AreMarksOf frame marks → undone_from k marks (appended_from k frame others) ≡ frame
from_back zero [] others marks can are = refl
from_back (suc k) [] others marks can are = refl
from_back k (c ∷ cs) [] marks can are = absurd can
from_back k (c ∷ cs) (o ∷ os) [] can are = absurd are
from_back zero (c ∷ cs) (o ∷ os) (m ∷ ms) can are =
    ap (λ (v : ColumnValue). v ∷ undone_from zero ms (appended_frame cs os)) (mark_back c o m are.0)
    ∙ ap (λ (rest : Frame). c ∷ rest) (from_back zero cs os ms can.2 are.1)
from_back (suc k) (c ∷ cs) (o ∷ os) (m ∷ ms) can are = ap (λ (rest : Frame). c ∷ rest) (from_back k cs os ms can.2 are.1)

-- ---- one turn of that loop: the last of the others that are left, and the column at its place

last_at : {S : Type 0} (xs : List S) (x d : S) → get_or (xs ++ x ∷ []) (length xs) d ≡ x
last_at [] x d = refl
last_at (y ∷ ys) x d = last_at ys x d

take_less : {S : Type 0} (k n : ℕ) (xs : List S) → k ≤ n → take k (take n xs) ≡ take k xs
take_less zero n xs le = refl
take_less (suc k) zero xs le = absurd (omega (arith, le))
take_less (suc k) (suc n) [] le = refl
take_less (suc k) (suc n) (x ∷ xs) le = ap (λ ys. x ∷ ys) (take_less k n xs (omega (arith, le)))

module _ {S : Type 0} (value : S → ColumnValue) (frame : Frame) (all left rest columns : List S) (other : S) (k : ℕ) (k_is : k ≡ length rest)
    (can : CanAppend frame (map value all)) (is : map value columns ≡ appended_from (length left) frame (map value all)) (front_of : left ≡ take (length left) all) (popped : left ≡ rest ++ other ∷ []) where
  left_long : length left ≡ suc k
  left_long = omega (arith, ap length popped, length-append rest (other ∷ []), k_is)

  inside_all : k < length all
  inside_all = omega (arith, left_long, ap length front_of, length-take (length left) all)

  inside : k < length (map value all)
  inside = omega (arith, inside_all, length-map all value)

  here : map value columns ≡ appended_from (suc k) frame (map value all)
  here = is ∙ ap (λ n. appended_from n frame (map value all)) left_long

  pub column_in : k < length columns
  column_in =
      omega (arith, inside, as_many frame (map value all) can, ap (λ (f : Frame). length f) here, from_long (suc k) frame (map value all), length-map columns value)

  other_at : get_or (map value all) k (value other) ≡ value other
  other_at =
      let last : get_or left k other ≡ other = ap (λ n. get_or left n other) k_is ∙ ap (λ xs. get_or xs (length rest) other) popped ∙ last_at rest other other in
      let whole : get_or left k other ≡ get_or all k other = ap (λ xs. get_or xs k other) front_of ∙ get_or-take (length left) all k other (omega (arith, left_long)) in
      get_or-map value all k other (value other) inside_all ∙ ap value (sym whole ∙ last)

  pub rest_front : rest ≡ take (length rest) all
  rest_front =
      sym (take-append_seam rest (other ∷ [])) ∙ ap (take (length rest)) (sym popped) ∙ ap (take (length rest)) front_of
      ∙ take_less (length rest) (length left) all (omega (arith, left_long, k_is))

  module _ (column : S) (read : column ≡ get_or columns k column) where
    stored : get_or (map value columns) k (value column) ≡ value column
    stored = get_or-map value columns k column (value column) column_in ∙ ap value (sym read)

    column_at : get_or frame k (value column) ≡ value column
    column_at = sym (from_at k frame (map value all) (value column) can inside) ∙ ap (λ (f : Frame). get_or f k (value column)) (sym here) ∙ stored

    pub turn_typed : (value other).dtype ≡ (value column).dtype
    turn_typed =
        ap (λ (v : ColumnValue). v.dtype) (sym other_at) ∙ (can_at k frame (map value all) (value column) (value other) can inside).0
        ∙ ap (λ (v : ColumnValue). v.dtype) column_at

    pub turn_few : length (value column).slots + length (value other).slots < 2 ^ 63
    turn_few =
        omega (arith, (can_at k frame (map value all) (value column) (value other) can inside).1, ap (λ (v : ColumnValue). length v.slots) column_at, ap (λ (v : ColumnValue). length v.slots) other_at)

    module _ (new : S) where
      refused : value new ≡ value column → map value (set columns k new) ≡ appended_from (suc k) frame (map value all)
      refused same =
          map-set value columns k new ∙ ap (λ (v : ColumnValue). set (map value columns) k v) (same ∙ sym stored)
          ∙ set-get_or (map value columns) k (value column) ∙ here

      pub turn_fits : (marks : List Mark) → AreMarksOf frame marks → value new ≡ value column → CanUndoFrom (k + 1) marks (map value (set columns k new))
      turn_fits marks are same =
          subst (λ (f : Frame). CanUndoFrom (k + 1) marks f) (sym (refused same))
          (subst (λ n. CanUndoFrom n marks (appended_from (suc k) frame (map value all))) (next k) (from_fits (suc k) frame (map value all) marks can are))

      pub turn_back : (marks : List Mark) → AreMarksOf frame marks → value new ≡ value column → undone_from (k + 1) marks (map value (set columns k new)) ≡ frame
      turn_back marks are same =
          ap (λ (f : Frame). undone_from (k + 1) marks f) (refused same)
          ∙ ap (λ n. undone_from n marks (appended_from (suc k) frame (map value all))) (sym (next k)) ∙ from_back (suc k) frame (map value all) marks can are

      pub turn_made : value new ≡ appended (value column) (value other) → map value (set columns k new) ≡ appended_from (length rest) frame (map value all)
      turn_made is_new =
          map-set value columns k new ∙ ap (λ (f : Frame). set f k (value new)) here
          ∙ ap (λ (v : ColumnValue). set (appended_from (suc k) frame (map value all)) k v)
          (is_new ∙ ap (λ (v : ColumnValue). appended v (value other)) (sym column_at) ∙ ap (λ (v : ColumnValue). appended (get_or frame k (value column)) v) (sym other_at))
          ∙ from_more k frame (map value all) (value column) (value other) can inside ∙ ap (λ n. appended_from n frame (map value all)) k_is

-- ---- names and types

pub named_long : (frame others : Frame) → are_named_alike frame others ≡ true → length frame ≡ length others
named_long [] [] e = refl
named_long [] (o ∷ os) e = cc
named_long (c ∷ cs) [] e = cc
named_long (c ∷ cs) (o ∷ os) e = omega (arith, named_long cs os (both_true (bytes_eq c.name o.name) (are_named_alike cs os) e).1)

pub other_long : (frame others : Frame) → ¬ (length frame ≡ length others) → false ≡ are_named_alike frame others
other_long frame others other = by (are_named_alike frame others) refl where
  by : (b : Bool) → are_named_alike frame others ≡ b → false ≡ are_named_alike frame others
  by true e = absurd (other (named_long frame others e))
  by false e = sym e

pub no_fault : (frame others : Frame) → append_fault frame others ≡ None → (are_named_alike frame others ≡ true) × (type_fault frame others ≡ None)
no_fault frame others e = by (are_named_alike frame others) refl where
  by : (b : Bool) → are_named_alike frame others ≡ b → (are_named_alike frame others ≡ true) × (type_fault frame others ≡ None)
  by true same = (same, sym (ap (λ b. cond b (type_fault frame others) (Some fault.ShapeMismatch)) same) ∙ e)
  by false same = let never : Some fault.ShapeMismatch ≡ None = sym (ap (λ b. cond b (type_fault frame others) (Some fault.ShapeMismatch)) same) ∙ e in cc

one_type : (t u : ColumnType) (rest : Option fault.Fault) (name : List ℕ) → cond (type_eq t u) rest (Some (fault.SchemaMismatch name)) ≡ None → (t ≡ u) × (rest ≡ None)
one_type t u rest name e = by (type_eq t u) refl where
  by : (b : Bool) → type_eq t u ≡ b → (t ≡ u) × (rest ≡ None)
  by true same = (type_back t u same, sym (ap (λ b. cond b rest (Some (fault.SchemaMismatch name))) same) ∙ e)
  by false same = let never : Some (fault.SchemaMismatch name) ≡ None = sym (ap (λ b. cond b rest (Some (fault.SchemaMismatch name))) same) ∙ e in cc

fit : (m n : ℕ) (frame others : Frame) → length frame ≡ length others → type_fault frame others ≡ None → all_have_length m frame ≡ true → all_have_length n others ≡ true
    → m + n < 2 ^ 63 → CanAppend frame others
fit m n [] [] long typed are_m are_n few = tt
fit m n [] (o ∷ os) long typed are_m are_n few = absurd (omega (arith, long))
fit m n (c ∷ cs) [] long typed are_m are_n few = absurd (omega (arith, long))
fit m n (c ∷ cs) (o ∷ os) long typed are_m are_n few =
    let here = long_test m c cs are_m in
    let there = long_test n o os are_n in
    let types = one_type c.dtype o.dtype (type_fault cs os) c.name typed in
    (sym types.0, omega (arith, here.0, there.0, few), fit m n cs os (omega (arith, long)) types.1 here.1 there.1 few)

-- what is left of two frames, from a place on
module _ {S : Type 0} (value : S → ColumnValue) (xs ys : List S) (i : ℕ) (x y : S) (within : i < length xs) (there : i < length ys) (read : x ≡ get_or xs i x) (read_there : y ≡ get_or ys i y) where
  pub types_at : type_fault (map value (drop i xs)) (map value (drop i ys))
      ≡ cond (type_eq (value x).dtype (value y).dtype) (type_fault (map value (drop (i + 1) xs)) (map value (drop (i + 1) ys))) (Some (fault.SchemaMismatch (value x).name))
  types_at =
      ap (λ (frame : Frame). type_fault frame (map value (drop i ys))) (stored_more value xs i x within read)
      ∙ ap (λ (others : Frame). type_fault (value x ∷ map value (drop (i + 1) xs)) others) (stored_more value ys i y there read_there)

-- frames that have no fault together, and few rows
module _ (frame others : Frame) (is : IsSmallFrame frame) (are : IsSmallFrame others) (none : append_fault frame others ≡ None) (few : frame_height frame + frame_height others < 2 ^ 63) where
  pub can_append : CanAppend frame others
  can_append =
      let parts = no_fault frame others none in
      fit (frame_height frame) (frame_height others) frame others (named_long frame others parts.0) parts.1 is.is_frame.aligned are.is_frame.aligned few

appended_names : (frame others : Frame) → names_of (appended_frame frame others) ≡ names_of frame
appended_names [] others = refl
appended_names (c ∷ cs) [] = refl
appended_names (c ∷ cs) (o ∷ os) = ap (λ names. c.name ∷ names) (appended_names cs os)

appended_long : (m n : ℕ) (frame others : Frame) → CanAppend frame others → all_have_length m frame ≡ true → all_have_length n others ≡ true → all_have_length (m + n) (appended_frame frame others) ≡ true
appended_long m n [] others can are_m are_n = refl
appended_long m n (c ∷ cs) [] can are_m are_n = absurd can
appended_long m n (c ∷ cs) (o ∷ os) can are_m are_n =
    let here = long_test m c cs are_m in
    let there = long_test n o os are_n in
    long_yes (m + n) (appended c o) (appended_frame cs os) (omega (arith, length-append c.slots o.slots, here.0, there.0)) ∙ appended_long m n cs os can.2 here.1 there.1

pub appended_height : (frame others : Frame) → CanAppend frame others → frame_height (appended_frame frame others) ≡ frame_height frame + frame_height others
appended_height [] [] can = refl
appended_height [] (o ∷ os) can = absurd can
appended_height (c ∷ cs) [] can = absurd can
appended_height (c ∷ cs) (o ∷ os) can = length-append c.slots o.slots

appended_small : (frame others : Frame) → CanAppend frame others → IsSmallFrame frame → IsSmallFrame others → frame_height frame + frame_height others < 2 ^ 63 → IsSmallFrame (appended_frame frame others)
appended_small frame others can is are few = record {
  is_frame = record {
    distinct = ap first_repeated (appended_names frame others) ∙ is.is_frame.distinct;
    aligned =
        ap (λ n. all_have_length n (appended_frame frame others)) (appended_height frame others can)
        ∙ appended_long (frame_height frame) (frame_height others) frame others can is.is_frame.aligned are.is_frame.aligned;
  };
  small = omega (arith, appended_height frame others can, few);
}

pub append_small : (frame others : Frame) → IsSmallFrame frame → IsSmallFrame others → append_fault frame others ≡ None → frame_height frame + frame_height others < 2 ^ 63 →
    IsSmallFrame (appended_frame frame others)
append_small frame others is are none few = appended_small frame others (can_append frame others is are none few) is are few

-- what holds of a frame that was changed, or not where the change was refused
pub either_small : (r : Result (Unit {0}) PolarsError) (made new old : Frame) → OnOk r (made ≡ new) → OnErr r (made ≡ old) → IsSmallFrame new → IsSmallFrame old → IsSmallFrame made
either_small (Ok x) made new old ok err is_new is_old = subst (λ (f : Frame). IsSmallFrame f) (sym ok) is_new
either_small (Err e) made new old ok err is_new is_old = subst (λ (f : Frame). IsSmallFrame f) (sym err) is_old
