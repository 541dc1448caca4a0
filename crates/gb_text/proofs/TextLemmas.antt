-- The text of a record, field by field, and of a frame, row by row.
use Rattle.std.proofs.Common.{◌≡◌, ◌==◌, ◌≢◌, ◌+◌, ◌-◌, ◌^◌, ◌<◌, ◌≤◌, not, true, false, ℕ, zero, suc, List, [], ◌∷◌, ◌++◌, length, map, min, inl, inr, Option, Some, Vec, Global, get_or, refl, sym, ap, ap₂, ◌∙◌, arith, append_assoc, append-nil, length-append}
use Rattle.std.specs.Io.KnownBytes.{Appends, Keeps}
use Rattle.std.specs.List.{All, flat_map, range_with_len}
use Rattle.std.proofs.lemmas.Grind.{flat_map-append}
use Rattle.std.proofs.lemmas.List.{flat_map_more, map-id}
use Rattle.std.proofs.lemmas.List.FromFn.{get_or-map-range_with_len, length-map-range_with_len}
use Rattle.std.proofs.lemmas.Bool.{cases_Bool, eqb-true}
use Rattle.csv.specs.Writing.{default_writer, field_text, fields_written, has_written, is_blank, next_sep, row_body, row_text, tail_text, text_written, writer_setup}
use Rattle.csv.specs.declared.writer.Writer.{Writer}
use Rattle.csv.specs.declared.writer.QuoteStyle.TheVariants as style
use Rattle.csv.proofs.WriteFacts.{row-more, blank-more, row-final}
use Rattle.gb_defs.specs.Classes.{rows_below}
use Rattle.gb_defs.specs.Column.{ColumnValue, Frame, all_have_length, content, frame_height}
use Rattle.gb_defs.specs.Flat.{range_at}
use Rattle.gb_flat.proofs.RangeLemmas.{range_more, ranges_joined}
use Rattle.gb_defs.specs.Text.{frame_text, header_line, row_line}
use Rattle.gb_series.specs.declared.series.Series.{Series}
use Rattle.gb_series.specs.Series.{value_of}
use Rattle.gb_text.specs.Text.{HasBegun, contents_of}

abbrev Bytes : Type 0
Bytes = Writer (Vec ℕ Global)

abbrev written : Bytes → Option (List ℕ)
written w = text_written (λ v. Some v.items) w

plain : (w : Bytes) → writer_setup w ≡ default_writer → (writer_setup w).style ≢ style.NonNumeric
plain w e = rw e (λ s. cc s)

-- what `write_field` says of a record that was begun
pub begun_more : (old new : Bytes) (field before : List ℕ) (fields : List (List ℕ)) →
    ((writer_setup old).style ≢ style.NonNumeric → Appends (written old) (written new) (next_sep (writer_setup old) (fields_written old) ++ field_text (writer_setup old) field)) →
    writer_setup new ≡ writer_setup old → fields_written new ≡ min (fields_written old + 1) (2 ^ 64 - 1) →
    (has_written old ≡ false → (writer_setup old).style ≢ style.NonNumeric → has_written new ≡ not (length (field_text (writer_setup old) field) == 0)) →
    (has_written old ≡ true → has_written new ≡ true) → length fields + 1 < 2 ^ 64 → HasBegun old before fields → HasBegun new before (fields ++ field ∷ [])
begun_more old new field before fields text same count wrote stays few h =
    let long = length-append fields (field ∷ []) in
    let was : old.wtr.inner.items ++ old.wtr.buf ≡ before ++ row_body default_writer fields = cc (h.text) in
    let added = rw (h.setup, h.count) at (text (plain old h.setup)) in
    let more = next_sep default_writer (length fields) ++ field_text default_writer field in
    let counted : fields_written new ≡ length fields + 1 = count ∙ rw h.count (omega arith) in
    record {
      setup = same ∙ h.setup;
      text = ap (λ t. Some t) (added ∙ ap (λ t. t ++ more) was ∙ append_assoc before (row_body default_writer fields) more ∙ ap (λ t. before ++ t) (sym (row-more default_writer fields field)));
      count = counted ∙ omega arith;
      blank = rw long (blank-more default_writer fields field (has_written old) (has_written new) h.blank (λ w. rw h.setup at (wrote w (plain old h.setup))) stays);
    }

-- what `end_record` says of it
pub begun_next : (old new : Bytes) (before : List ℕ) (fields : List (List ℕ)) → Appends (written old) (written new) (tail_text (writer_setup old) (has_written old) (fields_written old)) →
    fields_written new ≡ 0 → has_written new ≡ false → writer_setup new ≡ writer_setup old → HasBegun old before fields → HasBegun new (before ++ row_text default_writer fields) []
unfolding is_blank
begun_next old new before fields text none wrote same h =
    let was : old.wtr.inner.items ++ old.wtr.buf ≡ before ++ row_body default_writer fields = cc (h.text) in
    let all = row-final (Some before) (written old) (written new) default_writer fields (has_written old) (fields_written old) was (rw h.count h.blank) (rw h.setup at text) in
    record {
      setup = same ∙ h.setup;
      text = ap (λ t. Some t) (all ∙ sym (append-nil (before ++ row_text default_writer fields)));
      count = none;
      blank = rw wrote refl;
    }

-- nothing is written
pub begun_none : (w : Bytes) → writer_setup w ≡ default_writer → w.wtr.inner.items ≡ [] → w.wtr.buf ≡ [] → fields_written w ≡ 0 → has_written w ≡ false → HasBegun w [] []
unfolding is_blank
begun_none w setup inner buf none wrote = record { setup = setup; text = ap (λ t. Some t) (rw (inner, buf) refl); count = none; blank = rw wrote refl }

-- the bytes of a writer that has begun no record
pub begun_all : (w : Bytes) (before bytes : List ℕ) → HasBegun w before [] → Keeps (written w) (Some bytes) → bytes ≡ before
begun_all w before bytes h keeps = let was : w.wtr.inner.items ++ w.wtr.buf ≡ before ++ [] = cc (h.text) in keeps ∙ was ∙ append-nil before

-- ---- frames

first_has : (height : ℕ) (c : ColumnValue) (frame : Frame) → all_have_length height (c ∷ frame) ≡ true → (length c.slots ≡ height) × (all_have_length height frame ≡ true)
first_has height c frame e = elim (cases_Bool (length c.slots == height)) [
  | inl t ↦ (eqb-true (length c.slots) height t, rw t at e)
  | inr f ↦ cc (rw f at e)
]

pub columns_aligned : (height : ℕ) (columns : List Series) → all_have_length height (map value_of columns) ≡ true → All (λ column. length (value_of column).slots ≡ height) columns
columns_aligned height [] e k d less = absurd (omega arith)
columns_aligned height (c ∷ cs) e zero d less = (first_has height (value_of c) (map value_of cs) e).0
columns_aligned height (c ∷ cs) e (suc k) d less = columns_aligned height cs (first_has height (value_of c) (map value_of cs) e).1 k d (omega arith)

pub no_columns : (columns : List Series) (frame : Frame) (null_word : List ℕ) → map value_of columns ≡ frame → length columns ≡ 0 → frame_text (map content frame) null_word ≡ []
unfolding frame_text
no_columns [] frame null_word e none = rw (← e) refl
no_columns (c ∷ cs) frame null_word e none = absurd (omega arith)

contents_are : (columns : List Series) → map content (map value_of columns) ≡ contents_of columns
contents_are [] = refl
contents_are (c ∷ cs) = ap (λ rest. content (value_of c) ∷ rest) (contents_are cs)

pub text_is : (columns : List Series) (frame : Frame) (null_word : List ℕ) → map value_of columns ≡ frame → 0 < length columns →
    frame_text (map content frame) null_word ≡ header_line (contents_of columns) ++ flat_map (row_line null_word (contents_of columns)) (rows_below (frame_height frame))
unfolding frame_text
text_is [] frame null_word e some = absurd (omega arith)
text_is (c ∷ cs) frame null_word e some = rw (← e, contents_are cs) refl

pub some_columns : (count : ℕ) → false ≡ (count == 0) → 0 < count
some_columns zero e = cc
some_columns (suc n) e = omega arith

-- ---- rows by ranges

pub row_more : (line : ℕ → List ℕ) (before : List ℕ) (first place : ℕ) → (before ++ flat_map line (range_with_len first place)) ++ line (first + place) ≡ before ++ flat_map line (range_with_len first (place + 1))
row_more line before first place = flat_map_more line before (range_with_len first place) (first + place) ∙ ap (λ rows. before ++ flat_map line rows) (sym (range_more first place))

-- lists that are made of lists
flat_flat : (line : ℕ → List ℕ) (lists : List (List ℕ)) → flat_map (flat_map line) lists ≡ flat_map line (flat_map (λ rows. rows) lists)
flat_flat line [] = refl
flat_flat line (rows ∷ lists) = ap (λ text. flat_map line rows ++ text) (flat_flat line lists) ∙ sym (flat_map-append line rows (flat_map (λ rs. rs) lists))

texts_from : {A : Type 0} (h : A → List ℕ) (list : ℕ → List ℕ) (line : ℕ → List ℕ) (made : List A) (j : ℕ) → ((k : ℕ) (d : A) → k < length made → h (get_or made k d) ≡ flat_map line (list (j + k))) →
    flat_map h made ≡ flat_map (flat_map line) (map list (range_with_len j (length made)))
texts_from h list line [] j each = refl
texts_from h list line (x ∷ xs) j each =
    let first : j + 0 ≡ j = omega arith in
    ap₂ (λ (a b : List ℕ). a ++ b) (rw first at (each 0 x (omega arith)))
    (texts_from h list line xs (j + 1) (λ k d lt. let next : j + suc k ≡ j + 1 + k = omega arith in rw next at (each (suc k) d (omega (arith, lt)))))

-- the texts of ranges, one behind another, are the text of all rows
pub texts_joined : {A : Type 0} (h : A → List ℕ) (line : ℕ → List ℕ) (n m : ℕ) (made : List A) → 1 ≤ m → length made ≡ m →
    ((k : ℕ) (d : A) → k < m → h (get_or made k d) ≡ flat_map line (range_with_len (range_at n m k).0 (range_at n m k).1)) → flat_map h made ≡ flat_map line (range_with_len 0 n)
texts_joined h line n m made some long each =
    let list : ℕ → List ℕ = λ k. range_with_len (range_at n m k).0 (range_at n m k).1 in
    let lists = map list (range_with_len 0 m) in
    texts_from h list line made 0 (λ k d lt. let here : 0 + k ≡ k = omega arith in rw here (each k d (omega (arith, lt, long))))
    ∙ ap (λ count. flat_map (flat_map line) (map list (range_with_len 0 count))) long
    ∙ flat_flat line lists
    ∙ ap (flat_map line) (ranges_joined (λ rows. rows) (λ row. row) n m lists some (length-map-range_with_len list 0 m)
    (λ k d lt. get_or-map-range_with_len list 0 m k k d lt (omega arith) ∙ sym (map-id (list k))) ∙ map-id (range_with_len 0 n))
