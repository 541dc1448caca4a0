-- A column while its cells are read: one cell more.
use Rattle.std.proofs.Common.{◌≡◌, ℕ, ◌+◌, Bool, true, false, inl, inr, List, [], ◌∷◌, refl, sym, ◌∙◌, ap, Option, Some, None, option_map, replicate}
use Rattle.std.specs.Prelude.{is_some}
use Rattle.std.proofs.lemmas.Bool.{cases_Bool}
use Rattle.std.proofs.lemmas.Str.{is_utf8-from_IsUtf8}
use Rattle.std.proofs.lemmas.List.{length-map, replicate-append-replicate}
use Rattle.std.specs.Bool.{OnFalse}
use Rattle.std.specs.Str.{IsUtf8, bytes_eq}
use Rattle.gb_defs.specs.Cell.{cell_slot}
use Rattle.gb_defs.specs.Column.{ColumnValue, fresh_column, rechunked}
use Rattle.gb_defs.specs.Table.{category_column, coded_slot, texts_in}
use Rattle.gb_defs.specs.ColumnType.{CategoricalOrdering, Categorical, ColumnType, Flat, text}
use Rattle.gb_defs.specs.Slot.{Slot, Nil}
use Rattle.gb_numbers.specs.Taken.{if_taken}
use Rattle.gb_cols.specs.Column.{TakesCell, pushed}
use Rattle.gb_logical.specs.Logical.{typed_as}
use Rattle.gb_text.specs.Builder.{built, slots_in}
use Rattle.gb_text.specs.Building as building
use Rattle.gb_text.specs.Building.{Building, building_with, in_one_chunk, taken}
use Rattle.gb_text.specs.Part.{joined_to}
use Rattle.gb_text.specs.declared.table.builder.Cells.{Cells}
use Rattle.gb_logical.proofs.BuilderLemmas.{pushed_fresh}

-- a cell that is taken leaves the type
pub same_type : (null_word cell : List ℕ) (old new : ColumnValue) (took : Bool) → TakesCell null_word old new cell took → OnFalse took (new ≡ old) → new.dtype ≡ old.dtype
same_type null_word cell old new true takes refused = pushed_type (cell_slot null_word old.dtype cell) takes
  where
    pushed_type : (o : Option Slot) → Some new ≡ option_map (pushed old) o → new.dtype ≡ old.dtype
    pushed_type None e = cc
    pushed_type (Some slot) e = let same : new ≡ pushed old slot = cc in rw same refl
same_type null_word cell old new false takes refused = ap (λ (c : ColumnValue). c.dtype) refused

module _ (ordering : CategoricalOrdering) where
  abbrev as_categories : ColumnValue → ColumnValue
  as_categories c = typed_as (Flat (Categorical None ordering)) c

  as_taken : (took : Bool) (c : ColumnValue) → if_taken took (as_categories c) ≡ option_map as_categories (if_taken took c)
  as_taken true c = refl
  as_taken false c = refl

  as_pushed : (old : ColumnValue) (o : Option Slot) → option_map as_categories (option_map (pushed old) o) ≡ option_map (pushed (as_categories old)) o
  as_pushed old None = refl
  as_pushed old (Some slot) = refl

  -- a category's cell reads as a text
  pub read_alike : (null_word cell : List ℕ) → cell_slot null_word text cell ≡ cell_slot null_word (Flat (Categorical None ordering)) cell
  unfolding cell_slot
  read_alike null_word cell = refl

  pub texts_taken : (null_word cell : List ℕ) (old new : ColumnValue) (took : Bool) → old.dtype ≡ text → TakesCell null_word old new cell took
      → TakesCell null_word (as_categories old) (as_categories new) cell took
  texts_taken null_word cell old new took typed takes =
      let reads : cell_slot null_word old.dtype cell ≡ cell_slot null_word (Flat (Categorical None ordering)) cell = ap (λ t. cell_slot null_word t cell) typed ∙ read_alike null_word cell in
      as_taken took new ∙ ap (option_map as_categories) takes ∙ as_pushed old (cell_slot null_word old.dtype cell) ∙ ap (option_map (pushed (as_categories old))) reads

-- a text's cell reads
pub text_read : (null_word cell : List ℕ) (t : ColumnType) → IsUtf8 cell → t ≡ text → true ≡ is_some (cell_slot null_word t cell)
unfolding cell_slot
text_read null_word cell t utf8 typed = elim (cases_Bool (bytes_eq cell null_word)) [
  | inl same ↦ rw same refl
  | inr other ↦ rw (other, typed, is_utf8-from_IsUtf8 cell utf8) refl
]

-- categories are read into one chunk
pub categories_rechunked : (name : List ℕ) (ordering : CategoricalOrdering) (slots : List Slot) → rechunked (category_column name ordering slots) ≡ category_column name ordering slots
categories_rechunked name ordering slots = ap (λ n. record (category_column name ordering slots) { chunks = n ∷ [] }) (length-map slots (coded_slot (texts_in slots)))

-- ---- cells that are kept

abbrev kept_in : ColumnValue → Building
kept_in c = record { keeps = true; column = c }

kept_taken : (took : Bool) (c : ColumnValue) → if_taken took (kept_in c) ≡ option_map kept_in (if_taken took c)
kept_taken true c = refl
kept_taken false c = refl

kept_pushed : (old : ColumnValue) (o : Option Slot) → option_map kept_in (option_map (pushed old) o) ≡ option_map (taken (kept_in old)) o
kept_pushed old None = refl
kept_pushed old (Some slot) = refl

pub slots_taken : (null_word cell : List ℕ) (old new : ColumnValue) (took : Bool) → TakesCell null_word old new cell took → building.BuildsCell null_word (kept_in old) (kept_in new) cell took
slots_taken null_word cell old new took takes =
    kept_taken took new ∙ ap (option_map kept_in) takes ∙ kept_pushed old (cell_slot null_word old.dtype cell)

-- ---- cells that are only checked

none_taken : (b : Building) (o : Option Slot) → false ≡ is_some o → None ≡ option_map (taken b) o
none_taken b None e = refl
none_taken b (Some slot) e = cc

pub cell_refused : (null_word cell : List ℕ) (b : Building) → false ≡ is_some (cell_slot null_word b.column.dtype cell) → None ≡ building_with null_word b cell
cell_refused null_word cell b e = none_taken b (cell_slot null_word b.column.dtype cell) e

abbrev pub checked_in : ColumnValue → ℕ → Building
checked_in c count = record { keeps = false; column = fresh_column c.name c.dtype (replicate count Nil) }

one_checked : (c : ColumnValue) (count : ℕ) (o : Option Slot) → true ≡ is_some o → Some (checked_in c (count + 1)) ≡ option_map (taken (checked_in c count)) o
one_checked c count None e = cc
one_checked c count (Some slot) e =
    ap (λ column. Some (record { keeps = false; column = column }))
    (ap (fresh_column c.name c.dtype) (sym (replicate-append-replicate count 1 Nil)) ∙ sym (pushed_fresh c.name c.dtype (replicate count Nil) Nil))

pub cell_checked : (null_word cell : List ℕ) (cells : Cells) (count : ℕ) → true ≡ is_some (cell_slot null_word (slots_in cells).dtype cell)
    → Some (built cells (Some (count + 1))) ≡ building_with null_word (built cells (Some count)) cell
cell_checked null_word cell cells count e = one_checked (slots_in cells) count (cell_slot null_word (slots_in cells).dtype cell) e

-- columns whose cells were checked, joined
pub checked_joined : (c d : ColumnValue) (count more : ℕ) → in_one_chunk (checked_in c (count + more)) ≡ in_one_chunk (joined_to (checked_in c count) (checked_in d more))
checked_joined c d count more =
    ap (λ slots. record { keeps = false; column = fresh_column c.name c.dtype slots }) (sym (replicate-append-replicate count more Nil))
