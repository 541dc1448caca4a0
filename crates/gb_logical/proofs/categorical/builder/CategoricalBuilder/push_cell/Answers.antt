use Rattle.std.proofs.Common.{◌≡◌, ◌∙◌, List, ℕ, Some, ap, false, option_map, sym, true}
use Rattle.std.specs.Str.{bytes_eq, is_utf8}
use Rattle.std.proofs.lemmas.Str.{IsUtf8-from_is_utf8}
use Rattle.gb_base.specs.DataType.{ordering_of}
use Rattle.gb_defs.specs.Cell.{cell_slot}
use Rattle.gb_defs.specs.Column.{ColumnValue}
use Rattle.gb_defs.specs.Slot.{Bytes}
use Rattle.gb_cols.specs.Column.{pushed}
use Rattle.gb_logical.proofs.BuilderLemmas.{no_cell, null_cell, text_cell}
use Rattle.gb_logical.proofs.categorical.builder.CategoricalBuilder.push_cell.Goals as goal

pub returns-then-eq-clause-ok : goal.returns-then-eq-clause-ok
returns-then-eq-clause-ok c =
    let null_word = c.args.null_word.now in
    let cell = c.args.cell.now in
    let typed = sym (ap (λ (v : ColumnValue). v.dtype) c.self.view_is) in
    let same : bytes_eq cell null_word ≡ true = rw c.as_bytes.ensures.value at (sym c.eq.ensures ∙ c.if-eq.true) in
    let read = ap (λ t. cell_slot null_word t cell) typed ∙ null_cell null_word cell (ordering_of c.self.inside.ordering) same in
    ap (λ v. Some v) c.in_ok-push_text.ensures.ok ∙ sym (ap (option_map (pushed c.args.self.now)) read)

pub returns-then-not-is_utf8-clause-ok : goal.returns-then-not-is_utf8-clause-ok
returns-then-not-is_utf8-clause-ok c =
    let null_word = c.args.null_word.now in
    let cell = c.args.cell.now in
    let typed = sym (ap (λ (v : ColumnValue). v.dtype) c.self.view_is) in
    let other : bytes_eq cell null_word ≡ false = rw c.as_bytes.ensures.value at (sym c.eq.ensures ∙ c.if-eq.false) in
    let bad : is_utf8 cell ≡ false = sym c.is_utf8.ensures ∙ c.if-not-is_utf8.true in
    let read = ap (λ t. cell_slot null_word t cell) typed ∙ no_cell null_word cell (ordering_of c.self.inside.ordering) other bad in
    sym (ap (option_map (pushed c.args.self.now)) read)

pub returns-clause-ok : goal.returns-clause-ok
returns-clause-ok c =
    let null_word = c.args.null_word.now in
    let cell = c.args.cell.now in
    let typed = sym (ap (λ (v : ColumnValue). v.dtype) c.self.view_is) in
    let other : bytes_eq cell null_word ≡ false = rw c.as_bytes.ensures.value at (sym c.eq.ensures ∙ c.if-eq.false) in
    let read = ap (λ t. cell_slot null_word t cell) typed ∙ text_cell null_word cell (ordering_of c.self.inside.ordering) other (rw c.from_utf8_unchecked.ensures at c.from_utf8_unchecked.utf8) in
    ap (λ v. Some v) c.in_ok-push_text-2.ensures.ok ∙ ap (λ (bytes : List ℕ). Some (pushed c.args.self.now (Bytes bytes))) c.from_utf8_unchecked.ensures ∙ sym (ap (option_map (pushed c.args.self.now)) read)

pub from_utf8_unchecked-requires : goal.from_utf8_unchecked-requires
from_utf8_unchecked-requires c = IsUtf8-from_is_utf8 c.args.cell.now (sym c.is_utf8.ensures ∙ c.if-not-is_utf8.false)
