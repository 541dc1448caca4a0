use Rattle.std.proofs.Common.{◌≡◌, ℕ, Bool, List}
use Rattle.csv.specs.Records.{Row, fields_of}
use Rattle.gb_text.specs.Asked.{is_asked, names_in}
use Rattle.gb_text.specs.Building.{Building}
use Rattle.gb_text.proofs.HeaderLemmas.{IsHeader}
use Rattle.gb_text.proofs.table.header.columns_of_header.Given as goal

pub record IsMaking (asked : List ℕ → Bool) (header row : Row) (at : ℕ) (columns : List Building) (set : List (List ℕ)) : Type 0 where
  pub same : row ≡ header
  pub made : IsHeader asked (fields_of header) at columns set

abbrev pub invariant-loop-field : goal.invariant-loop-field
invariant-loop-field l =
    (goal.iterator-loop-field).can_next l.field-iterator × (goal.iterator-loop-field).is_finite l.field-iterator
    × IsMaking (is_asked (names_in l.fn.names)) l.fn.header l.field-iterator.row.now l.field-iterator.at l.columns.items l.seen
