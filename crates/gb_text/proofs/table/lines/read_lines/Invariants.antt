use Rattle.std.proofs.Common.{◌≡◌, ℕ, List, Ok, drop}
use Rattle.gb_text.specs.Asked.{is_asked}
use Rattle.gb_text.specs.Building.{Building}
use Rattle.gb_text.specs.Part.{IsPart}
use Rattle.gb_text.specs.Plain.{IsBehind, IsMarked}
use Rattle.gb_text.specs.Table.{columns_of_header}
use Rattle.gb_text.proofs.table.lines.read_lines.Given as goal

-- the columns have the records in front of what is left, which the text ends with
pub record IsReadingOn (null_word text : List ℕ) (from : ℕ) (before columns : List Building) (left : List ℕ) (marks : ℕ) : Type 0 where
  pub part : (names header : List (List ℕ)) → columns_of_header (is_asked names) header ≡ Ok before → IsPart names null_word header (drop from text) left columns
  pub behind : IsBehind text left
  pub marked : IsMarked left marks

abbrev pub invariant-loop : goal.invariant-loop
invariant-loop l = IsReadingOn l.null_word l.text l.fn.from l.fn.columns.items l.columns.items l.left l.marks
