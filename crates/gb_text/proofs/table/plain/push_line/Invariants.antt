use Rattle.std.proofs.Common.{◌≡◌, Bool, true, ℕ, length, List, []}
use Rattle.std.specs.List.{AllWithin}
use Rattle.std.specs.Str.{IsAscii}
use Rattle.csv.specs.declared.parser.State.{State}
use Rattle.csv.specs.declared.parser.State.TheVariants as st
use Rattle.csv.specs.Machine.{next_record}
use Rattle.csv.specs.Reading.{default_config}
use Rattle.gb_text.specs.Building.{Building, IsRoomy}
use Rattle.gb_text.specs.Plain.{GoesOn, IsBehind, IsMarked, after_cell}
use Rattle.gb_text.proofs.PushLemmas.{IsPassing}
use Rattle.gb_text.proofs.table.plain.push_line.Given as goal

-- the columns before a place have the cells that were cut so far
pub record IsMidway (null_word : List ℕ) (initial : List Building) (text : List ℕ) (ascii : Bool) (place : ℕ) (columns : List Building) (rest : List ℕ) (ended : Bool) (marks : ℕ) : Type 0 where
  pub done : List (List ℕ)
  pub state : State
  pub left : List ℕ
  pub read : next_record default_config st.StartField [] [] text ≡ after_cell ended done state left rest
  pub goes_on : GoesOn state left rest
  pub passing : IsPassing null_word initial done place columns
  pub roomy : AllWithin IsRoomy columns place (length columns)
  pub is_ascii : ascii ≡ true → IsAscii rest
  pub behind : IsBehind text rest
  pub marked : IsMarked rest marks

abbrev pub invariant-loop-column : goal.invariant-loop-column
invariant-loop-column l = IsMidway l.null_word l.initial.columns l.fn.text l.ascii l.column-index l.columns l.left l.ended l.marks
