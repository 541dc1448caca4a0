use Rattle.std.proofs.Common.{ℕ, length, take, List}
use Rattle.std.specs.List.{AllWithin}
use Rattle.csv.specs.Records.{fields_of}
use Rattle.gb_text.specs.Building.{Building, IsRoomy}
use Rattle.gb_text.proofs.PushLemmas.{IsPassing}
use Rattle.gb_text.proofs.table.push_record.Given as goal

pub record IsMidway (null_word : List ℕ) (initial : List Building) (fields : List (List ℕ)) (place : ℕ) (columns : List Building) : Type 0 where
  pub passing : IsPassing null_word initial (take place fields) place columns
  pub roomy : AllWithin IsRoomy columns place (length columns)

abbrev pub invariant-loop-place : goal.invariant-loop-place
invariant-loop-place l = IsMidway l.null_word l.initial.columns (fields_of l.fields) l.place l.columns
