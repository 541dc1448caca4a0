-- Texts whose records are cells between commas and line ends, or between quotes.
use Rattle.std.specs.Prelude.{◌≡◌, ℕ, ◌<◌, ◌≤◌, Bool, true, leb, List, [], ◌∷◌, ◌++◌, length, drop, map, take, Option, Some, if◌then◌else◌, Ok}
use Rattle.std.specs.Simd.Lanes.{mask_l}
use Rattle.std.specs.Str.{IsAscii, all_ascii_digits}
use Rattle.csv.specs.declared.parser.State.{State}
use Rattle.csv.specs.declared.parser.State.TheVariants as st
use Rattle.csv.specs.Machine.{Read, next_record}
use Rattle.csv.specs.Reading.{default_config}
use Rattle.gb_text.specs.Building.{Building, BuildsCell}
use Rattle.gb_text.specs.Table.{columns_with}

-- the one text is what stands behind some bytes of the other
pub record IsBehind (text rest : List ℕ) : Type 0 where
  pub count : ℕ
  pub is : rest ≡ drop count text

-- what is left in a state reads as the rest does where a record begins, whatever stands behind both: behind
-- a carriage return a line feed is left
pub record GoesOn (state : State) (left rest : List ℕ) : Type 0 where
  pub always : (more : List ℕ) → next_record default_config state [] [] (left ++ more) ≡ next_record default_config st.StartRecord [] [] (rest ++ more)
  pub some : 0 < length rest → 0 < length left

-- what stands behind a carriage return begins the next record, but for a line feed
pub record IsReturned (left rest : List ℕ) : Type 0 where
  pub behind : IsBehind left rest
  pub goes_on : GoesOn st.AfterCr left rest

-- what a record with these fields reads as, where it ends in a state, or else with more from the rest
abbrev pub after_cell : Bool → List (List ℕ) → State → List ℕ → List ℕ → Option Read
after_cell last fields state left rest = if last then Some (fields, state, left) else next_record default_config st.StartField fields [] rest

-- the text begins with a cell, behind which its record ends, or goes on with the rest
pub record IsCut (text cell rest : List ℕ) (last : Bool) : Type 0 where
  pub ascii : IsAscii text → IsAscii cell
  pub behind : IsBehind text rest
  pub state : State
  pub left : List ℕ
  pub goes_on : GoesOn state left rest
  pub reads : (fields : List (List ℕ)) → next_record default_config st.StartField fields [] text ≡ after_cell last (fields ++ cell ∷ []) state left rest

-- digits, so few that they are below any limit of 64 bits
pub record AreFewDigits (cell : List ℕ) : Type 0 where
  pub digits : all_ascii_digits cell ≡ true
  pub some : 0 < length cell
  pub few : length cell ≤ 15

-- the column has the slot of the cell in front of the text, and the rest stands behind its end
pub record TakesFront (null_word : List ℕ) (old new : Building) (text rest : List ℕ) (last : Bool) : Type 0 where
  pub cell : List ℕ
  pub cut : IsCut text cell rest last
  pub builds : BuildsCell null_word old new cell true

-- what stands behind the quote that closes a cell, and behind the comma or the line end there
pub record IsClosed (behind rest : List ℕ) (last : Bool) : Type 0 where
  pub skipped : IsBehind behind rest
  pub state : State
  pub left : List ℕ
  pub goes_on : GoesOn state left rest
  pub reads : (fields : List (List ℕ)) (field : List ℕ) → next_record default_config st.AfterQuote fields field behind ≡ after_cell last (fields ++ field ∷ []) state left rest

-- the text begins with the record of these fields, and the rest stands behind it
pub record BeginsWith (fields : List (List ℕ)) (text rest : List ℕ) : Type 0 where
  pub state : State
  pub left : List ℕ
  pub reads : next_record default_config st.StartField [] [] text ≡ Some (fields, state, left)
  pub goes_on : GoesOn state left rest
  pub behind : IsBehind text rest

-- the columns have the slots of the record in front of the text, and the rest stands behind it
pub record TakesLine (null_word : List ℕ) (old new : List Building) (text rest : List ℕ) : Type 0 where
  pub fields : List (List ℕ)
  pub begins : BeginsWith fields text rest
  pub takes : (row : ℕ) → columns_with null_word row old fields ≡ Ok new

-- marks of the bytes in front of a text that may end a cell, the first byte's as the lowest bit
pub record IsMarked (text : List ℕ) (marks : ℕ) : Type 0 where
  pub count : ℕ
  pub few : count ≤ 64
  pub within : count ≤ length text
  pub are : marks ≡ mask_l (map (λ b. leb b 44) (take count text))
