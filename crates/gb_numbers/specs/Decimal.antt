-- Digits with a point among them, in runs.
use Rattle.std.specs.Prelude.{◌≡◌, ℕ, ◌+◌, ◌*◌, ◌^◌, ◌-◌, ◌==◌, ◌<◌, ◌≤◌, nat_lt, ◌&&◌, ℤ, pos, negsuc, List, [], ◌∷◌, ◌++◌, length, take, drop, Option, Some, None, if◌then◌else◌}
use Rattle.std.specs.Borrow.{Bor}
use Rattle.std.specs.Char.{is_ascii_digit}
use Rattle.std.specs.List.{after_first, before_first}
use Rattle.std.specs.Str.Parse.{digits_value, digits_value_after}
use Rattle.gb_defs.specs.Cell.{is_numeral, is_point}
use Rattle.gb_defs.specs.CellText.{padded_digits}

-- the digits at the front, and what stands behind them
abbrev pub front_digits : List ℕ → List ℕ
front_digits [] = []
front_digits (c ∷ cs) = if is_ascii_digit c then c ∷ front_digits cs else []

abbrev pub behind_digits : List ℕ → List ℕ
behind_digits [] = []
behind_digits (c ∷ cs) = if is_ascii_digit c then behind_digits cs else c ∷ cs

-- the number of the digits at the front behind those of a number before, in 128 bits, and what stands
-- behind them
pub record IsRun (before : ℕ) (bytes : List ℕ) (value : ℕ) (rest : List ℕ) : Type 0 where
  pub number : value ≡ digits_value_after 10 before (front_digits bytes)
  pub few : value < 2 ^ 128
  pub behind : rest ≡ behind_digits bytes

-- the run at the front, or nothing where 128 bits are too few for its number
abbrev pub GivesRun : ℕ → List ℕ → Option (ℕ × Bor (List ℕ)) → Type 0
GivesRun before bytes None = 2 ^ 128 ≤ digits_value_after 10 before (front_digits bytes)
GivesRun before bytes (Some run) = IsRun before bytes run.0 run.1.now

-- a number and as many digits behind it as there are bytes are 19 digits at most
abbrev pub FitsShort : ℕ → List ℕ → Type 0
FitsShort before bytes = (before + 1) * 10 ^ length bytes ≤ 10 ^ 19

-- the number that digits before and behind a point write, and how many stand behind it
abbrev pub joined_digits : List ℕ → List ℕ → Option (ℕ × ℕ)
joined_digits whole part =
    if is_numeral (whole ++ part) && nat_lt (digits_value 10 (whole ++ part)) (2 ^ 128)
    then Some (digits_value 10 (whole ++ part), length part) else None

abbrev pub pointed_digits : List ℕ → Option (ℕ × ℕ)
pointed_digits bytes = joined_digits (before_first is_point bytes) (after_first is_point bytes)

-- digits with a point before so many of them, and zeros before them where they are too few
abbrev pub pointed_text : ℕ → List ℕ → List ℕ
pointed_text scale digits =
    if scale == 0 then digits else if nat_lt scale (length digits) then
    take (length digits - scale) digits ++ 46 ∷ drop (length digits - scale) digits else 48 ∷ 46 ∷ padded_digits scale digits

-- the minus of a number below zero
abbrev pub minus_of : ℤ → List ℕ
minus_of (pos n) = []
minus_of (negsuc n) = 45 ∷ []
