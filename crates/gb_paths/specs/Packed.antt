-- Words of rows, made of their numbers by several keys.
use Rattle.std.specs.Prelude.{◌≡◌, ℕ, ◌+◌, ◌*◌, ◌<◌, ◌≤◌, Bool, IfErr, IfOk, IfSome, List, Option, Result, get_or, length, replicate}
use Rattle.std.specs.Borrow.{Bor}
use Rattle.gb_defs.specs.Classes.{rows_below, same_slot}
use Rattle.gb_defs.specs.Column.{ColumnValue}
use Rattle.gb_defs.specs.Groups.{HasRowNumbers}
use Rattle.gb_base.specs.PlSmallStr.{IsNoMemory}
use Rattle.gb_base.specs.declared.error.PolarsError.{PolarsError}
use Rattle.gb_series.specs.Series.{value_of}
use Rattle.gb_series.specs.declared.series.Series.{Series}
use Rattle.gb_paths.specs.Keys.{HasValues}
use Rattle.gb_paths.specs.Numbering.{AreNumbersUnder}
use Rattle.gb_paths.specs.Words.{AreBelow, same_word}
use Rattle.gb_paths.specs.declared.number_several.PackedRows.{PackedRows}
use Rattle.gb_paths.specs.declared.number_several.Words.{Words}
use Rattle.gb_paths.specs.declared.number_several.Words.TheVariants.{None, Narrow, Wide}
use Rattle.gb_paths.specs.declared.row_numbers.RowNumbers.{RowNumbers}

-- words in whatever room
abbrev pub words_in : Words → List ℕ
words_in (None rows) = replicate rows 0
words_in (Narrow words) = words.items
words_in (Wide words) = words.items

-- a column whose rows have keys and numbers
pub record HasKeys (column : ColumnValue) : Type 0 where
  pub valued : HasValues column
  pub few : HasRowNumbers (length column.slots)

-- a column of so many rows, which have keys
pub record IsKeyOf (rows : ℕ) (column : ColumnValue) : Type 0 where
  pub valued : HasValues column
  pub long : length column.slots ≡ rows

-- the numbers of the groups of a column's rows, if they were made
abbrev pub IsNumberedBy : ColumnValue → Option RowNumbers → Type 0
IsNumberedBy column found = IfSome found (AreNumbersUnder (same_slot column.slots) (rows_below (length column.slots)))

-- what comes of numbering the rows of the key at a place
pub record NumbersKey (keys : List (Bor Series)) (k : ℕ) (result : Result (Option RowNumbers) PolarsError) : Type 0 where
  pub ok : (d : Bor Series) → IfOk result (IsNumberedBy (value_of (get_or keys k d).now))
  pub err : IfErr result IsNoMemory

-- a word of each of some rows, below a bound: rows have one word where they agree
pub record ArePacked (agree : ℕ → ℕ → Bool) (rows words : List ℕ) (bound : ℕ) : Type 0 where
  pub many : length words ≡ length rows
  pub low : AreBelow bound words
  pub alike : (i j : ℕ) → i < length rows → j < length rows → same_word words i j ≡ agree (get_or rows i 0) (get_or rows j 0)

abbrev pub IsPacked : (ℕ → ℕ → Bool) → List ℕ → PackedRows → Type 0
IsPacked agree rows packed = ArePacked agree rows (words_in packed.words) packed.below

-- so many words, all below their bound
pub record HasWords (rows : ℕ) (packed : PackedRows) : Type 0 where
  pub many : length (words_in packed.words) ≡ rows
  pub low : AreBelow packed.below (words_in packed.words)

-- digits to a base, and words that with one more are below a bound
pub record AreDigits (bound base : ℕ) (words digits : List ℕ) : Type 0 where
  pub low : AreBelow base digits
  pub room : (k : ℕ) → k < length words → get_or words k 0 * base + base ≤ bound

-- words, each with a digit behind its own
pub record HaveDigits (base : ℕ) (words digits more : List ℕ) : Type 0 where
  pub many : length more ≡ length words
  pub each : (k : ℕ) → k < length words → get_or more k 0 ≡ get_or words k 0 * base + get_or digits k 0
