-- The number of each row's group.
use Rattle.std.specs.Prelude.{◌≡◌, ℕ, suc, ◌<◌, ◌≤◌, Bool, true, ◌&&◌, List, [], ◌∷◌, ◌++◌, if◌then◌else◌, drop, get_or, length, map}
use Rattle.std.specs.List.{AllByRecursion, flat_map}
use Rattle.std.specs.List.Sorted.{IsStrictlyIncreasing}
use Rattle.gb_defs.specs.Classes.{firsts, rows_below}
use Rattle.gb_defs.specs.Groups.{Grouping, idx_groups}
use Rattle.gb_defs.specs.Rows.{Rows, same_slot_at}
use Rattle.gb_paths.specs.Numbers.{pairs_by}
use Rattle.gb_paths.specs.declared.row_numbers.RowNumbers.{RowNumbers}

-- the place of the first of some rows that a row agrees with
abbrev pub number_in : (ℕ → ℕ → Bool) → List ℕ → ℕ → ℕ
number_in agree [] row = 0
number_in agree (f ∷ fs) row = if agree row f then 0 else suc (number_in agree fs row)

-- first rows of groups of some rows, and the number of each row's group
pub record AreNumbersOf (agree : ℕ → ℕ → Bool) (rows first numbers : List ℕ) : Type 0 where
  pub first_is : first ≡ firsts agree rows
  pub numbers_are : numbers ≡ map (number_in agree first) rows

-- the numbers of some rows by which rows agree
abbrev pub AreNumbersUnder : (ℕ → ℕ → Bool) → List ℕ → RowNumbers → Type 0
AreNumbersUnder agree rows numbers = AreNumbersOf agree rows numbers.first.items numbers.of_rows.items

-- of some rows by what they hold
abbrev pub AreNumbersAmong : Rows → List ℕ → RowNumbers → Type 0
AreNumbersAmong rows members numbers = AreNumbersOf (same_slot_at rows.slot) members numbers.first.items numbers.of_rows.items

-- the groups of rows whose numbers they are, in the order of their first rows
abbrev pub numbered : RowNumbers → Grouping
numbered numbers = idx_groups (pairs_by (rows_below (length numbers.of_rows.items)) numbers.of_rows.items numbers.first.items) true

-- ---- parts of the rows

-- a part of rows that ascend from a row on, below another, from which on the later parts stand
pub record IsPart (from : ℕ) (part : List ℕ) (Later : ℕ → Type 0) : Type 0 where
  pub next : ℕ
  pub rises : IsStrictlyIncreasing part
  pub low : AllByRecursion (λ row. from ≤ row) part
  pub high : AllByRecursion (λ row. row < next) part
  pub onward : from ≤ next
  pub later : Later next

-- parts of rows that ascend, each behind those before, from a row on
abbrev pub AreParts : ℕ → List (List ℕ) → Type 0
AreParts from [] = Unit {0}
AreParts from (part ∷ parts) = IsPart from part (λ next. AreParts next parts)

-- the first rows of the parts
abbrev pub firsts_in : List RowNumbers → List ℕ
firsts_in parts = flat_map (λ part. part.first.items) parts

-- each row of the parts with the number of the first row of its part
abbrev pub renumbered : List ℕ → List RowNumbers → List ℕ
renumbered numbers [] = []
renumbered numbers (part ∷ parts) = map (λ place. get_or numbers place 0) part.of_rows.items ++ renumbered (drop (length part.first.items) numbers) parts

-- ---- rows by two keys

-- two rows agree by both
abbrev pub both_agree : (ℕ → ℕ → Bool) → (ℕ → ℕ → Bool) → ℕ → ℕ → Bool
both_agree a b i j = a i j && b i j
