-- The answer of a grouping by keys whose columns have the frame's height.
use Rattle.std.proofs.Common.{◌≡◌, ℕ, Bool, refl, ap, List, [], ◌∷◌, ◌++◌, map, length, Some, None, Ok, Err, eq-eqb}
use Rattle.std.proofs.Math.Bool.{and-true}
use Rattle.std.specs.List.{AllByRecursion}
use Rattle.gb_defs.specs.Slot.{Slot}
use Rattle.gb_defs.specs.Column.{ColumnValue, Frame, content, find_column, taken}
use Rattle.gb_defs.specs.Classes.{agree_by, class, firsts, groups, same_slot, stretched}
use Rattle.gb_defs.specs.Fold.{Method}
use Rattle.gb_defs.specs.Groups.{first_of, rows_of_pair}
use Rattle.gb_defs.specs.Answer.{height_of, agree_of, aggregated, answer, key_at, kept_rows, stretched_key}
use Rattle.gb_defs.specs.Fault.{Fault, fault}
use Rattle.gb_defs.specs.Outcome.{find_columns, grouped, grouped_by}

pub stretched_same : (height : ℕ) (key : List Slot) → length key ≡ height → stretched height key ≡ key
stretched_same height key e = rw (eq-eqb (length key) height e)

-- each key has this length
abbrev pub AreHigh : ℕ → List ColumnValue → Type 0
AreHigh height keys = AllByRecursion (λ key. length key.slots ≡ height) keys

slots_same : (height : ℕ) (keys : List ColumnValue) → AreHigh height keys → map (λ key. (stretched_key height key).slots) keys ≡ map (λ key. key.slots) keys
slots_same height [] high = refl
slots_same height (key ∷ keys) high = rw (stretched_same height key.slots high.0, slots_same height keys high.1)

keys_taken : (height : ℕ) (rows : List ℕ) (keys : List ColumnValue) → AreHigh height keys → map (key_at height rows) keys ≡ map (λ key. content (taken rows key)) keys
keys_taken height rows [] high = refl
keys_taken height rows (key ∷ keys) high = rw (stretched_same height key.slots high.0, keys_taken height rows keys high.1)

module _ (frame : Frame) (keys : List ColumnValue) (high : AreHigh (height_of frame keys) keys) where
  pub agree_high : agree_of frame keys ≡ agree_by (map (λ key. key.slots) keys)
  agree_high = ap agree_by (slots_same (height_of frame keys) keys high)

  -- the keys' slots at the rows, and the aggregates over the rows that agree with each
  pub answer_high : (aggs : List (List ℕ × Method)) (rows : List ℕ) → answer frame keys aggs rows
      ≡ map (λ key. content (taken rows key)) keys
      ++ map (λ agg. aggregated agg (find_column frame agg.0) (map (class (agree_by (map (λ key. key.slots) keys)) (kept_rows frame keys)) rows)) aggs
  unfolding answer
  answer_high aggs rows = rw (agree_high, keys_taken (height_of frame keys) rows keys high)

-- by one key, rows agree where they hold one slot
pub agree_one : (slots : List Slot) → agree_by (slots ∷ []) ≡ same_slot slots
agree_one slots i a b = and-true (same_slot slots a b) i

module _ (agree : ℕ → ℕ → Bool) (rows : List ℕ) where
  first_parts : (f : ℕ → List ℕ) (xs : List ℕ) → map first_of (map (λ i. (i, f i)) xs) ≡ xs
  first_parts f [] = refl
  first_parts f (x ∷ xs) = ap (λ ys. x ∷ ys) (first_parts f xs)

  second_parts : (f : ℕ → List ℕ) (xs : List ℕ) → map rows_of_pair (map (λ i. (i, f i)) xs) ≡ map f xs
  second_parts f [] = refl
  second_parts f (x ∷ xs) = ap (λ ys. f x ∷ ys) (second_parts f xs)

  pub groups_firsts : map first_of (groups agree rows) ≡ firsts agree rows
  unfolding groups
  groups_firsts = first_parts (class agree rows) (firsts agree rows)

  pub groups_lists : map rows_of_pair (groups agree rows) ≡ map (class agree rows) (firsts agree rows)
  unfolding groups
  groups_lists = second_parts (class agree rows) (firsts agree rows)

-- what the grouping is, by the keys that were found
module _ (frame : Frame) (by : List (List ℕ)) (aggs : List (List ℕ × Method)) where
  pub missing : (f : Fault) → find_columns frame by ≡ Err f → grouped frame by aggs ≡ Err f
  missing f e = rw e

  module _ (keys : List ColumnValue) (found : find_columns frame by ≡ Ok keys) where
    pub faulty : (f : Fault) → fault frame keys aggs ≡ Some f → grouped frame by aggs ≡ Err f
    unfolding grouped_by
    faulty f at = rw (found, at)

    pub answered : fault frame keys aggs ≡ None → grouped frame by aggs ≡ Ok (answer frame keys aggs (firsts (agree_of frame keys) (kept_rows frame keys)))
    unfolding grouped_by
    answered none = rw (found, none)
