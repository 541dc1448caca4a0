-- Counts of faults, and bytes that a device may tell.
use Rattle.std.specs.Prelude.{◌≡◌, ℕ, ◌<◌, ◌≤◌, ◌⊎◌, List, [], ◌++◌, Option, option_map, IfSome}

-- a count rose, or stood at the last value of its counter already
abbrev pub Rose : ℕ → ℕ → Type 0
Rose old new = (old < new) ⊎ (18446744073709551615 ≤ old)

-- the bytes with a piece in front of them
abbrev pub with_front : List ℕ → Option (List ℕ) → Option (List ℕ)
with_front piece told = option_map (λ rest. piece ++ rest) told

-- the bytes with a piece behind them
abbrev pub with_piece : Option (List ℕ) → List ℕ → Option (List ℕ)
with_piece told piece = option_map (λ before. before ++ piece) told

-- no bytes, where it tells them
abbrev pub HasNone : Option (List ℕ) → Type 0
HasNone told = IfSome told (λ bytes. bytes ≡ [])
