-- How buffers are dealt to workers.
use Rattle.std.specs.Prelude.{◌≡◌, ℕ, ◌-◌, ◌<◌, ◌≤◌, List, [], ◌∷◌}

-- the ranges take so many buffers in turn, each some, and leave none
abbrev pub DealsOut : List (ℕ × ℕ) → ℕ → Type 0
DealsOut [] count = count ≡ 0
DealsOut (share ∷ shares) count =
    (0 < share.1) × (share.1 ≤ count) × DealsOut shares (count - share.1)
