-- What calls give, by place.
use Rattle.std.specs.Prelude.{ℕ, ◌+◌, ◌<◌, List, slice_index_or}
use Rattle.std.specs.Fn.{FnReturns, Shared}

-- of so many places from `start` on, each has its call
abbrev pub GivesFrom : {F X : Type 0} → Shared F (ℕ × Unit {0}) X → F → ℕ → ℕ → List X → Type 0
GivesFrom {F} {X} g f start count xs = (k : ℕ) (d : X) → k < count → FnReturns g f (start + k, tt) (slice_index_or xs k d)
