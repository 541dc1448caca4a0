-- Lists of words.
use Rattle.std.specs.Prelude.{ℕ, ◌<◌, ◌==◌, Bool, List, get_or, length}

-- the words at two places are one
abbrev pub same_word : List ℕ → ℕ → ℕ → Bool
same_word words i j = get_or words i 0 == get_or words j 0

abbrev pub AreBelow : ℕ → List ℕ → Type 0
AreBelow bound words = (k : ℕ) → k < length words → get_or words k 0 < bound
