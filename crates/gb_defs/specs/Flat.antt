-- Lists one after another, and ranges that follow each other.
use Rattle.std.specs.Prelude.{ℕ, ◌+◌, ◌-◌, ◌*◌, ◌/◌, ◌==◌, List, [], ◌∷◌, map, if◌then◌else◌}
use Rattle.std.specs.List.{range_with_len}

-- where each of some lengths begins, the first at `start`
abbrev pub starts_from : ℕ → List ℕ → List ℕ
starts_from start [] = []
starts_from start (length ∷ lengths) = start ∷ starts_from (start + length) lengths

-- the start and the length of the k-th of n ranges: the last has what the others leave
abbrev pub range_at : ℕ → ℕ → ℕ → ℕ × ℕ
range_at len n k = (k * (len / n), if k + 1 == n then len - k * (len / n) else len / n)

-- n ranges that follow each other and cover `len`
abbrev pub ranges_of : ℕ → ℕ → List (ℕ × ℕ)
ranges_of len n = map (range_at len n) (range_with_len 0 n)
