-- Ranges of values that part no equal neighbours.
use Rattle.std.specs.Prelude.{◌≡◌, ℕ, suc, ◌+◌, ◌-◌, ◌*◌, ◌/◌, ◌<◌, nat_lt, max, Bool, false, List, [], ◌∷◌, map, filter, take, drop, length, slice_index_or, if◌then◌else◌}
use Rattle.std.specs.List.{range_with_len}

-- how many values behind a value, from the first on, each equal the one before
abbrev pub same_behind : {T : Type 0} → (T → T → Bool) → T → List T → ℕ
same_behind same x [] = 0
same_behind same x (y ∷ ys) = if same x y then suc (same_behind same y ys) else 0

-- the same behind the first of some values
abbrev pub same_from : {T : Type 0} → (T → T → Bool) → List T → ℕ
same_from same [] = 0
same_from same (x ∷ xs) = same_behind same x xs

-- the least place, not below this one, that is the end or whose value differs from the one before it
abbrev pub clean_cut : {T : Type 0} → (T → T → Bool) → List T → ℕ → ℕ
clean_cut same values at = at + same_from same (drop (at - 1) values)

-- how far apart the places are that cut a length into so many near equal parts
abbrev pub part_length : ℕ → ℕ → ℕ
part_length len n = max (len / n) 1

-- those places, inside the length
abbrev pub even_places : ℕ → ℕ → List ℕ
even_places len n =
    filter (λ at. nat_lt at len) (map (λ k. k * part_length len n) (range_with_len 1 (n - 1)))

-- the start and the length of each range between a start, the cuts and an end; no range is empty
abbrev pub ranges_by : ℕ → List ℕ → ℕ → List (ℕ × ℕ)
ranges_by start [] end = if nat_lt start end then (start, end - start) ∷ [] else []
ranges_by start (cut ∷ cuts) end =
    if nat_lt start cut then (start, cut - start) ∷ ranges_by cut cuts end
    else ranges_by start cuts end

-- the ranges between the clean cuts near equal parts
abbrev pub clean_ranges : {T : Type 0} → (T → T → Bool) → List T → ℕ → List (ℕ × ℕ)
clean_ranges same values n =
    ranges_by 0 (map (clean_cut same values) (even_places (length values) n)) (length values)

-- a range that begins there parts no equal neighbours: the value differs from the one before, if any
abbrev pub BeginsClean : {T : Type 0} → (T → T → Bool) → List T → ℕ → Type 0
BeginsClean {T} same values start =
    0 < start → (d : T) →
    same (slice_index_or values (start - 1) d) (slice_index_or values start d) ≡ false

-- the values in a range
abbrev pub in_range : {T : Type 0} → List T → ℕ × ℕ → List T
in_range values range = take range.1 (drop range.0 values)
