-- What a slice of a list shows: from a place, which a negative offset counts from the end, so many things,
-- both ends moved into the list.
use Rattle.std.specs.Prelude.{ℕ, ◌+◌, ◌-◌, nat_lt, min, max, ℤ, pos, negsuc, ◌+ℤ◌, List, [], ◌∷◌, take, drop, length, sum}
use Rattle.std.specs.List.{filter}

-- where a slice begins in a list of so many things: at the offset, or so many from the end where it is
-- negative
abbrev pub slice_from : ℕ → ℤ → ℤ
slice_from count (pos n) = pos n
slice_from count (negsuc n) = pos count +ℤ negsuc n

-- a place moved into a list of so many things
abbrev pub moved_into : ℕ → ℤ → ℕ
moved_into count (pos n) = min n count
moved_into count (negsuc n) = 0

-- the first place that a slice shows, and the first place behind those
abbrev pub slice_start : ℕ → ℤ → ℕ
slice_start count offset = moved_into count (slice_from count offset)

abbrev pub slice_end : ℕ → ℤ → ℕ → ℕ
slice_end count offset len = moved_into count (slice_from count offset +ℤ pos len)

-- the things from one place up to another, which is left out
abbrev pub between : {A : Type 0} → ℕ → ℕ → List A → List A
between start end xs = take (end - start) (drop start xs)

-- the things that a slice shows
abbrev pub shown : {A : Type 0} → List A → ℤ → ℕ → List A
shown xs offset len = between (slice_start (length xs) offset) (slice_end (length xs) offset len) xs

-- how many of the places from one up to another stand in each chunk, the first chunk beginning at `at`
abbrev pub places_in : ℕ → ℕ → ℕ → List ℕ → List ℕ
places_in start end at [] = []
places_in start end at (n ∷ ns) = (min end (at + n) - max start at) ∷ places_in start end (at + n) ns

-- a list, or one thing where it is empty
abbrev pub or_one : {A : Type 0} → A → List A → List A
or_one x [] = x ∷ []
or_one x (y ∷ ys) = y ∷ ys

-- the lengths of the parts of chunks that a slice shows: empty ones are left out, or there is one empty chunk
abbrev pub shown_chunks : List ℕ → ℤ → ℕ → List ℕ
shown_chunks chunks offset len =
    or_one 0 (filter (nat_lt 0) (places_in (slice_start (sum chunks) offset) (slice_end (sum chunks) offset len) 0 chunks))
