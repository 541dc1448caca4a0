-- Buffers that are laid one after another.
use Rattle.std.specs.Prelude.{ℕ, List, length, map, Vec}
use Rattle.std.specs.List.{flat_map, sum_by}
use Rattle.gb_defs.specs.Flat.{starts_from}

-- the items of the buffers, buffer after buffer
abbrev pub joined : {X A : Type 0} → List (Vec X A) → List X
joined bufs = flat_map (λ buf. buf.items) bufs

-- how many items the buffers have together
abbrev pub item_count : {X A : Type 0} → List (Vec X A) → ℕ
item_count bufs = sum_by (λ buf. length buf.items) bufs

-- where each buffer begins, the first at `base`
abbrev pub starts_of : {X A : Type 0} → ℕ → List (Vec X A) → List ℕ
starts_of base bufs = starts_from base (map (λ buf. length buf.items) bufs)
