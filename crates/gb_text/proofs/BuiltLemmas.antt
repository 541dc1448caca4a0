-- Columns while they are read, however their slots are cut into chunks.
use Rattle.std.proofs.Common.{◌≡◌, ℕ, suc, Bool, List, [], ◌∷◌, map, refl, ap, All}
use Rattle.std.specs.List.{AllByRecursion, filter_map}
use Rattle.std.proofs.lemmas.List.{length_push}
use Rattle.std.proofs.lemmas.List.Elements.{All-from_recursion, recursion_from_All}
use Rattle.gb_defs.specs.Slot.{Slot}
use Rattle.gb_defs.specs.Table.{Head, slots_of_column}
use Rattle.gb_text.specs.Building.{Building, IsRoomy, IsWhole, in_one_chunk, kept_slot, read_if_kept}
use Rattle.gb_text.specs.Table.{built_from, built_of, head_in, taken_each}

-- what holds of each column, however its slots are cut into chunks
pub all_back : (P : Building → Type 0) → ((b : Building) → P (in_one_chunk b) → P b) → (bs : List Building) → All P (map in_one_chunk bs) → All P bs
all_back P back bs h = All-from_recursion P bs (each bs (recursion_from_All P (map in_one_chunk bs) h))
  where
    each : (cs : List Building) → AllByRecursion P (map in_one_chunk cs) → AllByRecursion P cs
    each [] h = tt
    each (c ∷ cs) h = (back c h.0, each cs h.1)

kept_same : (b : Building) → read_if_kept (in_one_chunk b) ≡ read_if_kept b
kept_same b = refl

pub read_same : (bs : List Building) → filter_map read_if_kept (map in_one_chunk bs) ≡ filter_map read_if_kept bs
read_same [] = refl
read_same (b ∷ bs) = rw (kept_same b, read_same bs) refl

pub whole_back : (bs : List Building) → All IsWhole (map in_one_chunk bs) → All IsWhole bs
whole_back bs h = all_back IsWhole (λ b w. record { fresh = w.fresh; few = w.few }) bs h

pub one_built : (asked : List ℕ → Bool) (k : ℕ) (heads : List Head) (rows : List (List Slot)) → map in_one_chunk (built_from asked k heads rows) ≡ built_from asked k heads rows
one_built asked k [] rows = refl
one_built asked k (head ∷ heads) rows = ap (λ bs. built_of (asked head.name) head (slots_of_column k rows) ∷ bs) (one_built asked (suc k) heads rows)

pub roomy_back : (bs : List Building) → All IsRoomy (map in_one_chunk bs) → All IsRoomy bs
roomy_back bs h = all_back IsRoomy (λ b room. room) bs h

pub heads_one : (bs : List Building) → map head_in (map in_one_chunk bs) ≡ map head_in bs
heads_one [] = refl
heads_one (b ∷ bs) = ap (λ hs. head_in b ∷ hs) (heads_one bs)

-- a slot more each
pub taken_one : (bs : List Building) (slots : List Slot) → map in_one_chunk (taken_each bs slots) ≡ taken_each (map in_one_chunk bs) slots
taken_one [] slots = refl
taken_one (b ∷ bs) [] = refl
taken_one (b ∷ bs) (slot ∷ slots) = rw (length_push b.column.slots (kept_slot b.keeps slot), taken_one bs slots) refl
