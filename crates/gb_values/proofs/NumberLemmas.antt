-- Numbers in a row, as slots.
use Rattle.std.proofs.Common.{◌≡◌, ℕ, ℤ, pos, zero, suc, ◌+◌, ◌-◌, ◌<◌, List, [], ◌∷◌, ◌++◌, take, drop, length, map, refl, sym, subst, arith, get_or}
use Rattle.std.specs.List.{All}
use Rattle.std.proofs.lemmas.List.Elements.{All-append, All-drop, All-map, All-take}
use Rattle.gb_defs.specs.ColumnType.{FlatType, Flat, Fits, FitsNumber}
use Rattle.gb_defs.specs.Slot.{Num, slot_at}
use Rattle.gb_values.proofs.ValueLemmas.{values_part}

pub number_at : (numbers : List ℤ) (i : ℕ) → i < length numbers → Num (get_or numbers i (pos 0)) ≡ slot_at (map (λ n. Num n) numbers) i
number_at [] i lt = absurd (omega arith)
number_at (n ∷ numbers) zero lt = refl
number_at (n ∷ numbers) (suc i) lt = number_at numbers i (omega arith)

pub numbers_fit : (t : FlatType) (numbers : List ℤ) → All (FitsNumber t) numbers → All (Fits (Flat t)) (map (λ n. Num n) numbers)
numbers_fit t numbers all = All-map (Fits (Flat t)) (λ n. Num n) numbers all

-- numbers that fit, with some of others
pub all_part : {N : Type 0} (P : ℤ → Type 0) (number : N → ℤ) (values others new : List N) (start count : ℕ) → new ≡ values ++ take ((start + count) - start) (drop start others) → All P (map number values) → All P (map number others) → All P (map number new)
all_part P number values others new start count more own theirs =
    subst (λ (ns : List ℤ). All P ns) (sym (values_part number values others new start count more))
    (All-append P (map number values) (take count (drop start (map number others))) own (All-take P count (drop start (map number others)) (All-drop P start (map number others) theirs)))
