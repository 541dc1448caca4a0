-- The lengths of cells.
use Rattle.std.proofs.Common.{◌≡◌, ℕ, zero, suc, ◌+◌, ◌==◌, List, [], ◌∷◌, length, map, replicate, arith, ap, refl, cond, false, ◌∙◌}
use Rattle.std.proofs.lemmas.Bool.Decides.{nat_tests}
use Rattle.std.specs.List.{count_by}
use Rattle.std.proofs.lemmas.List.Sums.{sum_by-cons}
use Rattle.gb_defs.specs.RowBytes.{ended_bytes, slot_bytes}
use Rattle.gb_defs.specs.ColumnType.{ColumnType}
use Rattle.gb_defs.specs.Slot.{Slot, Nil}
use Rattle.gb_cols.specs.Null.{AreNulls}
use Rattle.gb_rows.specs.Cells.{bytes_cell}

-- a zero counts twice, and two zeros end the bytes
ended_length : (bytes : List ℕ) → length (ended_bytes bytes) ≡ length bytes + count_by (λ b. b == 0) bytes + 2
ended_length [] = refl
ended_length (zero ∷ bytes) = omega (arith, ended_length bytes, sum_by-cons (λ b. cond (b == 0) 1 0) zero bytes)
ended_length (suc b ∷ bytes) =
    let e : (suc b == 0) ≡ false = grind (arith, nat_tests) in
    omega (arith, ended_length bytes, sum_by-cons (λ x. cond (x == 0) 1 0) (suc b) bytes, ap {B = ℕ} (λ t. cond t 1 0) e)

pub bytes_length : (bytes : List ℕ) → length (bytes_cell bytes) ≡ length bytes + count_by (λ b. b == 0) bytes + 3
bytes_length bytes = omega (arith, ended_length bytes)

map_nulls : (t : ColumnType) (n : ℕ) → map (slot_bytes t) (replicate n Nil) ≡ replicate n (0 ∷ [])
map_nulls t zero = refl
map_nulls t (suc n) = ap (λ cells. (0 ∷ []) ∷ cells) (map_nulls t n)

-- the cells of so many nulls
pub null_cells : (t : ColumnType) (slots : List Slot) (n : ℕ) → AreNulls slots → length slots ≡ n → map (slot_bytes t) slots ≡ replicate n (0 ∷ [])
null_cells t slots n nulls e = ap (map (slot_bytes t)) (nulls ∙ ap (λ k. replicate k Nil) e) ∙ map_nulls t n
