-- Rows that take bytes and cells, over what contracts see of them.
use Rattle.std.proofs.Common.{◌≡◌, ℕ, ◌+◌, ◌<◌, ◌≤◌, nat_lt, true, false, List, [], ◌∷◌, ◌++◌, length, set, get_or, refl, ap, arith, ◌∙◌, subst, append_assoc, length-set}
use Rattle.std.proofs.lemmas.Bool.Decides.{nat_tests}
use Rattle.std.proofs.lemmas.Grind.{get_or-set_at}
use Rattle.std.proofs.lemmas.List.{set-set}
use Rattle.gb_rows.specs.Buffer.{HasTakenCells, IsAppended, RowsWritten}
use Rattle.gb_rows.specs.Cells.{behind}
use Rattle.gb_rows.specs.Zipped.{zipped_one, zipped_past}

-- a row is left
pub has_next : (a : RowsWritten) → nat_lt a.next (length a.rows) ≡ true → a.next < length a.rows
has_next a e = grind (arith, nat_tests)

has_none : (a : RowsWritten) → nat_lt a.next (length a.rows) ≡ false → length a.rows ≤ a.next
has_none a e = grind (arith, nat_tests)

-- the next row took a cell
pub taken_one : (cell : List ℕ) (a b : RowsWritten) → a.next < length a.rows → IsAppended cell a b → HasTakenCells (cell ∷ []) a (record b { next = b.next + 1 })
taken_one cell a b lt h =
    let one = zipped_one behind cell a.rows a.next [] (get_or a.rows a.next [] ++ cell) lt refl in
    record { rows = rw (h.rows, h.next) one; room = h.room }

-- no row is left
pub taken_past : (cell : List ℕ) (a : RowsWritten) → nat_lt a.next (length a.rows) ≡ false → HasTakenCells (cell ∷ []) a a
taken_past cell a h = record { rows = zipped_past behind cell a.rows a.next (has_none a h); room = refl }

-- a row keeps its place
pub appended_next : (part : List ℕ) (a b : RowsWritten) → a.next < length a.rows → IsAppended part a b → b.next < length b.rows
appended_next part a b lt h = omega (arith, lt, h.next, ap length h.rows, length-set a.rows a.next (get_or a.rows a.next [] ++ part))

-- bytes behind bytes
pub appended_more : (x y : List ℕ) (a b c : RowsWritten) → a.next < length a.rows → IsAppended x a b → IsAppended y b c → IsAppended (x ++ y) a c
appended_more x y a b c lt h k =
    let row = get_or a.rows a.next [] in
    let once = set a.rows a.next (row ++ x) in
    let read : get_or once a.next [] ≡ row ++ x = get_or-set_at a.rows a.next a.next (row ++ x) [] refl lt in
    let P : List (List ℕ) → ℕ → Type 0 = λ rows n. c.rows ≡ set rows n (get_or rows n [] ++ y) in
    let twice : c.rows ≡ set once a.next (get_or once a.next [] ++ y) = subst (λ n. P once n) h.next (subst (λ rows. P rows b.next) h.rows k.rows) in
    record {
      rows = twice ∙ set-set a.rows a.next (row ++ x) (get_or once a.next [] ++ y) ∙ ap (λ r. set a.rows a.next (r ++ y)) read ∙ ap (set a.rows a.next) (append_assoc row x y);
      room = k.room ∙ h.room;
      next = k.next ∙ h.next;
    }
