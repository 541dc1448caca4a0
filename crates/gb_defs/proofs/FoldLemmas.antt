-- One slot more of a running fold.
use Rattle.std.proofs.Common.{◌≡◌, ℕ, ◌+◌, ◌<◌, pos, ◌+ℤ◌, true, false, sym, ◌∙◌, ap, List, [], ◌∷◌, ◌++◌, take, length, get_or, cond}
use Rattle.std.proofs.lemmas.List.{map_more, append-nil}
use Rattle.std.proofs.lemmas.List.Elements.{filter-append}
use Rattle.std.proofs.lemmas.List.Sums.{fold-append}
use Rattle.gb_defs.specs.Slot.{Slot, is_nil, number_in, slot_at}
use Rattle.gb_defs.specs.ColumnType.{ColumnType}
use Rattle.gb_defs.specs.Fold.{wrap, picked, is_valid, valid, total}
use Rattle.gb_defs.proofs.WrapLemmas.{wrap-add_left}

pub picked_more : (slots : List Slot) (rows : List ℕ) (i : ℕ) → i < length rows → picked slots (take (i + 1) rows) ≡ picked slots (take i rows) ++ slot_at slots (get_or rows i 0) ∷ []
picked_more slots rows i lt = map_more (slot_at slots) rows i 0 lt

valid_push : (ss : List Slot) (s : Slot) → valid (ss ++ s ∷ []) ≡ valid ss ++ cond (is_valid s) (s ∷ []) []
valid_push ss s = filter-append is_valid ss (s ∷ [])

pub valid_push_null : (ss : List Slot) (s : Slot) → is_nil s ≡ true → valid (ss ++ s ∷ []) ≡ valid ss
valid_push_null ss s e = valid_push ss s ∙ rw e (append-nil (valid ss))

pub valid_push_value : (ss : List Slot) (s : Slot) → is_nil s ≡ false → valid (ss ++ s ∷ []) ≡ valid ss ++ s ∷ []
valid_push_value ss s e = valid_push ss s ∙ rw e

total_push : (ss : List Slot) (s : Slot) → total (ss ++ s ∷ []) ≡ total ss +ℤ number_in s
total_push ss s = fold-append (λ sum t. sum +ℤ number_in t) (pos 0) ss (s ∷ [])

-- a running sum takes a valid slot
pub sum_push_value : (t : ColumnType) (ss : List Slot) (s : Slot) → is_nil s ≡ false → wrap t (wrap t (total (valid ss)) +ℤ number_in s) ≡ wrap t (total (valid (ss ++ s ∷ [])))
sum_push_value t ss s e =
    wrap-add_left t (total (valid ss)) (number_in s) ∙ ap (wrap t) (sym (total_push (valid ss) s)) ∙ ap (λ vs. wrap t (total vs)) (sym (valid_push_value ss s e))

-- and passes over a null
pub sum_push_null : (t : ColumnType) (ss : List Slot) (s : Slot) → is_nil s ≡ true → wrap t (total (valid ss)) ≡ wrap t (total (valid (ss ++ s ∷ [])))
sum_push_null t ss s e = ap (λ vs. wrap t (total vs)) (sym (valid_push_null ss s e))
