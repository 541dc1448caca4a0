-- The text of items inside a list.
use Rattle.std.proofs.Common.{◌≡◌, ℕ, suc, ◌+◌, ◌-◌, ◌<◌, ◌≤◌, true, false, List, [], ◌∷◌, ◌++◌, length, take, drop, refl, sym, ◌∙◌, ap, arith, codes}
use Rattle.std.proofs.lemmas.List.{append-nil, append_assoc, length-drop, length-take, take_more, get_or-drop}
use Rattle.gb_defs.specs.Slot.{Slot, Slots, Nil, Num, Bytes, Items, End, And, is_nil, items_of, slot_at}
use Rattle.gb_defs.specs.Slices.{between}
use Rattle.gb_defs.specs.ColumnType.{ColumnType, Flat, ListOf, ArrayOf, StructOf, FlatType, Fits, FitsParts, part_type}
use Rattle.gb_defs.specs.CellText.{cell_text, is_quoted, part_text, parts_text, quoted}
use Rattle.gb_series.specs.Text.{comma_behind}

-- no parts fit a type with none
none_fit : (t : FlatType) (k : ℕ) (parts : Slots) → FitsParts (Flat t) k parts → ⊥
none_fit t k End fits = fits
none_fit t k (And s ss) fits = none_fit t (suc k) ss fits.1

flat_fit : (t : ColumnType) (parts : Slots) → is_quoted t ≡ true → Fits t (Items parts) → ⊥
flat_fit (Flat t) parts e fits = none_fit t 0 parts fits
flat_fit (ListOf t) parts e fits = cc
flat_fit (ArrayOf t width) parts e fits = cc
flat_fit (StructOf fs) parts e fits = cc

-- an item that is quoted
pub quoted_item : (t : ColumnType) (s : Slot) → is_quoted t ≡ true → is_nil s ≡ false → Fits t s → quoted (cell_text (codes "null") t s) ≡ part_text t s
quoted_item t Nil e valid fits = cc
quoted_item t (Num n) e valid fits = rw e refl
quoted_item t (Bytes bs) e valid fits = rw e refl
quoted_item t (Items parts) e valid fits = absurd (flat_fit t parts e fits)

-- ---- one part more

pub parts_more : (t : ColumnType) (k : ℕ) (slots : List Slot) (s : Slot) →
    parts_text t k (items_of (slots ++ s ∷ [])) ≡ parts_text t k (items_of slots) ++ (comma_behind (k + length slots) ++ part_text (part_type t (k + length slots)) s)
parts_more t k [] s =
    let e : k ≡ k + 0 = omega arith in
    append-nil (comma_behind k ++ part_text (part_type t k) s) ∙ ap (λ n. comma_behind n ++ part_text (part_type t n) s) e
parts_more t k (x ∷ xs) s =
    let e : suc k + length xs ≡ k + suc (length xs) = omega arith in
    let front = comma_behind k ++ part_text (part_type t k) x in
    let last = λ (n : ℕ). comma_behind n ++ part_text (part_type t n) s in
    ap (λ text. front ++ text) (parts_more t (suc k) xs s)
    ∙ sym (append_assoc front (parts_text t (suc k) (items_of xs)) (last (suc k + length xs)))
    ∙ ap (λ n. (front ++ parts_text t (suc k) (items_of xs)) ++ last n) e

-- the slots between two places, one more
pub between_more : (start place : ℕ) (slots : List Slot) → start ≤ place → place < length slots → between start (place + 1) slots ≡ between start place slots ++ slot_at slots place ∷ []
between_more start place slots le lt =
    let size : place + 1 - start ≡ (place - start) + 1 = omega (arith, le) in
    let inside : place - start < length (drop start slots) = omega (arith, le, lt, length-drop start slots) in
    let at : start + (place - start) ≡ place = omega (arith, le) in
    ap (λ n. take n (drop start slots)) size ∙ take_more (drop start slots) (place - start) Nil inside
    ∙ ap (λ (s : Slot). between start place slots ++ s ∷ []) (get_or-drop start slots (place - start) Nil ∙ ap (slot_at slots) at)

-- the text so far, one item more
pub text_more : (t : ColumnType) (start place : ℕ) (slots : List Slot) (before so_far with_comma whole : List ℕ) → start ≤ place → place < length slots →
    so_far ≡ before ++ (91 ∷ parts_text (ListOf t) 0 (items_of (between start place slots))) → with_comma ≡ so_far ++ comma_behind (place - start) →
    whole ≡ with_comma ++ part_text t (slot_at slots place) → whole ≡ before ++ (91 ∷ parts_text (ListOf t) 0 (items_of (between start (place + 1) slots)))
text_more t start place slots before so_far with_comma whole le lt here comma item =
    let s = slot_at slots place in
    let parts = parts_text (ListOf t) 0 (items_of (between start place slots)) in
    let count : 0 + length (between start place slots) ≡ place - start = omega (arith, le, lt, length-take (place - start) (drop start slots), length-drop start slots) in
    let more : parts_text (ListOf t) 0 (items_of (between start (place + 1) slots)) ≡ parts ++ (comma_behind (place - start) ++ part_text t s) =
    ap (λ ss. parts_text (ListOf t) 0 (items_of ss)) (between_more start place slots le lt) ∙ parts_more (ListOf t) 0 (between start place slots) s
    ∙ ap (λ n. parts ++ (comma_behind n ++ part_text t s)) count in
    item ∙ ap (λ text. text ++ part_text t s) (comma ∙ ap (λ text. text ++ comma_behind (place - start)) here)
    ∙ append_assoc (before ++ (91 ∷ parts)) (comma_behind (place - start)) (part_text t s)
    ∙ append_assoc before (91 ∷ parts) (comma_behind (place - start) ++ part_text t s) ∙ ap (λ text. before ++ (91 ∷ text)) (sym more)
