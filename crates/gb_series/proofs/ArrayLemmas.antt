-- The column of arrays: what each call comes to.
use Rattle.std.proofs.Common.{◌≡◌, ℕ, zero, suc, ◌+◌, ◌-◌, ℤ, List, [], ◌∷◌, ◌++◌, length, map, drop, take, replicate, refl, sym, ◌∙◌, ap, arith, subst, Option, None, Some, IfSome}
use Rattle.std.specs.List.{All, AllByRecursion, sum}
use Rattle.std.proofs.lemmas.List.Elements.{All-append, All-from_recursion, recursion_from_All}
use Rattle.gb_defs.specs.Slot.{Slot, Slots, Nil, Num, Bytes, Items, End, And, items_of, listed, slot_at}
use Rattle.gb_defs.specs.Slices.{shown, slice_end, slice_start}
use Rattle.gb_defs.specs.ColumnType.{ColumnType, ArrayOf, Fits, FitsParts, ListOf, part_type}
use Rattle.gb_defs.specs.CellText.{cell_text, part_text, parts_text}
use Rattle.gb_defs.specs.Column.{ColumnValue, repeated, sliced, taken}
use Rattle.gb_cols.specs.Column.{appended, first_chunks, pushed}
use Rattle.gb_series.specs.Arrays.{HasWidth, IsArray, array_column, width_of}
use Rattle.gb_series.specs.Series.{row_slot_of}
use Rattle.gb_series.specs.Text.{comma_behind}
use Rattle.gb_series.specs.Series.{value_of}
use Rattle.gb_series.specs.declared.series.Series.{Series}
use Rattle.gb_series.proofs.ListLemmas.{all_dropped, all_taken}

-- ---- types

pub array_item : (t u : ColumnType) (n m : ℕ) → ArrayOf t n ≡ ArrayOf u m → t ≡ u
array_item t u n m e = ap (λ a. part_type a 0) e

pub array_width : (t u : ColumnType) (n m : ℕ) → ArrayOf t n ≡ ArrayOf u m → n ≡ m
array_width t u n m e = ap width_of e

-- ---- what fits

pub back : (slots : List Slot) → length (listed (items_of slots)) ≡ length slots
back [] = refl
back (s ∷ ss) = ap suc (back ss)

parts_fit : (t : ColumnType) (width k : ℕ) (parts : Slots) → k + length (listed parts) ≡ width → FitsParts (ListOf t) k parts → FitsParts (ArrayOf t width) k parts
parts_fit t width k End long fits = let e : k ≡ width = omega (arith, long) in e
parts_fit t width k (And s ss) long fits = (fits.0, parts_fit t width (suc k) ss (omega (arith, long)) fits.1)

slot_fits : (t : ColumnType) (width : ℕ) (s : Slot) → HasWidth width s → Fits (ListOf t) s → Fits (ArrayOf t width) s
slot_fits t width Nil wide fits = tt
slot_fits t width (Num n) wide fits = fits
slot_fits t width (Bytes bs) wide fits = fits
slot_fits t width (Items parts) wide fits = parts_fit t width 0 parts (omega (arith, wide)) fits

each_fits : (t : ColumnType) (width : ℕ) (slots : List Slot) → AllByRecursion (HasWidth width) slots → AllByRecursion (Fits (ListOf t)) slots → AllByRecursion (Fits (ArrayOf t width)) slots
each_fits t width [] wide fits = tt
each_fits t width (s ∷ ss) wide fits = (slot_fits t width s wide.0 fits.0, each_fits t width ss wide.1 fits.1)

pub arrays_fit : (lists : ColumnValue) (width : ℕ) → lists.dtype ≡ ListOf (part_type lists.dtype 0) → IsArray width lists → All (Fits lists.dtype) lists.slots →
    All (Fits (array_column width lists).dtype) (array_column width lists).slots
arrays_fit lists width is_list wide fits =
    let t = part_type lists.dtype 0 in
    let each = subst (λ (u : ColumnType). All (Fits u) lists.slots) is_list fits in
    All-from_recursion (Fits (ArrayOf t width)) lists.slots
    (each_fits t width lists.slots (recursion_from_All (HasWidth width) lists.slots wide.wide) (recursion_from_All (Fits (ListOf t)) lists.slots each))

-- ---- the width of what is made

pub wide_pushed : (width : ℕ) (slots : List Slot) (s : Slot) → All (HasWidth width) slots → HasWidth width s → All (HasWidth width) (slots ++ s ∷ [])
wide_pushed width slots s wide one = All-append (HasWidth width) slots (s ∷ []) wide (All-from_recursion (HasWidth width) (s ∷ []) (one, tt))

pub wide_joined : (width : ℕ) (slots others : List Slot) → All (HasWidth width) slots → All (HasWidth width) others → All (HasWidth width) (slots ++ others)
wide_joined width slots others wide also = All-append (HasWidth width) slots others wide also

wide_at : (width : ℕ) (slots : List Slot) (row : ℕ) → AllByRecursion (HasWidth width) slots → HasWidth width (slot_at slots row)
wide_at width [] row wide = tt
wide_at width (s ∷ ss) zero wide = wide.0
wide_at width (s ∷ ss) (suc row) wide = wide_at width ss row wide.1

-- any row's slot, a null past the end
pub wide_row : (width : ℕ) (slots : List Slot) (row : ℕ) → All (HasWidth width) slots → HasWidth width (slot_at slots row)
wide_row width slots row wide = wide_at width slots row (recursion_from_All (HasWidth width) slots wide)

each_taken : (width : ℕ) (slots : List Slot) (rows : List ℕ) → All (HasWidth width) slots → AllByRecursion (HasWidth width) (map (slot_at slots) rows)
each_taken width slots [] wide = tt
each_taken width slots (row ∷ rows) wide = (wide_row width slots row wide, each_taken width slots rows wide)

pub wide_taken : (width : ℕ) (slots : List Slot) (rows : List ℕ) → All (HasWidth width) slots → All (HasWidth width) (map (slot_at slots) rows)
wide_taken width slots rows wide = All-from_recursion (HasWidth width) (map (slot_at slots) rows) (each_taken width slots rows wide)

each_repeated : (width n : ℕ) (s : Slot) → HasWidth width s → AllByRecursion (HasWidth width) (replicate n s)
each_repeated width zero s wide = tt
each_repeated width (suc n) s wide = (wide, each_repeated width n s wide)

pub wide_repeated : (width n row : ℕ) (slots : List Slot) → All (HasWidth width) slots → All (HasWidth width) (replicate n (slot_at slots row))
wide_repeated width n row slots wide =
    All-from_recursion (HasWidth width) (replicate n (slot_at slots row)) (each_repeated width n (slot_at slots row) (wide_row width slots row wide))

pub wide_shown : (width : ℕ) (slots : List Slot) (offset : ℤ) (len : ℕ) → All (HasWidth width) slots → All (HasWidth width) (shown slots offset len)
wide_shown width slots offset len wide =
    let from = slice_start (length slots) offset in
    let to = slice_end (length slots) offset len in
    All-from_recursion (HasWidth width) (shown slots offset len)
    (all_taken (HasWidth width) (to - from) (drop from slots) (all_dropped (HasWidth width) from slots (recursion_from_All (HasWidth width) slots wide)))

-- lists that are made of other lists, and have their type
pub array_made : (width : ℕ) (lists made : ColumnValue) → IsArray width lists → made.dtype ≡ lists.dtype → All (HasWidth width) made.slots → IsArray width made
array_made width lists made are same wide = record { lists_are = same ∙ are.lists_are ∙ ap (λ t. ListOf (part_type t 0)) (sym same); wide = wide }

pub array_same : (width : ℕ) (lists made : ColumnValue) → IsArray width lists → made.dtype ≡ lists.dtype → made.slots ≡ lists.slots → IsArray width made
array_same width lists made are same slots = array_made width lists made are same (subst (λ (ss : List Slot). All (HasWidth width) ss) (sym slots) are.wide)

pub array_taken : (width : ℕ) (lists : ColumnValue) (rows : List ℕ) (made : ColumnValue) → IsArray width lists → made ≡ taken rows lists → IsArray width made
array_taken width lists rows made are is =
    array_made width lists made are (ap (λ v. v.dtype) is)
    (subst (λ (ss : List Slot). All (HasWidth width) ss) (sym (ap (λ v. v.slots) is)) (wide_taken width lists.slots rows are.wide))

pub array_repeated : (width : ℕ) (lists : ColumnValue) (row n : ℕ) (made : ColumnValue) → IsArray width lists → made ≡ repeated row n lists → IsArray width made
array_repeated width lists row n made are is =
    array_made width lists made are (ap (λ v. v.dtype) is)
    (subst (λ (ss : List Slot). All (HasWidth width) ss) (sym (ap (λ v. v.slots) is)) (wide_repeated width n row lists.slots are.wide))

pub array_sliced : (width : ℕ) (lists : ColumnValue) (offset : ℤ) (len : ℕ) (made : ColumnValue) → IsArray width lists → made ≡ sliced offset len lists → IsArray width made
array_sliced width lists offset len made are is =
    array_made width lists made are (ap (λ v. v.dtype) is)
    (subst (λ (ss : List Slot). All (HasWidth width) ss) (sym (ap (λ v. v.slots) is)) (wide_shown width lists.slots offset len are.wide))

pub array_pushed : (width : ℕ) (lists : ColumnValue) (s : Slot) (made : ColumnValue) → IsArray width lists → HasWidth width s → made ≡ pushed lists s → IsArray width made
array_pushed width lists s made are one is =
    array_made width lists made are (ap (λ v. v.dtype) is)
    (subst (λ (ss : List Slot). All (HasWidth width) ss) (sym (ap (λ v. v.slots) is)) (wide_pushed width lists.slots s are.wide one))

pub array_joined : (width : ℕ) (lists others made : ColumnValue) → IsArray width lists → All (HasWidth width) others.slots → made ≡ appended lists others → IsArray width made
array_joined width lists others made are also is =
    array_made width lists made are (ap (λ v. v.dtype) is)
    (subst (λ (ss : List Slot). All (HasWidth width) ss) (sym (ap (λ v. v.slots) is)) (wide_joined width lists.slots others.slots are.wide also))

pub array_undone : (width : ℕ) (lists : ColumnValue) (count : ℕ) (made : ColumnValue) → IsArray width lists → made ≡ first_chunks count lists → IsArray width made
array_undone width lists count made are is =
    let n = sum (take count lists.chunks) in
    let wide = All-from_recursion (HasWidth width) (take n lists.slots) (all_taken (HasWidth width) n lists.slots (recursion_from_All (HasWidth width) lists.slots are.wide)) in
    array_made width lists made are (ap (λ v. v.dtype) is) (subst (λ (ss : List Slot). All (HasWidth width) ss) (sym (ap (λ v. v.slots) is)) wide)

-- ---- a row as a series

pub found_array : (lists : ColumnValue) (width row : ℕ) (found : Option Series) → IsArray width lists → row_slot_of found ≡ slot_at lists.slots row →
    IfSome found (λ s. ListOf (value_of s).dtype ≡ lists.dtype) → IfSome found (λ s. ArrayOf (value_of s).dtype (length (value_of s).slots) ≡ (array_column width lists).dtype)
found_array lists width row None wide here typed = tt
found_array lists width row (Some s) wide here typed =
    let slots = (value_of s).slots in
    let has : HasWidth width (Items (items_of slots)) = subst (λ (x : Slot). HasWidth width x) (sym here) (wide_row width lists.slots row wide.wide) in
    ap (λ t. ArrayOf t (length slots)) (ap (λ t. part_type t 0) typed) ∙ ap (λ n. ArrayOf (part_type lists.dtype 0) n) (sym (back slots) ∙ has)

-- ---- how arrays are printed

parts_alike : (t : ColumnType) (width k : ℕ) (parts : Slots) → parts_text (ListOf t) k parts ≡ parts_text (ArrayOf t width) k parts
parts_alike t width k End = refl
parts_alike t width k (And s ss) = ap (λ text. (comma_behind k ++ part_text t s) ++ text) (parts_alike t width (suc k) ss)

-- as lists are
pub cell_alike : (word : List ℕ) (t : ColumnType) (width : ℕ) (s : Slot) → cell_text word (ListOf t) s ≡ cell_text word (ArrayOf t width) s
cell_alike word t width Nil = refl
cell_alike word t width (Num n) = refl
cell_alike word t width (Bytes bs) = refl
cell_alike word t width (Items parts) = ap (λ text. 91 ∷ text ++ 93 ∷ []) (parts_alike t width 0 parts)
