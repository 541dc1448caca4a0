-- What stands from a place up to another, taken one after the other.
use Rattle.std.proofs.Common.{◌≡◌, ℕ, zero, suc, ◌+◌, ◌-◌, ◌<◌, ◌≤◌, max, min, List, [], ◌∷◌, ◌++◌, length, map, take, drop, get_or, refl, ap, arith, ◌∙◌, sym, subst, add-one, append_assoc, length-drop}
use Rattle.std.specs.List.{flat_map}
use Rattle.std.proofs.Math.Seq.{drop-cons}
use Rattle.std.proofs.lemmas.Grind.{flat_map-append}
use Rattle.std.proofs.lemmas.List.{append-nil, drop_all, get_or-drop, get_or-replicate, map-append, take_more}
use Rattle.gb_defs.specs.Column.{ColumnValue}
use Rattle.gb_defs.specs.ColumnType.{ColumnType}
use Rattle.gb_defs.specs.RowBytes.{slot_bytes}
use Rattle.gb_defs.specs.Slices.{between}
use Rattle.gb_defs.specs.Slot.{Slot, Nil, slot_at}
use Rattle.gb_values.proofs.ValueLemmas.{part_mapped}
use Rattle.gb_cols.specs.Null.{AreNulls}
use Rattle.gb_cols.proofs.SliceLemmas.{between_append}
use Rattle.gb_rows.specs.Cells.{cells_of}

module _ {X : Type 0} where
  -- one place more
  pub between_more : (start place : ℕ) (xs : List X) (d : X) → start ≤ place → place < length xs → between start (place + 1) xs ≡ between start place xs ++ get_or xs place d ∷ []
  between_more start place xs d low lt =
      let rest = drop start xs in
      let count : place + 1 - start ≡ place - start + 1 = omega (arith, low) in
      let at : start + (place - start) ≡ place = omega (arith, low) in
      ap (λ n. take n rest) count
      ∙ take_more rest (place - start) d (omega (arith, lt, low, length-drop start xs))
      ∙ ap (λ x. take (place - start) rest ++ x ∷ []) (get_or-drop start xs (place - start) d ∙ ap (λ n. get_or xs n d) at)

  take_same : (n m : ℕ) (xs : List X) → min n (length xs) ≡ min m (length xs) → take n xs ≡ take m xs
  take_same zero zero xs e = refl
  take_same zero (suc m) [] e = refl
  take_same zero (suc m) (x ∷ xs) e = absurd (omega (arith, e))
  take_same (suc n) zero [] e = refl
  take_same (suc n) zero (x ∷ xs) e = absurd (omega (arith, e))
  take_same (suc n) (suc m) [] e = refl
  take_same (suc n) (suc m) (x ∷ xs) e = ap (λ l. x ∷ l) (take_same n m xs (omega (arith, e)))

  -- all places, where those behind the last are none
  pub between_done : (start end place : ℕ) (xs : List X) → start ≤ place → place ≤ max start (min end (length xs)) → min end (length xs) ≤ place → between start place xs ≡ between start end xs
  between_done start end place xs low high done = take_same (place - start) (end - start) (drop start xs) (omega (arith, low, high, done, length-drop start xs))

-- the bytes of the slots, one more
pub cells_more : (f : Slot → List ℕ) (slots : List Slot) (start place : ℕ) → start ≤ place → place < length slots → map f (between start (place + 1) slots) ≡ map f (between start place slots) ++ f (slot_at slots place) ∷ []
cells_more f slots start place low lt =
    ap (map f) (between_more start place slots Nil low lt) ∙ map-append f (between start place slots) (slot_at slots place ∷ [])

-- ---- a sink that takes the cells

module _ {S : Type 0} (HasTaken : List (List ℕ) → S → S → Type 0) (more : (front back : List (List ℕ)) (a b c : S) → HasTaken front a b → HasTaken back b c → HasTaken (front ++ back) a c) where
  -- one cell more
  pub taken_more : (f : Slot → List ℕ) (slots : List Slot) (start place : ℕ) (a b c : S) → start ≤ place → place < length slots → HasTaken (map f (between start place slots)) a b
      → HasTaken (f (slot_at slots place) ∷ []) b c → HasTaken (map f (between start (place + 1) slots)) a c
  taken_more f slots start place a b c low lt front here =
      subst (λ cells. HasTaken cells a c) (sym (cells_more f slots start place low lt)) (more (map f (between start place slots)) (f (slot_at slots place) ∷ []) a b c front here)

-- ---- chunks behind each other

-- the cells of a chunk, and those of the chunks behind it
pub chunk_left : (f : Slot → List ℕ) (earlier : List (List Slot)) (last chunk : List Slot) (i start end s e : ℕ) → i < length earlier → chunk ≡ get_or earlier i chunk → s ≡ start - length chunk → e ≡ end - length chunk
    → map f (between start end (flat_map (λ c. c) (drop i earlier) ++ last)) ≡ map f (between start end chunk) ++ map f (between s e (flat_map (λ c. c) (drop (i + 1) earlier) ++ last))
chunk_left f earlier last chunk i start end s e lt item from to =
    let behind = flat_map (λ c. c) (drop (suc i) earlier) in
    let rest = behind ++ last in
    ap (λ (l : List (List Slot)). map f (between start end (flat_map (λ c. c) l ++ last))) (drop-cons earlier i chunk lt ∙ ap (λ x. x ∷ drop (suc i) earlier) (sym item))
    ∙ ap (λ l. map f (between start end l)) (append_assoc chunk behind last)
    ∙ ap (map f) (between_append start end chunk rest)
    ∙ map-append f (between start end chunk) (between (start - length chunk) (end - length chunk) rest)
    ∙ ap (λ n. map f (between start end chunk) ++ map f (between n (end - length chunk) rest)) (sym from)
    ∙ ap (λ n. map f (between start end chunk) ++ map f (between s n rest)) (sym to)
    ∙ ap (λ n. map f (between start end chunk) ++ map f (between s e (flat_map (λ c. c) (drop n earlier) ++ last))) (sym (add-one i))

-- those of the last chunk
pub chunks_done : (f : Slot → List ℕ) (earlier : List (List Slot)) (last : List Slot) (i start end : ℕ) → length earlier ≤ i
    → map f (between start end last) ≡ map f (between start end (flat_map (λ c. c) (drop i earlier) ++ last))
chunks_done f earlier last i start end done = ap (λ (l : List (List Slot)). map f (between start end (flat_map (λ c. c) l ++ last))) (sym (drop_all i earlier done))

-- the cells of a column
pub column_cells : (c : ColumnValue) (t : ColumnType) (start end : ℕ) → c.dtype ≡ t → map (slot_bytes t) (between start end c.slots) ≡ between start end (cells_of c)
column_cells c t start end typed =
    part_mapped (slot_bytes t) c.slots start (end - start) ∙ ap (λ d. between start end (map (slot_bytes d) c.slots)) (sym typed)

pub chunks_are : (c : ColumnValue) (earlier : List (List Slot)) (last : List Slot) → c.slots ≡ flat_map (λ chunk. chunk) (earlier ++ last ∷ []) → flat_map (λ chunk. chunk) earlier ++ last ≡ c.slots
chunks_are c earlier last e =
    ap (λ l. flat_map (λ chunk. chunk) earlier ++ l) (sym (append-nil last)) ∙ sym (flat_map-append (λ chunk. chunk) earlier (last ∷ [])) ∙ sym e

-- the slots of a column of nulls
pub null_at : (slots : List Slot) (i : ℕ) → AreNulls slots → i < length slots → Nil ≡ slot_at slots i
null_at slots i nulls lt = sym (ap (λ (l : List Slot). slot_at l i) nulls ∙ get_or-replicate (length slots) i Nil Nil lt)
