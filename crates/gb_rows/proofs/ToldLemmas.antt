-- Rows of keys whose slots fit their types are told by their bytes.
use Rattle.std.proofs.Common.{◌≡◌, ◌∙◌, ◌<◌, ◌++◌, ℕ, All, List, [], ◌∷◌, Decides, true, map, sym, ap, refl, arith}
use Rattle.std.specs.List.{AllByRecursion}
use Rattle.std.proofs.lemmas.Bool.{and_from, and_parts}
use Rattle.std.proofs.lemmas.List.{append-nil}
use Rattle.std.proofs.lemmas.List.Elements.{recursion_from_All}
use Rattle.gb_defs.specs.Classes.{agree_by, same_slot}
use Rattle.gb_defs.specs.Column.{Frame, all_have_length, frame_height}
use Rattle.gb_defs.specs.ColumnType.{Fits}
use Rattle.gb_defs.specs.RowBytes.{row_bytes}
use Rattle.gb_defs.specs.Slot.{Bytes, Nil, slot_at, slot_eq}
use Rattle.gb_defs.proofs.SlotLemmas.{Decides-slot_eq, slot_eq_from_Decides}
use Rattle.gb_rows.specs.Rows.{AreOfOneLength}
use Rattle.gb_rows.specs.Told.{AreToldByRows, FitTypes}
use Rattle.gb_rows.proofs.LengthLemmas.{first_long}
use Rattle.gb_rows.proofs.PrefixLemmas.{FitsRow, row_cut, row_same}

-- the slots of a row, one of each key
fits_row : (n : ℕ) (keys : Frame) (i : ℕ) → all_have_length n keys ≡ true → AllByRecursion (λ key. All (Fits key.dtype) key.slots) keys → i < n → FitsRow keys i
fits_row n [] i e fits lt = tt
fits_row n (c ∷ cs) i e fits lt =
    let long = first_long n c cs e in
    (fits.0 i Nil (omega (arith, lt, long.0)), fits_row n cs i long.1 fits.1 lt)

abbrev HaveSameSlots : Frame → ℕ → ℕ → Type 0
HaveSameSlots keys i j = AllByRecursion (λ c. slot_at c.slots i ≡ slot_at c.slots j) keys

agree_tells : (keys : Frame) (i j : ℕ) → agree_by (map (λ key. key.slots) keys) i j ≡ true → HaveSameSlots keys i j
agree_tells [] i j e = tt
agree_tells (c ∷ cs) i j e =
    let both = and_parts (same_slot c.slots i j) (agree_by (map (λ key. key.slots) cs) i j) e in
    ((Decides-slot_eq (slot_at c.slots i) (slot_at c.slots j)).0 both.0, agree_tells cs i j both.1)

agree_told : (keys : Frame) (i j : ℕ) → HaveSameSlots keys i j → agree_by (map (λ key. key.slots) keys) i j ≡ true
agree_told [] i j h = refl
agree_told (c ∷ cs) i j h =
    and_from (same_slot c.slots i j) (agree_by (map (λ key. key.slots) cs) i j) ((Decides-slot_eq (slot_at c.slots i) (slot_at c.slots j)).1 h.0) (agree_told cs i j h.1)

-- rows of keys that fit
module _ (keys : Frame) (long : AreOfOneLength keys) (fits : FitTypes keys) (i j : ℕ) (first : i < frame_height keys) (second : j < frame_height keys) where
  abbrev cut : (u v : List ℕ) → row_bytes keys i ++ u ≡ row_bytes keys j ++ v → HaveSameSlots keys i j × (u ≡ v)
  cut u v e =
      let each = recursion_from_All (λ key. All (Fits key.dtype) key.slots) keys fits in
      let height = frame_height keys in
      row_cut keys i j u v (fits_row height keys i long each first) (fits_row height keys j long each second) e

  agree_decides : Decides (agree_by (map (λ key. key.slots) keys) i j) (Bytes (row_bytes keys i) ≡ Bytes (row_bytes keys j))
  agree_decides = (
    λ e. ap (λ bytes. Bytes bytes) (row_same keys i j (agree_tells keys i j e)),
    λ e. let bytes : row_bytes keys i ≡ row_bytes keys j = cc in agree_told keys i j (cut [] [] (ap (λ l. l ++ []) bytes)).0,
  )

  rows_same : slot_eq (Bytes (row_bytes keys i)) (Bytes (row_bytes keys j)) ≡ agree_by (map (λ key. key.slots) keys) i j
  rows_same = sym (slot_eq_from_Decides (agree_by (map (λ key. key.slots) keys) i j) (Bytes (row_bytes keys i)) (Bytes (row_bytes keys j)) agree_decides)

  rows_apart : (more : List ℕ) → row_bytes keys i ++ more ≡ row_bytes keys j → more ≡ []
  rows_apart more e = (cut more [] (e ∙ sym (append-nil (row_bytes keys j)))).1

pub told_by_rows : (keys : Frame) → AreOfOneLength keys → FitTypes keys → AreToldByRows keys
told_by_rows keys long fits = record { same = rows_same keys long fits; apart = rows_apart keys long fits }
