-- Rows that are picked of groups, and their slots.
use Rattle.std.proofs.Common.{◌≡◌, ◌∙◌, ap, sym, refl, ℕ, zero, suc, ◌-◌, ◌<◌, ◌≤◌, Bool, true, false, inl, inr, List, [], ◌∷◌, ◌++◌, All, length, map, get_or, arith}
use Rattle.std.specs.Prelude.{if◌then◌else◌}
use Rattle.std.proofs.Math.Seq.{get_or-append_seam}
use Rattle.std.proofs.lemmas.Bool.{cases_lt}
use Rattle.std.proofs.lemmas.List.{get_or-map, length-append, length-map, map-append, nil_from_length}
use Rattle.std.proofs.lemmas.List.Elements.{All-push, All-weaker}
use Rattle.gb_cols.specs.Column.{pushed}
use Rattle.gb_defs.specs.Column.{ColumnValue, fresh_column, taken}
use Rattle.gb_defs.specs.Fold.{First, Last, fold_picked, picked}
use Rattle.gb_defs.specs.Groups.{rows_of_pair}
use Rattle.gb_defs.specs.Slot.{Slot, Nil, slot_at}
use Rattle.gb_agg.specs.Folds.{fold_in}
use Rattle.gb_agg.specs.Picks.{ArePicks, IsPick, IsPicked}

-- ---- a null behind the last row

pub behind : (slots : List Slot) → slot_at slots (length slots) ≡ Nil
behind [] = refl
behind (s ∷ ss) = behind ss

longer_at : (slots : List Slot) (row : ℕ) → slot_at (slots ++ Nil ∷ []) row ≡ slot_at slots row
longer_at [] zero = refl
longer_at [] (suc row) = refl
longer_at (s ∷ ss) zero = refl
longer_at (s ∷ ss) (suc row) = longer_at ss row

longer_map : (slots : List Slot) (rows : List ℕ) → map (slot_at (slots ++ Nil ∷ [])) rows ≡ map (slot_at slots) rows
longer_map slots [] = refl
longer_map slots (row ∷ rows) =
    ap (λ (s : Slot). s ∷ map (slot_at (slots ++ Nil ∷ [])) rows) (longer_at slots row) ∙ ap (λ ss. slot_at slots row ∷ ss) (longer_map slots rows)

-- with one null more the column has the same slots at these rows, and each of them
module _ (c longer : ColumnValue) (e : longer ≡ pushed c Nil) where
  pub longer_taken : (rows : List ℕ) → taken rows longer ≡ taken rows c
  longer_taken rows = ap (taken rows) e ∙ ap (fresh_column c.name c.dtype) (longer_map c.slots rows)

  pub longer_inside : (rows : List ℕ) → All (IsPick c) rows → All (λ row. row < length longer.slots) rows
  longer_inside rows inside =
      let long = ap (λ (v : ColumnValue). length v.slots) e in
      All-weaker (IsPick c) (λ row. row < length longer.slots) (λ row le. omega (arith, le, long, length-append c.slots (Nil ∷ []))) rows inside

-- ---- the first and the last row

fold_first : (c : ColumnValue) (rows : List ℕ) → fold_in First c rows ≡ slot_at (picked c.slots rows) 0
unfolding fold_picked
fold_first c rows = refl

fold_last : (c : ColumnValue) (rows : List ℕ) → fold_in Last c rows ≡ slot_at (picked c.slots rows) (length (picked c.slots rows) - 1)
unfolding fold_picked
fold_last c rows = refl

module _ (c : ColumnValue) where
  pub first_none : (rows : List ℕ) → length rows ≡ 0 → slot_at c.slots (length c.slots) ≡ fold_in First c rows
  first_none [] none = behind c.slots ∙ sym (fold_first c [])
  first_none (row ∷ rows) none = absurd (omega (arith, none))

  pub last_none : (rows : List ℕ) → length rows ≡ 0 → slot_at c.slots (length c.slots) ≡ fold_in Last c rows
  last_none [] none = behind c.slots ∙ sym (fold_last c [])
  last_none (row ∷ rows) none = absurd (omega (arith, none))

  picked_at : (rows : List ℕ) (place : ℕ) → place < length rows → slot_at (picked c.slots rows) place ≡ slot_at c.slots (get_or rows place 0)
  picked_at rows place lt = get_or-map (slot_at c.slots) rows place 0 Nil lt

  pub first_some : (rows : List ℕ) → 0 < length rows → slot_at c.slots (get_or rows 0 0) ≡ fold_in First c rows
  first_some rows some = sym (fold_first c rows ∙ picked_at rows 0 some)

  pub last_some : (rows : List ℕ) → 0 < length rows → slot_at c.slots (get_or rows (length rows - 1) 0) ≡ fold_in Last c rows
  last_some rows some =
      sym (fold_last c rows ∙ ap (λ n. slot_at (picked c.slots rows) (n - 1)) (length-map rows (slot_at c.slots)) ∙ picked_at rows (length rows - 1) (omega (arith, some)))

-- ---- one group more

module _ (c : ColumnValue) (fold : List ℕ → Slot) (pairs : List (ℕ × List ℕ)) (pair : ℕ × List ℕ) (rows : List ℕ) (row : ℕ) where
  pub picks_more : ArePicks c fold (map rows_of_pair pairs) rows → IsPick c row → slot_at c.slots row ≡ fold (rows_of_pair pair)
      → ArePicks c fold (map rows_of_pair (pairs ++ pair ∷ [])) (rows ++ row ∷ [])
  picks_more before here e = record {
    inside = All-push (IsPick c) rows row before.inside here;
    picked =
        map-append (slot_at c.slots) rows (row ∷ [])
        ∙ ap (λ ss. ss ++ slot_at c.slots row ∷ []) before.picked
        ∙ ap (λ (s : Slot). map fold (map rows_of_pair pairs) ++ s ∷ []) e
        ∙ sym (ap (map fold) (map-append rows_of_pair pairs (pair ∷ [])) ∙ map-append fold (map rows_of_pair pairs) (rows_of_pair pair ∷ []));
  }

-- ---- one row more

-- a fold and the row that is picked of one row
abbrev pub PicksOne : ColumnValue → (List ℕ → Slot) → Type 0
PicksOne c fold = (row : ℕ) → slot_at c.slots row ≡ fold (row ∷ [])

module _ (c : ColumnValue) (fold : List ℕ → Slot) (rows : List ℕ) (row so_far : ℕ) (inside : row < length c.slots) (is : IsPicked c fold rows so_far) where
  picked_row : slot_at c.slots row ≡ fold (rows ++ row ∷ []) → IsPicked c fold (rows ++ row ∷ []) row
  picked_row e = record {
    some = λ some. inside;
    none = λ none. absurd (omega (arith, none, length-append rows (row ∷ [])));
    picked = e;
  }

  -- the first one
  pub picks_first : PicksOne c fold → length c.slots ≤ so_far → IsPicked c fold (rows ++ row ∷ []) row
  picks_first one far = elim (cases_lt 0 (length rows)) [
    | inl some ↦ let near = is.some some in absurd (omega (arith, far, near))
    | inr none ↦ let empty : rows ≡ [] = nil_from_length rows (omega (arith, none)) in picked_row (one row ∙ ap (λ rs. fold (rs ++ row ∷ [])) (sym empty))
  ]

  -- a later one, which is picked or not
  pub picks_later : (b : Bool) → so_far < length c.slots → ((rows : List ℕ) → 0 < length rows → slot_at c.slots so_far ≡ fold rows → slot_at c.slots (if b then row else so_far) ≡ fold (rows ++ row ∷ []))
      → IsPicked c fold (rows ++ row ∷ []) (if b then row else so_far)
  picks_later b near more = elim (cases_lt 0 (length rows)) [
    | inl some ↦ record {
      some = λ some. either b;
      none = λ none. absurd (omega (arith, none, length-append rows (row ∷ [])));
      picked = more rows some is.picked;
    }
    | inr none ↦ let far = is.none (omega (arith, none)) in absurd (omega (arith, far, near))
  ]
    where
      either : (b : Bool) → (if b then row else so_far) < length c.slots
      either true = inside
      either false = near

module _ (c : ColumnValue) where
  pub first_more : (rows : List ℕ) (row : ℕ) → 0 < length rows → fold_in First c rows ≡ fold_in First c (rows ++ row ∷ [])
  first_more [] row some = absurd (omega (arith, some))
  first_more (r ∷ rows) row some = fold_first c (r ∷ rows) ∙ sym (fold_first c (r ∷ (rows ++ row ∷ [])))

  pub last_more : (rows : List ℕ) (row : ℕ) → slot_at c.slots row ≡ fold_in Last c (rows ++ row ∷ [])
  last_more rows row =
      let long : length (rows ++ row ∷ []) - 1 ≡ length rows = omega (arith, length-append rows (row ∷ [])) in
      ap (slot_at c.slots) (sym (ap (λ n. get_or (rows ++ row ∷ []) n 0) long ∙ get_or-append_seam rows row [] 0))
      ∙ last_some c (rows ++ row ∷ []) (omega (arith, length-append rows (row ∷ [])))
