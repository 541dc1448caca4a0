-- What a row of a column holds: nothing, a number, bytes, or a list of slots. There is no bitmap,
-- no offset and no chunk here; equality is that of the trees.
use Rattle.std.specs.Prelude.{◌≡◌, ℕ, ℤ, pos, List, [], ◌∷◌, Bool, true, false, ◌&&◌, refl, slice_index_or}
use Rattle.std.specs.Str.{bytes_eq}
use Rattle.std.specs.Ordering.{int_eq}
use Rattle.std.specs.Coded.{Coded, coded_ℤ, coded_list, coded_ℕ}
use Rattle.std.proofs.Common.{ap, ◌∙◌}
use base.Stored.{Gv, gnil, gnum, gcons}

mutual
  pub data Slot : Type 0 where
    Nil : Slot
    Num : ℤ → Slot
    Bytes : List ℕ → Slot
    Items : Slots → Slot

  -- a list of slots inside a slot
  pub data Slots : Type 0 where
    End : Slots
    And : Slot → Slots → Slots

-- the list, as a list
abbrev pub listed : Slots → List Slot
listed End = []
listed (And s ss) = s ∷ listed ss

abbrev pub items_of : List Slot → Slots
items_of [] = End
items_of (s ∷ ss) = And s (items_of ss)

abbrev pub is_nil : Slot → Bool
is_nil Nil = true
is_nil (Num n) = false
is_nil (Bytes bs) = false
is_nil (Items ss) = false

-- the number of a slot, 0 where it holds none
abbrev pub number_in : Slot → ℤ
number_in Nil = pos 0
number_in (Num n) = n
number_in (Bytes bs) = pos 0
number_in (Items ss) = pos 0

-- the slot of a row, null past the end
abbrev pub slot_at : List Slot → ℕ → Slot
slot_at slots row = slice_index_or slots row Nil

abbrev mutual
  pub slot_eq : Slot → Slot → Bool
  slot_eq Nil Nil = true
  slot_eq (Num a) (Num b) = int_eq a b
  slot_eq (Bytes a) (Bytes b) = bytes_eq a b
  slot_eq (Items a) (Items b) = slots_eq a b
  slot_eq _ _ = false

  pub slots_eq : Slots → Slots → Bool
  slots_eq End End = true
  slots_eq (And a as') (And b bs) = slot_eq a b && slots_eq as' bs
  slots_eq _ _ = false

-- ---- a code, by which a proof tells slots apart

abbrev mutual
  pub slot_gv : Slot → Gv
  slot_gv Nil = gnil
  slot_gv (Num n) = gcons (gnum 0) (coded_ℤ.code n)
  slot_gv (Bytes bs) = gcons (gnum 1) ((coded_list coded_ℕ).code bs)
  slot_gv (Items ss) = gcons (gnum 2) (slots_gv ss)

  pub slots_gv : Slots → Gv
  slots_gv End = gnil
  slots_gv (And s ss) = gcons (slot_gv s) (slots_gv ss)

mutual
  pub slot_gv_inj : (a b : Slot) → slot_gv a ≡ slot_gv b → a ≡ b
  slot_gv_inj Nil Nil e = refl
  slot_gv_inj Nil (Num b) e = cc
  slot_gv_inj Nil (Bytes b) e = cc
  slot_gv_inj Nil (Items b) e = cc
  slot_gv_inj (Num a) Nil e = cc
  slot_gv_inj (Num a) (Num b) e = let c : coded_ℤ.code a ≡ coded_ℤ.code b = cc in ap (λ n. Num n) (coded_ℤ.inj a b c)
  slot_gv_inj (Num a) (Bytes b) e = cc
  slot_gv_inj (Num a) (Items b) e = cc
  slot_gv_inj (Bytes a) Nil e = cc
  slot_gv_inj (Bytes a) (Num b) e = cc
  slot_gv_inj (Bytes a) (Bytes b) e = let c : (coded_list coded_ℕ).code a ≡ (coded_list coded_ℕ).code b = cc in ap (λ n. Bytes n) ((coded_list coded_ℕ).inj a b c)
  slot_gv_inj (Bytes a) (Items b) e = cc
  slot_gv_inj (Items a) Nil e = cc
  slot_gv_inj (Items a) (Num b) e = cc
  slot_gv_inj (Items a) (Bytes b) e = cc
  slot_gv_inj (Items a) (Items b) e = let c : slots_gv a ≡ slots_gv b = cc in ap (λ n. Items n) (slots_gv_inj a b c)

  pub slots_gv_inj : (a b : Slots) → slots_gv a ≡ slots_gv b → a ≡ b
  slots_gv_inj End End e = refl
  slots_gv_inj End (And b bs) e = cc
  slots_gv_inj (And a as') End e = cc
  slots_gv_inj (And a as') (And b bs) e =
      let c : slot_gv a ≡ slot_gv b = cc in
      let d : slots_gv as' ≡ slots_gv bs = cc in
      ap (λ s. And s as') (slot_gv_inj a b c) ∙ ap (λ ss. And b ss) (slots_gv_inj as' bs d)

abbrev pub slot_code : Coded Slot
slot_code = record { code = slot_gv; inj = slot_gv_inj }
