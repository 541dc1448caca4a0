-- The test on slots tells whether they are equal.
use Rattle.std.proofs.Common.{Bool, ◌≡◌, true, refl, sym, ◌∙◌, ap, Decides}
use Rattle.std.proofs.lemmas.Bool.{and_parts, and_from}
use Rattle.std.proofs.lemmas.Bool.Decides.{Decides-int_eq, same_from_decides}
use Rattle.std.specs.Cmp.Lexicographic.{bytes_decides}
use Rattle.std.specs.Cmp.{IsEquivalence, both_ways}
use Rattle.gb_defs.specs.Slot.{Slot, Nil, Num, Bytes, Items, Slots, End, And, slot_eq, slots_eq}

mutual
  same_from_slot_eq : (a b : Slot) → slot_eq a b ≡ true → a ≡ b
  same_from_slot_eq Nil Nil e = refl
  same_from_slot_eq Nil (Num b) e = cc
  same_from_slot_eq Nil (Bytes b) e = cc
  same_from_slot_eq Nil (Items b) e = cc
  same_from_slot_eq (Num a) Nil e = cc
  same_from_slot_eq (Num a) (Num b) e = ap (λ n. Num n) ((Decides-int_eq a b).0 e)
  same_from_slot_eq (Num a) (Bytes b) e = cc
  same_from_slot_eq (Num a) (Items b) e = cc
  same_from_slot_eq (Bytes a) Nil e = cc
  same_from_slot_eq (Bytes a) (Num b) e = cc
  same_from_slot_eq (Bytes a) (Bytes b) e = ap (λ n. Bytes n) ((bytes_decides a b).0 e)
  same_from_slot_eq (Bytes a) (Items b) e = cc
  same_from_slot_eq (Items a) Nil e = cc
  same_from_slot_eq (Items a) (Num b) e = cc
  same_from_slot_eq (Items a) (Bytes b) e = cc
  same_from_slot_eq (Items a) (Items b) e = ap (λ n. Items n) (same_from_slots_eq a b e)

  same_from_slots_eq : (a b : Slots) → slots_eq a b ≡ true → a ≡ b
  same_from_slots_eq End End e = refl
  same_from_slots_eq End (And b bs) e = cc
  same_from_slots_eq (And a as') End e = cc
  same_from_slots_eq (And a as') (And b bs) e =
      let p = and_parts (slot_eq a b) (slots_eq as' bs) e in
      ap (λ s. And s as') (same_from_slot_eq a b p.0) ∙ ap (λ ss. And b ss) (same_from_slots_eq as' bs p.1)

mutual
  slot_eq_same : (a : Slot) → slot_eq a a ≡ true
  slot_eq_same Nil = refl
  slot_eq_same (Num a) = (Decides-int_eq a a).1 refl
  slot_eq_same (Bytes a) = (bytes_decides a a).1 refl
  slot_eq_same (Items a) = slots_eq_same a

  slots_eq_same : (a : Slots) → slots_eq a a ≡ true
  slots_eq_same End = refl
  slots_eq_same (And a as') = and_from (slot_eq a a) (slots_eq as' as') (slot_eq_same a) (slots_eq_same as')

pub Decides-slot_eq : (a b : Slot) → Decides (slot_eq a b) (a ≡ b)
Decides-slot_eq a b = (same_from_slot_eq a b, λ e. ap (slot_eq a) (sym e) ∙ slot_eq_same a)

pub slot_eq_equiv : IsEquivalence slot_eq
slot_eq_equiv = record {
  refl = slot_eq_same;
  symm = λ a b. both_ways (slot_eq a b) (slot_eq b a) (λ e. (Decides-slot_eq b a).1 (sym ((Decides-slot_eq a b).0 e))) (λ e. (Decides-slot_eq a b).1 (sym ((Decides-slot_eq b a).0 e)));
  congr = λ a b c e. ap (λ s. slot_eq s c) ((Decides-slot_eq a b).0 e);
}

-- a test that decides whether two slots are equal gives what `slot_eq` does
pub slot_eq_from_Decides : (t : Bool) (a b : Slot) → Decides t (a ≡ b) → t ≡ slot_eq a b
slot_eq_from_Decides t a b d = same_from_decides t (slot_eq a b) d (Decides-slot_eq a b)
