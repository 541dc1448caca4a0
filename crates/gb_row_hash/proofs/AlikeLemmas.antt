-- Columns of one list of slots, of two types that hash alike.
use Rattle.std.proofs.Common.{◌≡◌, ◌∙◌, ℕ, List, [], ◌∷◌, map, Some, inl, inr, refl, ap, sym}
use Rattle.std.specs.Int.{w32}
use Rattle.gb_defs.specs.Column.{ColumnValue, categories_of}
use Rattle.gb_defs.specs.ColumnType.{Categorical, ColumnType, Enum, Flat, FlatType, Unsigned, uint32}
use Rattle.gb_defs.specs.Hash.{combine_of}
use Rattle.gb_defs.specs.Slot.{Slot}
use Rattle.gb_logical.proofs.CategoryLemmas.{has_texts}
use Rattle.gb_row_hash.specs.Alike.{narrow_alike}
use Rattle.gb_defs.specs.Fault.{hash_fault, key_fault}
use Rattle.gb_row_hash.specs.Hashes.{combine_each, combined_hashes, slot_hash, slot_hashes}

module _ (seed : ℕ) (mix : ℕ → ℕ) (c p : ColumnValue) where
  -- what a column's calls give on another's slots
  pub record HashAlike : Type 0 where
    pub hashes : slot_hashes seed mix c ≡ slot_hashes seed mix p
    pub combined : (before : List ℕ) → combined_hashes seed mix c before ≡ combined_hashes seed mix p before
    pub faults : key_fault c ≡ key_fault p

map_alike : (f h : Slot → ℕ) → ((s : Slot) → f s ≡ h s) → (slots : List Slot) → map f slots ≡ map h slots
map_alike f h same [] = refl
map_alike f h same (s ∷ slots) = ap (λ x. x ∷ map f slots) (same s) ∙ ap (λ xs. h s ∷ xs) (map_alike f h same slots)

each_alike : (f h : ℕ → ℕ → ℕ) → ((x r : ℕ) → f x r ≡ h x r) → (xs rs : List ℕ) → combine_each f xs rs ≡ combine_each h xs rs
each_alike f h same [] rs = refl
each_alike f h same (x ∷ xs) [] = refl
each_alike f h same (x ∷ xs) (r ∷ rs) = ap (λ y. y ∷ combine_each f xs rs) (same x r) ∙ ap (λ ys. h x r ∷ ys) (each_alike f h same xs rs)

-- a column of one type over a column of another
pub typed_alike : (seed : ℕ) (mix : ℕ → ℕ) (c p : ColumnValue) (t u : FlatType) → c.slots ≡ p.slots → c.dtype ≡ Flat t → p.dtype ≡ Flat u
    → ((s : Slot) → slot_hash (Flat t) seed mix s ≡ slot_hash (Flat u) seed mix s) → ((h r : ℕ) → combine_of (Flat t) h r ≡ combine_of (Flat u) h r) → HashAlike seed mix c p
typed_alike seed mix c p t u slots typed stored alike combined =
    let hashes : slot_hashes seed mix c ≡ slot_hashes seed mix p =
    ap (λ (d : ColumnType). map (slot_hash d seed mix) c.slots) typed ∙ ap (map (slot_hash (Flat t) seed mix)) slots
    ∙ map_alike (slot_hash (Flat t) seed mix) (slot_hash (Flat u) seed mix) alike p.slots ∙ ap (λ (d : ColumnType). map (slot_hash d seed mix) p.slots) (sym stored) in
    record {
      hashes = hashes;
      combined = λ before.
          ap (λ (hs : List ℕ). combine_each (combine_of c.dtype) hs before) hashes ∙ ap (λ (d : ColumnType). combine_each (combine_of d) (slot_hashes seed mix p) before) typed
          ∙ each_alike (combine_of (Flat t)) (combine_of (Flat u)) combined (slot_hashes seed mix p) before ∙ ap (λ (d : ColumnType). combine_each (combine_of d) (slot_hashes seed mix p) before) (sym stored);
      faults = ap (λ (d : ColumnType). hash_fault d c.name) typed ∙ sym (ap (λ (d : ColumnType). hash_fault d p.name) stored);
    }

-- a column of categories over one of their codes
pub coded_alike : (seed : ℕ) (mix : ℕ → ℕ) (c p : ColumnValue) (texts : List (List ℕ)) → c.slots ≡ p.slots → categories_of c.dtype ≡ Some texts → p.dtype ≡ uint32 → HashAlike seed mix c p
coded_alike seed mix c p texts slots known stored =
    let (ordering, which) = has_texts c.dtype texts known in
    elim which [
      | inl same ↦ typed_alike seed mix c p (Categorical (Some texts) ordering) (Unsigned w32) slots same stored (narrow_alike seed mix) (λ h r. refl)
      | inr same ↦ typed_alike seed mix c p (Enum (Some texts) ordering) (Unsigned w32) slots same stored (narrow_alike seed mix) (λ h r. refl)
    ]
