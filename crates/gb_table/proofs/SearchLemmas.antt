-- A search along the slots from a hash on.
use Rattle.std.proofs.Common.{◌≡◌, ◌≢◌, ℕ, ◌+◌, ◌<◌, inl, inr, List, length, sym, ◌∙◌, ap, subst, arith, slice_index}
use Rattle.std.proofs.lemmas.Bool.{cases_order, cases_lt}
use Rattle.gb_table.specs.Table.{held_at, IsReached, IsTable}
use Rattle.gb_table.proofs.TableLemmas.{taken_more, some_free}

-- what is sought is told by the number of an entry
module _ (slots : List ℕ) (hash : ℕ) (IsThat : ℕ → Type 0) where
  -- the first n slots from the hash on are taken, and not by what is sought
  pub record IsPast (n : ℕ) : Type 0 where
    pub taken : (d : ℕ) → d < n → held_at slots (hash + d) ≢ 0
    pub other : (d g : ℕ) → d < n → held_at slots (hash + d) ≡ g + 1 → IsThat g → ⊥

  pub past_none : IsPast 0
  past_none = record { taken = λ d lt. absurd (omega arith); other = λ d g lt. absurd (omega arith) }

  pub past_more : (n number : ℕ) → IsPast n → held_at slots (hash + n) ≡ number + 1 → (IsThat number → ⊥) → IsPast (n + 1)
  past_more n number p here differs = record {
    taken = taken_more slots hash n p.taken (λ free. omega (arith, sym here ∙ free));
    other = λ d g lt holds that. elim (cases_lt d n) [
      | inl below ↦ p.other d g below holds that
      | inr above ↦
          let same : n ≡ d = omega arith in
          let one : g ≡ number = omega (arith, sym here ∙ ap (λ k. held_at slots (hash + k)) same ∙ holds) in
          differs (subst IsThat one that)
    ];
  }

  -- at a free slot nothing that is sought is left, where it has this hash
  pub absent : (hashes : List ℕ) (n : ℕ) → IsTable slots hashes → ((g : ℕ) → g < length hashes → IsThat g → slice_index hashes g ≡ hash) →
      IsPast n → held_at slots (hash + n) ≡ 0 → (g : ℕ) → g < length hashes → IsThat g → ⊥
  absent hashes n table alike past free g lt that =
      let r : IsReached slots hash g = subst (λ h. IsReached slots h g) (alike g lt that) (table.reach g lt) in
      elim (cases_order r.distance n) [
        | inl at ↦ omega (arith, sym r.holds ∙ ap (λ k. held_at slots (hash + k)) at ∙ free)
        | inr apart ↦ elim apart [
          | inl before ↦ past.other r.distance g before r.holds that
          | inr after ↦ r.probed.taken n after free
        ]
      ]

  pub not_full : (hashes : List ℕ) → IsTable slots hashes → length hashes < length slots → IsPast (length slots) → ⊥
  not_full hashes table room past = some_free slots hash (omega (arith, table.free_slots)) past.taken
