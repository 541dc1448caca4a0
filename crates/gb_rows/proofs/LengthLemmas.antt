-- Columns of one length.
use Rattle.std.proofs.Common.{◌≡◌, ◌==◌, ◌≤◌, ℕ, zero, suc, All, [], ◌∷◌, length, inl, inr, true, refl, arith}
use Rattle.std.proofs.lemmas.Bool.{eq-eqb, eqb-true, cases_Bool}
use Rattle.gb_defs.specs.Column.{ColumnValue, Frame, all_have_length}
use Rattle.gb_rows.specs.Rows.{AreOfOneLength}

-- one column is as long as the first
pub one_length : (c : ColumnValue) → AreOfOneLength (c ∷ [])
one_length c = rw (eq-eqb (length c.slots) (length c.slots) refl) refl

pub two_lengths : (a b : ColumnValue) → length b.slots ≡ length a.slots → AreOfOneLength (a ∷ b ∷ [])
two_lengths a b e = rw (eq-eqb (length a.slots) (length a.slots) refl, eq-eqb (length b.slots) (length a.slots) e) refl

pub first_long : (n : ℕ) (c : ColumnValue) (cs : Frame) → all_have_length n (c ∷ cs) ≡ true → (length c.slots ≡ n) × (all_have_length n cs ≡ true)
first_long n c cs e = elim (cases_Bool (length c.slots == n)) [
  | inl t ↦ (eqb-true (length c.slots) n t, rw t at e)
  | inr f ↦ cc (rw f at e)
]

pub all_long : (n : ℕ) (keys : Frame) → all_have_length n keys ≡ true → All (λ key. n ≤ length key.slots) keys
all_long n [] e k d lt = absurd (omega (arith, lt))
all_long n (c ∷ cs) e zero d lt = omega (arith, (first_long n c cs e).0)
all_long n (c ∷ cs) e (suc k) d lt = all_long n cs (first_long n c cs e).1 k d (omega (arith, lt))
