-- The first of some causes over a loop that refuses at the first bad element.
use Rattle.std.proofs.Common.{◌≡◌, ℕ, zero, suc, ◌+◌, ◌<◌, List, [], ◌∷◌, ◌++◌, Option, Some, None, length, take, get_or, refl, arith}
use Rattle.std.specs.Option.{option_or}
use Rattle.std.proofs.lemmas.List.{take_more}
use Rattle.gb_defs.specs.Fault.{Fault}
use Rattle.gb_base.specs.PolarsError.{IsCause}

pub or_none : (a b : Option Fault) → option_or a b ≡ None → (a ≡ None) × (b ≡ None)
or_none None b e = (refl, e)
or_none (Some f) b e = cc

pub cause_first : (known a b : Option Fault) → IsCause known a → IsCause known (option_or a b)
cause_first None a b h = tt
cause_first (Some f) a b h = rw h

module _ {A : Type 0} (cause : A → Option Fault) where
  abbrev pub first_cause : List A → Option Fault
  first_cause [] = None
  first_cause (x ∷ xs) = option_or (cause x) (first_cause xs)

  push_none : (xs : List A) (y : A) → first_cause xs ≡ None → cause y ≡ None → first_cause (xs ++ y ∷ []) ≡ None
  push_none [] y e h = rw h
  push_none (x ∷ xs) y e h = let parts = or_none (cause x) (first_cause xs) e in rw parts.0 (push_none xs y parts.1 h)

  pub causes_more : (xs : List A) (i : ℕ) (d : A) → i < length xs → first_cause (take i xs) ≡ None → cause (get_or xs i d) ≡ None → first_cause (take (i + 1) xs) ≡ None
  causes_more xs i d lt e h = rw (take_more xs i d lt) (push_none (take i xs) (get_or xs i d) e h)

  pub none_at : (xs : List A) (i : ℕ) (d : A) → i < length xs → first_cause xs ≡ None → cause (get_or xs i d) ≡ None
  none_at [] i d lt e = absurd (omega arith)
  none_at (x ∷ xs) zero d lt e = (or_none (cause x) (first_cause xs) e).0
  none_at (x ∷ xs) (suc i) d lt e = none_at xs i d (omega (arith, lt)) (or_none (cause x) (first_cause xs) e).1

  pub causes_at : (xs : List A) (i : ℕ) (d : A) → i < length xs → first_cause (take i xs) ≡ None → (known : Option Fault) → IsCause known (cause (get_or xs i d)) → IsCause known (first_cause xs)
  causes_at [] i d lt e known h = absurd (omega arith)
  causes_at (x ∷ xs) zero d lt e known h = cause_first known (cause x) (first_cause xs) h
  causes_at (x ∷ xs) (suc i) d lt e known h =
      let parts = or_none (cause x) (first_cause (take i xs)) e in
      rw parts.0 (causes_at xs i d (omega (arith, lt)) parts.1 known h)
