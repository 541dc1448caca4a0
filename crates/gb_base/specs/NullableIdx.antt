-- A row number that may be missing, in one number.
use Rattle.std.specs.Prelude.{◌≡◌, ℕ, ◌==◌, Bool, true, false, cond, Option, None, Some, refl}
use Rattle.std.proofs.Common.{sym}
use Rattle.std.proofs.lemmas.Bool.{eqb-true}

-- the row that a stored number means: the greatest means none
abbrev pub index_of : ℕ → Option ℕ
index_of n = cond (n == 4294967295) None (Some n)

abbrev pub stored_for : Option ℕ → ℕ
stored_for None = 4294967295
stored_for (Some n) = n

stored_by_test : (n : ℕ) (b : Bool) → (n == 4294967295) ≡ b → stored_for (cond b None (Some n)) ≡ n
stored_by_test n true greatest = sym (eqb-true n 4294967295 greatest)
stored_by_test n false other = refl

pub stored_again : (n : ℕ) → stored_for (index_of n) ≡ n
stored_again n = stored_by_test n (n == 4294967295) refl
