-- A field as text.
use Rattle.std.proofs.Common.{◌≡◌, ℕ, List, Some, None, Result, Ok, Err}
use Rattle.std.specs.Result.{MatchResult, result_ok}
use Rattle.std.specs.Str.{IsUtf8}
use denote.Ref.{Bor}

pub no_text : {E : Type 0} (bs : List ℕ) (X : E → Type 0) (r : Result (Bor (List ℕ)) E) → MatchResult r (λ s. (s.now ≡ bs) × IsUtf8 bs) (λ e. (IsUtf8 bs → ⊥) × X e) → result_ok r ≡ None → IsUtf8 bs → ⊥
no_text bs X (Ok s) h e = cc
no_text bs X (Err d) h e = h.0

pub its_text : {E : Type 0} (bs : List ℕ) (X : E → Type 0) (r : Result (Bor (List ℕ)) E) (s : Bor (List ℕ)) → MatchResult r (λ s. (s.now ≡ bs) × IsUtf8 bs) (λ e. (IsUtf8 bs → ⊥) × X e) → result_ok r ≡ Some s
    → (s.now ≡ bs) × IsUtf8 bs
its_text bs X (Ok t) s h e = let same : t ≡ s = cc in rw same at h
its_text bs X (Err d) s h e = cc
