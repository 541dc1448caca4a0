use Rattle.std.proofs.Common.{◌≡◌, ℕ, List, sym, ◌∙◌, Result, Ok, Err}
use Rattle.std.specs.Result.{MatchResult, is_ok}
use Rattle.std.specs.Str.{IsUtf8, is_utf8}
use Rattle.std.proofs.lemmas.Bool.{false_from_ne_true}
use Rattle.std.proofs.lemmas.Str.{IsUtf8-from_is_utf8, is_utf8-from_IsUtf8}
use Rattle.gb_values.proofs.utf8.is_utf8.Goals as goal

-- a result that is Ok just for texts
ok_tells : {T E : Type 0} (cell : List ℕ) (r : Result T E) (P : T → Type 0) (Q : E → Type 0) → ((t : T) → P t → IsUtf8 cell) → ((e : E) → Q e → IsUtf8 cell → ⊥) → MatchResult r P Q → is_ok r ≡ is_utf8 cell
ok_tells cell (Ok t) P Q yields refuses h = sym (is_utf8-from_IsUtf8 cell (yields t h))
ok_tells cell (Err e) P Q yields refuses h = sym (false_from_ne_true (is_utf8 cell) (λ utf8. refuses e h (IsUtf8-from_is_utf8 cell utf8)))

pub returns-then-is_text : goal.returns-then-is_text
returns-then-is_text c = c.if-is_text.true ∙ sym (is_utf8-from_IsUtf8 c.args.cell.now (c.requires c.if-is_text.true))

pub returns-else-is_text : goal.returns-else-is_text
returns-else-is_text c = c.is_ok.ensures.value ∙ ok_tells c.args.cell.now c.from_utf8.result _ _ (λ t h. h.1) (λ e h. h.0) c.from_utf8.ensures.cases
