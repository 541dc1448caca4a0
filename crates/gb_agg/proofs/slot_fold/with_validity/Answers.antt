use Rattle.std.proofs.Common.{◌≡◌, ◌∙◌, ◌+◌, ◌<◌, Bool, true, false, arith, inl, inr, length, not, sym}
use Rattle.std.proofs.Math.Nat.{min-eq_left}
use Rattle.std.proofs.lemmas.Bool.{cases_Bool}
use Rattle.gb_defs.specs.Fold.{is_valid}
use Rattle.gb_defs.specs.Slot.{Slot, is_nil}
use Rattle.gb_agg.proofs.NumberedLemmas.{counted_null, counted_so_far, counted_value, valid_some, valid_none}
use Rattle.gb_agg.proofs.slot_fold.with_validity.Goals as goal

pub returns-then-valid : goal.returns-then-valid
returns-then-valid c = λ slots s is holds.
    counted_value slots s c.unwrap_or-so_far.result (λ few. c.unwrap_or-so_far.ensures ∙ counted_so_far slots c.args.count holds few) c.saturating_add.result
    (valid_some s (sym is ∙ c.if-valid.true)) (λ low. c.saturating_add.ensures ∙ min-eq_left (omega (arith, low)))

pub returns-else-valid : goal.returns-else-valid
returns-else-valid c = λ slots s is holds.
    counted_null slots s c.unwrap_or-so_far.result (λ few. c.unwrap_or-so_far.ensures ∙ counted_so_far slots c.args.count holds few)
    (valid_none s (sym is ∙ c.if-valid.false))
