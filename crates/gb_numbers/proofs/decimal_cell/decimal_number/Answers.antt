use Rattle.std.proofs.Common.{◌∙◌, ap, option_map}
use Rattle.gb_defs.specs.Slot.{Num}
use Rattle.gb_numbers.proofs.DecimalLemmas.{decimal_refused}
use Rattle.gb_numbers.proofs.decimal_cell.decimal_number.Goals as goal

pub returns-in_err-number : goal.returns-in_err-number
returns-in_err-number c =
    ap (option_map (λ n. Num n)) c.from_residual.ensures ∙ decimal_refused c.args.scale c.args.cell.now _ c.without_sign-negative.ensures.rest c.in_err-number.ensures
