use Rattle.std.proofs.Common.{◌∙◌, ap, sym, option_map}
use Rattle.gb_text.specs.Head.{decimals_of}
use Rattle.gb_text.proofs.HeadLemmas.{scales_told}
use Rattle.gb_text.proofs.type_word.decimal_type.Goals as goal

pub returns-clause-value : goal.returns-clause-value
returns-clause-value c =
    ap (option_map decimals_of) (sym c.in_ok-scale.was ∙ c.decimal_scale.ensures) ∙ sym (scales_told c.args.word.now)

pub returns-in_err-scale-clause-value : goal.returns-in_err-scale-clause-value
returns-in_err-scale-clause-value c =
    rw c.from_residual.ensures (ap (option_map decimals_of) (sym c.in_err-scale.was ∙ c.decimal_scale.ensures) ∙ sym (scales_told c.args.word.now))
