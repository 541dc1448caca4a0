use Rattle.std.proofs.Common.{ap, length, subst, sym, ℕ, List}
use Rattle.std.proofs.lemmas.Result.{IfOk-weaker}
use Rattle.gb_defs.specs.Classes.{rows_below}
use Rattle.gb_paths.specs.Numbering.{AreNumbersUnder}
use Rattle.gb_paths.specs.Packed.{words_in}
use Rattle.gb_paths.specs.Words.{same_word}
use Rattle.gb_paths.proofs.PackLemmas.{words_numbered}
use Rattle.gb_paths.proofs.number_several.number_words.Goals as goal

pub returns-in-Wide-clause-ok : goal.returns-in-Wide-clause-ok
returns-in-Wide-clause-ok g c =
    IfOk-weaker c.number_rows.result _ _ (λ numbers are.
    subst (λ (ws : List ℕ). AreNumbersUnder (same_word ws) (rows_below (length ws)) numbers) (sym (ap words_in c.in-Wide.is))
    (words_numbered c.in-Wide.words.items numbers.first.items numbers.of_rows.items (rw (c.new-rows.ensures.keys, c.as_slice.ensures.value) at are))) c.number_rows.ensures.ok
