-- Texts by which rows are grouped.
use Rattle.std.proofs.Common.{ℕ, ◌<◌, ◌^◌, List, length, subst}
use Rattle.std.proofs.lemmas.List.{length-map}
use Rattle.gb_defs.specs.Slot.{Bytes}
use Rattle.gb_paths.specs.Numbers.{text_rows}

-- texts are as many as their rows
pub texts_few : (seed : ℕ) (texts : List (List ℕ)) → (text_rows seed texts).count < 2 ^ 32 → length texts < 2 ^ 32
texts_few seed texts few = subst (λ (n : ℕ). n < 2 ^ 32) (length-map texts (λ t. Bytes t)) few
