use Rattle.std.proofs.Common.{List, ℕ, map, length, ◌∙◌, sym, ap, subst}
use Rattle.std.specs.List.{All}
use Rattle.std.proofs.lemmas.List.{length-map}
use Rattle.gb_defs.specs.ColumnType.{Fits, Flat}
use Rattle.gb_defs.specs.Slot.{Bytes}
use Rattle.gb_values.proofs.PieceLemmas.{pieces_length, values_fit}
use Rattle.gb_values.proofs.bytes.ByteValuesValues.len.Goals as goal

pub returns-clause-value : goal.returns-clause-value
returns-clause-value g c =
    c.len.ensures ∙ c.self.inside.ends.ok.0 ∙ sym (pieces_length 0 c.self.inside.ends.items c.self.inside.bytes.items) ∙ ap length c.self.view_is
    ∙ sym (length-map c.args.self.now (λ bytes. Bytes bytes))

pub returns-clause-fitting : goal.returns-clause-fitting
returns-clause-fitting g c =
    subst (λ (pieces : List (List ℕ)). All (Fits (Flat g.K.ByteKind.flat)) (map (λ bytes. Bytes bytes) pieces)) c.self.view_is (values_fit c.self.invariant)
