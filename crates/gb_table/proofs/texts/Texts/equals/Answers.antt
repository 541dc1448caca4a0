use Rattle.std.proofs.Common.{◌≡◌, ◌∙◌, sym, false, true≢false}
use Rattle.std.specs.Cmp.Lexicographic.{bytes_decides}
use Rattle.gb_table.proofs.PieceLemmas.{same_told}
use Rattle.gb_table.proofs.texts.Texts.equals.Goals as goal

pub returns-then-eq : goal.returns-then-eq
returns-then-eq c =
    let bytes = bytes_decides c.as_slice.result.now c.as_slice-2.result.now in
    let ends = bytes_decides c.as_slice-then-eq.result.now c.as_slice-then-eq-2.result.now in
    let same : c.self.inside.bytes.items ≡ c.other.inside.bytes.items = sym c.as_slice.ensures.value ∙ bytes.0 (sym c.eq.ensures ∙ c.if-eq.true) ∙ c.as_slice-2.ensures.value in
    rw (← c.self.view_is, ← c.other.view_is)
    (same_told c.self.invariant c.other.invariant c.eq-then-eq.result
    (λ t. (sym c.as_slice-then-eq.ensures.value ∙ ends.0 (sym c.eq-then-eq.ensures ∙ t) ∙ c.as_slice-then-eq-2.ensures.value, same))
    (λ e b. c.eq-then-eq.ensures ∙ ends.1 (c.as_slice-then-eq.ensures.value ∙ e ∙ sym c.as_slice-then-eq-2.ensures.value)))

pub returns : goal.returns
returns c =
    let bytes = bytes_decides c.as_slice.result.now c.as_slice-2.result.now in
    rw (← c.self.view_is, ← c.other.view_is)
    (same_told c.self.invariant c.other.invariant false
    (λ t. absurd (true≢false (sym t)))
    (λ e b. sym c.if-eq.false ∙ c.eq.ensures ∙ bytes.1 (c.as_slice.ensures.value ∙ b ∙ sym c.as_slice-2.ensures.value)))
