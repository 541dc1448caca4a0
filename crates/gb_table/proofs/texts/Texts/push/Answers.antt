use Rattle.std.proofs.Common.{◌≡◌, ◌++◌, ◌∙◌, ap, length}
use Rattle.gb_table.proofs.PieceLemmas.{value_pushed, value_pushed_are}
use Rattle.gb_table.proofs.texts.Texts.push.Goals as goal

pub invariant_of-self-2 : goal.invariant_of-self-2
invariant_of-self-2 c =
    let grown : c.extend_from_slice.new.self.items ≡ c.self.inside.bytes.items ++ c.args.text.now = c.in_ok-extend_from_slice.ensures.items ∙ ap (λ t. c.self.inside.bytes.items ++ t) c.as_bytes.ensures.value in
    let last : c.len.result ≡ length (c.self.inside.bytes.items ++ c.args.text.now) = c.len.ensures ∙ c.extend_from_slice.new.self.ok.0 ∙ ap length grown in
    rw (c.push_reserved.ensures.items, c.in_ok-reserve.ensures.items, last, grown) (value_pushed_are c.self.invariant c.args.text.now c.utf8.text)

pub returns-clause-ok : goal.returns-clause-ok
returns-clause-ok c =
    let grown : c.extend_from_slice.new.self.items ≡ c.self.inside.bytes.items ++ c.args.text.now = c.in_ok-extend_from_slice.ensures.items ∙ ap (λ t. c.self.inside.bytes.items ++ t) c.as_bytes.ensures.value in
    let last : c.len.result ≡ length (c.self.inside.bytes.items ++ c.args.text.now) = c.len.ensures ∙ c.extend_from_slice.new.self.ok.0 ∙ ap length grown in
    rw (c.push_reserved.ensures.items, c.in_ok-reserve.ensures.items, last, grown, ← c.self.view_is) (value_pushed c.self.invariant c.args.text.now)
