use Rattle.std.proofs.Common.{◌≡◌, ◌++◌, ◌∙◌, ap, length}
use Rattle.gb_values.proofs.PieceLemmas.{value_pushed, value_pushed_are}
use Rattle.gb_values.proofs.bytes.ByteValues.push_bytes.Goals as goal

pub invariant_of-self-2 : goal.invariant_of-self-2
invariant_of-self-2 g c =
    let grown : c.extend_from_slice.new.self.items ≡ c.self.inside.bytes.items ++ c.args.value.now = c.in_ok-extend_from_slice.ensures.items in
    let last : c.len.result ≡ length (c.self.inside.bytes.items ++ c.args.value.now) = c.len.ensures ∙ c.extend_from_slice.new.self.ok.0 ∙ ap length grown in
    rw (c.push_reserved.ensures.items, c.in_ok-reserve.ensures.items, last, grown) (value_pushed_are c.self.invariant c.args.value.now c.requires)

pub returns-clause-ok : goal.returns-clause-ok
returns-clause-ok g c =
    let grown : c.extend_from_slice.new.self.items ≡ c.self.inside.bytes.items ++ c.args.value.now = c.in_ok-extend_from_slice.ensures.items in
    let last : c.len.result ≡ length (c.self.inside.bytes.items ++ c.args.value.now) = c.len.ensures ∙ c.extend_from_slice.new.self.ok.0 ∙ ap length grown in
    rw (c.push_reserved.ensures.items, c.in_ok-reserve.ensures.items, last, grown, ← c.self.view_is) (value_pushed c.self.invariant c.args.value.now)
