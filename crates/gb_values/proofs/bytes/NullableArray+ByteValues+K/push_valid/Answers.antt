use Rattle.std.proofs.Common.{◌≡◌, ◌∷◌, [], map, ◌∙◌, ap}
use Rattle.std.proofs.lemmas.List.{map-append}
use Rattle.gb_defs.specs.Slot.{Bytes}
use Rattle.gb_values.specs.Array.{valid_pushed}
use Rattle.gb_values.proofs.FlagLemmas.{valid_more}
use Rattle.gb_values.proofs.bytes.NullableArray+ByteValues+K.push_valid.Goals as goal

pub returns-clause-ok : goal.returns-clause-ok
returns-clause-ok g c =
    let values = c.self.inside.values in
    let value = c.args.value.now in
    let kept : c.push_reserved_valid.new.self.flags.items ≡ valid_pushed c.self.inside.validity.flags.items =
    c.push_reserved_valid.ensures ∙ ap valid_pushed c.in_ok-reserve_one.ensures.same in
    let grown = ap (map (λ v. Bytes v)) c.in_ok-push_bytes.ensures.ok ∙ map-append (λ v. Bytes v) values (value ∷ []) in
    valid_more (map (λ v. Bytes v) values) c.self.inside.validity.flags.items _ _ _ c.self.invariant kept c.self.view_is (Bytes value) grown
