use Rattle.std.proofs.Common.{arith, ◌≡◌, ◌<◌, ◌++◌, ◌∷◌, [], Some, length, position, refl, ap, sym, ◌∙◌, if◌then◌else◌, true, inr}
use Rattle.std.specs.Cmp.Lexicographic.{bytes_decides}
use Rattle.std.specs.List.{list_any}
use Rattle.std.specs.Str.{bytes_eq}
use Rattle.gb_table.proofs.TextLemmas.{found_any, found_at, position_pushed}
use Rattle.gb_table.proofs.TextTableLemmas.{many_keys, text_put}
use Rattle.gb_table.proofs.text_table.TextTable.number_of.Goals as goal

pub invariant_of-self-in-Free : goal.invariant_of-self-in-Free
invariant_of-self-in-Free c =
    let keys = c.self.inside.keys.items in
    let texts = c.self.inside.texts in
    let spot = rw (c.deref-2.ensures.value, c.new-key.ensures) at c.in-Free.ensures in
    let roomy = rw c.deref.ensures.value at c.in_ok-make_slots.ensures.roomy in
    let room = rw c.deref.ensures.value at c.in_ok-make_slots.ensures.room in
    let few : length texts < 4294967295 = omega (arith, c.requires, ap length c.self.view_is) in
    let last : c.len-number.result ≡ length keys = omega (arith, c.len-number.ensures) in
    rw (c.push_reserved.ensures.items, c.in_ok-reserve-in-Free.ensures.items, c.new-key.ensures, c.in_ok-push-in-Free.ensures.ok)
    (text_put c.self.inside.seed c.make_slots.new.slots.items keys texts c.args.text.now c.in-Free.at c.len-number.result roomy room c.self.invariant.keyed c.self.invariant.differ c.self.invariant.utf8 c.utf8.text few spot.0 spot.1 last)

-- a text that was not taken in leaves the slots with their room
pub invariant_of-self-in_err-push-in-Free : goal.invariant_of-self-in_err-push-in-Free
invariant_of-self-in_err-push-in-Free c =
    let roomy = rw c.deref.ensures.value at c.in_ok-make_slots.ensures.roomy in
    let before = c.self.invariant in
    rw (c.in_ok-reserve-in-Free.ensures.items, c.in_err-push-in-Free.ensures.err)
    (record { has_slots = inr roomy; keyed = before.keyed; differ = before.differ; utf8 = before.utf8; few = before.few })

pub returns-in-Known-clause-number : goal.returns-in-Known-clause-number
returns-in-Known-clause-number c = found_at c.self.inside.texts c.args.text.now c.in-Known.number c.self.invariant.differ c.in-Known.ensures.0 c.in-Known.ensures.1

pub returns-in-Known-clause-texts : goal.returns-in-Known-clause-texts
returns-in-Known-clause-texts c =
    let now = c.args.self.now in
    let text = c.args.text.now in
    let found = found_at c.self.inside.texts text c.in-Known.number c.self.invariant.differ c.in-Known.ensures.0 c.in-Known.ensures.1 in
    let any : list_any (bytes_eq text) now ≡ true = found_any (bytes_eq text) now c.in-Known.number (ap (position (bytes_eq text)) (sym c.self.view_is) ∙ found) in
    c.self.view_is ∙ ap (λ b. if b then now else now ++ text ∷ []) (sym any)

pub returns-in_ok-push-in-Free-clause-number : goal.returns-in_ok-push-in-Free-clause-number
returns-in_ok-push-in-Free-clause-number c =
    let texts = c.self.inside.texts in
    let text = c.args.text.now in
    let many = many_keys c.self.inside.seed c.self.inside.keys.items texts c.self.invariant.keyed in
    let last : length texts ≡ c.len-number.result = omega (arith, c.len-number.ensures, many) in
    ap (position (bytes_eq text)) c.in_ok-push-in-Free.ensures.ok ∙ position_pushed (bytes_eq text) texts text c.in-Free.ensures.1 ((bytes_decides text text).1 refl)
    ∙ ap (λ n. Some n) last
