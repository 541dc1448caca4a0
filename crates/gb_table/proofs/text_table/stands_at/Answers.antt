use Rattle.std.proofs.Common.{arith, ◌≤◌, ap, sym, ◌∙◌, length, true≢false}
use Rattle.gb_table.specs.declared.text_key.TextKey.{TextKey}
use Rattle.gb_table.proofs.TextTableLemmas.{other_key, own_key}
use Rattle.gb_table.proofs.text_table.stands_at.Goals as goal

pub returns-then-not-is : goal.returns-then-not-is
returns-then-not-is c =
    other_key c.args.keys.now c.args.texts.now c.args.key c.args.text.now c.requires.keyed c.args.place (record { len = 0; front = 0; back = 0 }) c.requires.inside
    (λ same. true≢false (sym (c.is.ensures.1 same) ∙ c.if-not-is.true))

pub returns-then-is_whole : goal.returns-then-is_whole
returns-then-is_whole c =
    let few = c.is_whole.ensures.0 c.if-is_whole.true in
    let short : length c.args.text.now ≤ 16 = omega (arith, few, ap (λ (k : TextKey). k.len) c.requires.keyed.key_is) in
    own_key c.args.keys.now c.args.texts.now c.args.key c.args.text.now c.requires.keyed c.args.place (record { len = 0; front = 0; back = 0 }) c.requires.inside
    (c.is.ensures.0 c.if-not-is.false) short c.utf8.text c.requires.utf8
