use Rattle.std.proofs.Common.{ap, sym, ◌∙◌, arith, bit_xor, ℕ}
use Rattle.gb_table.specs.TextKey.{end_words}
use Rattle.gb_table.proofs.KeyLemmas.{key_long, key_short}
use Rattle.gb_table.proofs.text_key.key_words.Goals as goal

pub returns-then-text-gt16 : goal.returns-then-text-gt16
returns-then-text-gt16 c = ap (λ h. (h, 0)) c.text_hash.ensures ∙ sym (key_long c.args.seed c.args.text.now (omega arith))

pub returns : goal.returns
returns c =
    ap (λ (words : ℕ × ℕ). (bit_xor words.0 c.args.seed, words.1)) (c.end_words-front.ensures ∙ ap end_words c.as_bytes.ensures.value) ∙ sym (key_short c.args.seed c.args.text.now (omega arith))
