use Rattle.std.proofs.Common.{ap, sym, ◌∙◌, arith}
use Rattle.gb_table.proofs.KeyLemmas.{words_eight, words_four, words_none, words_one, words_two}
use Rattle.gb_table.proofs.text_key.end_words.Goals as goal

pub returns-then-bytes-ge8 : goal.returns-then-bytes-ge8
returns-then-bytes-ge8 c = c.words_of_eight.ensures ∙ sym (words_eight c.args.bytes.now (omega arith))

pub returns-then-bytes-ge4 : goal.returns-then-bytes-ge4
returns-then-bytes-ge4 c = c.words_of_four.ensures ∙ sym (words_four c.args.bytes.now (omega arith) (omega arith))

pub returns-then-bytes-ge2 : goal.returns-then-bytes-ge2
returns-then-bytes-ge2 c = c.words_of_two.ensures ∙ sym (words_two c.args.bytes.now (omega arith) (omega arith))

pub returns-then-bytes-eq0 : goal.returns-then-bytes-eq0
returns-then-bytes-eq0 c = sym (words_none c.args.bytes.now (omega arith))

pub returns : goal.returns
returns c = ap (λ b. (b, 0)) c.from.ensures ∙ sym (words_one c.args.bytes.now (omega arith))
