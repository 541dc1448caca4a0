use Rattle.std.proofs.Common.{◌≡◌, ◌∙◌, ap, arith, bit_xor, false, nat_lt, refl, true}
use Rattle.std.specs.Hash.FoldHasher.{folded_multiply}
use Rattle.std.proofs.lemmas.Bool.Decides.{nat_tests}
use Rattle.gb_table.specs.TextKey.{hash_of}
use Rattle.gb_table.proofs.text_key.TextKey.hash_key.Goals as goal

pub returns-then-self-gt16 : goal.returns-then-self-gt16
unfolding hash_of
returns-then-self-gt16 c =
    let long : nat_lt 16 c.args.self.now.len ≡ true = grind (arith, nat_tests) in
    rw long refl

pub returns : goal.returns
unfolding hash_of
returns c =
    let short : nat_lt 16 c.args.self.now.len ≡ false = grind (arith, nat_tests) in
    rw short
    (c.folded_multiply.ensures ∙ ap (λ f. folded_multiply (bit_xor f c.args.self.now.back) 0x9e37_79b9_7f4a_7c15) c.folded_multiply-front.ensures)
