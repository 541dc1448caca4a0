use Rattle.std.proofs.Common.{arith, ap, ◌∙◌, length}
use Rattle.std.specs.List.{fold}
use Rattle.gb_defs.specs.Hash.{null_hash, hash_bytes, fold_word, words_of}
use Rattle.gb_hash.proofs.ByteLemmas.{fold_more}
use Rattle.gb_hash.proofs.dirty_hash.hash_text_behind.Goals as goal

pub loop-word-init : goal.loop-word-init
loop-word-init g c =
    ap (λ hash. fold (fold_word (g.M.Mixer.mix_of c.args.mixer.now)) hash (words_of c.args.bytes.now)) c.requires

pub loop-word-smaller : goal.loop-word-smaller
loop-word-smaller g c =
    let shorter = c.in-Some.ensures.cases.2 in
    omega (arith, shorter)

pub loop-word-preserved : goal.loop-word-preserved
loop-word-preserved g c =
    let cut = c.in-Some.ensures.cases in
    let next = fold_word (g.M.Mixer.mix_of c.args.mixer.now) in
    let start = null_hash (g.M.Mixer.seed_of c.args.mixer.now) (g.M.Mixer.mix_of c.args.mixer.now) in
    fold_more next _ _ _ (fold next start (words_of c.args.bytes.now)) _ _ _ cut.0 cut.1 cut.2 c.from_le_bytes.ensures c.with_word-hash.ensures c.loop-word.invariant

pub returns : goal.returns
unfolding hash_bytes
returns g c =
    c.with_word.ensures
    ∙ ap (λ hash. fold_word (g.M.Mixer.mix_of c.args.mixer.now) hash (length c.args.bytes.now)) (c.with_rest.ensures ∙ c.loop-word.invariant)
