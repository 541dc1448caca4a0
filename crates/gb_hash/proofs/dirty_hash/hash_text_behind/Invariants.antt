use Rattle.std.proofs.Common.{◌≡◌, length}
use Rattle.std.specs.List.{fold}
use Rattle.gb_defs.specs.Hash.{null_hash, fold_word, words_of}
use Rattle.gb_hash.proofs.dirty_hash.hash_text_behind.Given as goal

abbrev pub invariant-loop-word : goal.invariant-loop-word
invariant-loop-word g l =
    let next = fold_word (g.M.Mixer.mix_of l.mixer) in
    fold next l.hash (words_of l.rest) ≡ fold next (null_hash (g.M.Mixer.seed_of l.mixer) (g.M.Mixer.mix_of l.mixer)) (words_of l.bytes)

abbrev pub decreases-loop-word : goal.decreases-loop-word
decreases-loop-word g l = length l.rest
