use Rattle.gb_paths.proofs.PackLemmas.{words_numbered}
use Rattle.gb_paths.proofs.number_several.number_narrow.Goals as goal

pub returns-clause-ok : goal.returns-clause-ok
returns-clause-ok g c =
    let numbers = c.in_ok-numbers-2.numbers in
    words_numbered c.args.words.now numbers.first.items numbers.of_rows.items (rw c.new-rows.ensures.keys at c.in_ok-numbers-2.ensures.ok)
