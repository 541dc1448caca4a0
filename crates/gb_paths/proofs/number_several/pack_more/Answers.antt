use Rattle.std.proofs.Common.{◌≡◌, ◌∙◌, ◌*◌, ◌<◌, ℕ, ap, length, subst, sym}
use Rattle.std.proofs.lemmas.List.{length-map}
use Rattle.std.proofs.lemmas.List.FromFn.{length-range_with_len}
use Rattle.gb_defs.specs.Classes.{rows_below}
use Rattle.gb_paths.specs.Numbering.{both_agree, number_in}
use Rattle.gb_paths.specs.Packed.{ArePacked, words_in}
use Rattle.gb_paths.specs.Words.{AreBelow, same_word}
use Rattle.gb_paths.proofs.PackLemmas.{digits_low, packed_first, packed_more, packed_numbered}
use Rattle.gb_paths.proofs.PartLemmas.{range_rises}
use Rattle.gb_paths.proofs.number_several.pack_more.Goals as goal

pub returns-in-Some-clause-ok : goal.returns-in-Some-clause-ok
returns-in-Some-clause-ok g c a b ea eb packed by =
    let next = c.args.next in
    let words = words_in c.args.packed.words in
    let n = length words in
    let made = c.in_ok-more in
    let bound = made.ensures.below ∙ c.in-Some.ensures.1 ∙ ap (λ m. c.args.packed.below * m) (c.len-base.ensures ∙ next.first.ok.0) in
    let more = words_in made.more.words in
    subst (λ (m : ℕ). ArePacked (both_agree a b) (rows_below n) more m) (sym bound)
    (packed_more b eb (rows_below n) next.first.items next.of_rows.items (range_rises 0 n) by a words more c.args.packed.below packed (λ k lt. next.known k 0 lt) made.ensures.digits)

pub with_digits-requires-in-Some-checked_mul-clause-long : goal.with_digits-requires-in-Some-checked_mul-clause-long
with_digits-requires-in-Some-checked_mul-clause-long g c κs within =
    let words = words_in c.args.packed.words in
    let numbers = c.in_ok-numbers.numbers in
    let are = c.in_ok-numbers.ensures.ok in
    c.requires.long ∙ sym (ap length c.pack_numbers-fewer.ensures.words ∙ ap length are.numbers_are ∙ length-map (rows_below (length words)) (number_in (same_word words) numbers.first.items) ∙ length-range_with_len 0 (length words))

pub returns-in-Some-checked_mul-clause-words : goal.returns-in-Some-checked_mul-clause-words
returns-in-Some-checked_mul-clause-words g c =
    let next = c.args.next in
    let words = words_in c.args.packed.words in
    let numbers = c.in_ok-numbers.numbers in
    let fewer = c.pack_numbers-fewer in
    let made = c.in_ok-more-in-Some-checked_mul in
    let are = c.in_ok-numbers.ensures.ok in
    let many : length (words_in fewer.result.words) ≡ length words = ap length fewer.ensures.words ∙ ap length are.numbers_are ∙ length-map (rows_below (length words)) (number_in (same_word words) numbers.first.items) ∙ length-range_with_len 0 (length words) in
    let low : AreBelow fewer.result.below (words_in fewer.result.words) = rw (fewer.ensures.below, fewer.ensures.words) (λ k lt. numbers.known k 0 lt) in
    let bound = made.ensures.below ∙ c.in-Some-checked_mul.ensures.1 ∙ ap (λ m. fewer.result.below * m) (c.len-base.ensures ∙ next.first.ok.0) in
    record {
      many = made.ensures.digits.many ∙ many;
      low = subst (λ (m : ℕ). AreBelow m (words_in made.more.words)) (sym bound)
          (digits_low (words_in fewer.result.words) next.of_rows.items (words_in made.more.words) fewer.result.below (length next.first.items) low (λ k lt. next.known k 0 lt) (c.requires.long ∙ sym many) made.ensures.digits);
    }

pub returns-in-Some-checked_mul-clause-ok : goal.returns-in-Some-checked_mul-clause-ok
returns-in-Some-checked_mul-clause-ok g c a b ea eb packed by =
    let next = c.args.next in
    let words = words_in c.args.packed.words in
    let n = length words in
    let numbers = c.in_ok-numbers.numbers in
    let fewer = c.pack_numbers-fewer in
    let made = c.in_ok-more-in-Some-checked_mul in
    let are = c.in_ok-numbers.ensures.ok in
    let mine = packed_first a ea (rows_below n) numbers.first.items numbers.of_rows.items (range_rises 0 n) (packed_numbered a n words numbers.first.items numbers.of_rows.items c.args.packed.below packed are) (λ k lt. numbers.known k 0 lt) in
    let first : ArePacked a (rows_below n) (words_in fewer.result.words) fewer.result.below = rw (fewer.ensures.below, fewer.ensures.words) mine in
    let bound = made.ensures.below ∙ c.in-Some-checked_mul.ensures.1 ∙ ap (λ m. fewer.result.below * m) (c.len-base.ensures ∙ next.first.ok.0) in
    subst (λ (m : ℕ). ArePacked (both_agree a b) (rows_below n) (words_in made.more.words) m) (sym bound)
    (packed_more b eb (rows_below n) next.first.items next.of_rows.items (range_rises 0 n) by a (words_in fewer.result.words) (words_in made.more.words) fewer.result.below first (λ k lt. next.known k 0 lt) made.ensures.digits)
