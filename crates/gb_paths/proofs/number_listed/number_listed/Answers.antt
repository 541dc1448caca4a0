use Rattle.std.proofs.Common.{◌≡◌, ◌∙◌, ◌<◌, ◌≤◌, ℕ, ap, arith, get_or, length, subst}
use Rattle.std.proofs.lemmas.List.{length-map, length-replicate}
use Rattle.std.proofs.lemmas.List.Elements.{All-from_recursion}
use Rattle.std.proofs.lemmas.List.FromFn.{length-range_with_len}
use Rattle.gb_defs.specs.Classes.{rows_below}
use Rattle.gb_defs.proofs.ClassesLemmas.{firsts_ascend}
use Rattle.gb_paths.specs.Numbering.{AreNumbersOf, number_in}
use Rattle.gb_paths.specs.Words.{same_word}
use Rattle.gb_paths.proofs.ListedLemmas.{first_low, listed_more, listed_none, numbers_long, word_equiv}
use Rattle.gb_paths.proofs.NumberingLemmas.{numbers_known}
use Rattle.gb_paths.proofs.PartLemmas.{range_rises}
use Rattle.gb_paths.proofs.number_listed.number_listed.Goals as goal

pub loop-place-init : goal.loop-place-init
loop-place-init c = record {
  listed = rw (c.in_ok-numbers.ensures, c.new-first.ensures.items, c.in_ok-of_rows.ensures.items) (listed_none c.args.words.now c.args.bound);
  long = ap length c.in_ok-numbers.ensures ∙ length-replicate c.args.bound _;
  each = ap length c.in_ok-of_rows.ensures.items;
  room = omega (arith, c.in_ok-of_rows.ensures.capacity);
}

pub number_of-requires-clause-word : goal.number_of-requires-clause-word
number_of-requires-clause-word c = omega (arith, c.requires.low c.loop-place.place c.loop-place-test.true, c.loop-place.invariant.long)

pub number_of-requires-clause-few : goal.number_of-requires-clause-few
number_of-requires-clause-few c =
    let at = c.loop-place in
    first_low c.args.words.now at.place at.numbers.items at.first.items at.of_rows.items at.invariant.listed (omega (arith, c.requires.few, c.loop-place-test.true))
    (omega (arith, c.requires.low at.place c.loop-place-test.true, at.invariant.long))

pub loop-place-preserved : goal.loop-place-preserved
loop-place-preserved c =
    let words = c.args.words.now in
    let at = c.loop-place in
    let low : at.place < 4294967295 = omega (arith, c.requires.few, c.loop-place-test.true) in
    let inside : get_or words at.place 0 < length at.numbers.items = omega (arith, c.requires.low at.place c.loop-place-test.true, at.invariant.long) in
    let told = c.in_ok-number.ensures in
    record {
      listed = rw (told.numbers, told.first, c.push_reserved.ensures.items, told.number) (listed_more words at.place at.numbers.items at.first.items at.of_rows.items at.invariant.listed low inside);
      long = ap length told.numbers ∙ numbers_long words at.place at.numbers.items at.first.items at.of_rows.items at.invariant.listed low inside ∙ at.invariant.long;
      each = omega arith;
      room = omega arith;
    }

pub invariant_of-result : goal.invariant_of-result
invariant_of-result c =
    let words = c.args.words.now in
    let first = c.loop-place.first.items in
    let of_rows = c.loop-place.of_rows.items in
    let n = c.loop-place.place in
    let are = c.loop-place.invariant.listed.so_far in
    let many : length of_rows ≡ n = c.loop-place.invariant.each in
    record {
      known = All-from_recursion (λ number. number < length first) of_rows (numbers_known (same_word words) (word_equiv words) (rows_below n) (range_rises 0 n) first of_rows are);
      ascend = rw are.first_is (firsts_ascend (same_word words) n);
      few = omega (arith, many, c.requires.few, c.loop-place.auto.place-end);
    }
