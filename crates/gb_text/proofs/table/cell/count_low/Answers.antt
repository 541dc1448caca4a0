use Rattle.std.proofs.Common.{◌≡◌, ◌<◌, ◌≤◌, ℕ, List, Bool, leb, length, get_or, map, take, sym, subst, ◌∙◌, arith, not}
use Rattle.std.specs.List.{prefix_len}
use Rattle.std.specs.Simd.Lanes.{mask_l}
use lib.Count.{count_trailing_zeros}
use Rattle.std.proofs.lemmas.Bool.{leb-false}
use Rattle.std.proofs.lemmas.List.{length-take}
use Rattle.gb_text.proofs.DigitsLemmas.{marks_from}
use Rattle.std.proofs.lemmas.Simd.{none_from_empty_mask, run_in_chunk_fails, run_in_chunk_le, trailing_mask_l}
use Rattle.gb_text.proofs.table.cell.count_low.Goals as goal

module _ (text : List ℕ) (bound : ℕ) (long : 16 ≤ length text) where
  abbrev is_high : ℕ → Bool
  is_high b = leb bound b

  sixteen : length (take 16 text) ≡ 16
  sixteen = omega (arith, long, length-take 16 text)

  none_high : mask_l (map is_high (take 16 text)) ≡ 0 → (k : ℕ) → k < 16 → get_or text k 0 < bound
  none_high none k lt = leb-false bound (get_or text k 0) (none_from_empty_mask is_high text 0 16 0 (omega (arith, long)) none k (omega arith) (omega (arith, lt)))

  module _ (some : 0 < mask_l (map is_high (take 16 text))) where
    counted : count_trailing_zeros 64 (mask_l (map is_high (take 16 text))) ≡ prefix_len (λ b. not (is_high b)) (take 16 text)
    counted = trailing_mask_l is_high 64 (take 16 text) (omega (arith, sixteen)) some

    few_low : count_trailing_zeros 64 (mask_l (map is_high (take 16 text))) ≤ 16
    few_low = run_in_chunk_le is_high text 0 16 _ 0 (omega (arith, long)) counted

    all_low : (k : ℕ) → k < count_trailing_zeros 64 (mask_l (map is_high (take 16 text))) → get_or text k 0 < bound
    all_low k lt = leb-false bound (get_or text k 0) (run_in_chunk_fails is_high text 0 16 _ 0 (omega (arith, long)) counted k (omega arith) (omega (arith, lt)))

pub returns-then-marks-eq0-clause-low : goal.returns-then-marks-eq0-clause-low
returns-then-marks-eq0-clause-low c =
    let text = c.args.text.now in
    let bound = c.args.bound in
    let same = marks_from bound (take 16 text) (sixteen text bound c.requires) in
    none_high text bound c.requires (sym same ∙ c.if-marks-eq0.true)

pub returns-clause-within : goal.returns-clause-within
returns-clause-within c =
    let text = c.args.text.now in
    let bound = c.args.bound in
    let same = marks_from bound (take 16 text) (sixteen text bound c.requires) in
    subst (λ m. count_trailing_zeros 64 m ≤ 16) (sym same) (few_low text bound c.requires (some_of _ (λ none. c.if-marks-eq0.false (same ∙ none))))
  where
    some_of : (n : ℕ) → (n ≡ 0 → ⊥) → 0 < n
    some_of n h = omega (arith, h)

pub returns-clause-low : goal.returns-clause-low
returns-clause-low c =
    let text = c.args.text.now in
    let bound = c.args.bound in
    let same = marks_from bound (take 16 text) (sixteen text bound c.requires) in
    subst (λ m. (k : ℕ) → k < count_trailing_zeros 64 m → get_or text k 0 < bound) (sym same) (all_low text bound c.requires (some_of _ (λ none. c.if-marks-eq0.false (same ∙ none))))
  where
    some_of : (n : ℕ) → (n ≡ 0 → ⊥) → 0 < n
    some_of n h = omega (arith, h)
