use Rattle.std.proofs.Common.{◌≡◌, ◌<◌, ◌≤◌, ℕ, List, Bool, leb, length, get_or, map, take, sym, subst, ◌∙◌, arith, w8, not}
use Rattle.std.specs.List.{prefix_len}
use Rattle.std.specs.Simd.Lanes.{mask_l}
use lib.Count.{count_trailing_zeros}
use Rattle.std.proofs.lemmas.Bool.{leb-false}
use Rattle.std.proofs.lemmas.List.{length-take}
use Rattle.std.proofs.lemmas.Simd.{bitmask_splat, none_from_empty_mask, run_in_chunk_fails, run_in_chunk_le, trailing_mask_l}
use Rattle.gb_text.proofs.table.cell.count_high.Goals as goal

module _ (text : List ℕ) (bound : ℕ) (long : 16 ≤ length text) where
  abbrev is_low : ℕ → Bool
  is_low b = leb b bound

  sixteen : length (take 16 text) ≡ 16
  sixteen = omega (arith, long, length-take 16 text)

  none_low : mask_l (map is_low (take 16 text)) ≡ 0 → (k : ℕ) → k < 16 → bound < get_or text k 0
  none_low none k lt = leb-false (get_or text k 0) bound (none_from_empty_mask is_low text 0 16 0 (omega (arith, long)) none k (omega arith) (omega (arith, lt)))

  module _ (some : 0 < mask_l (map is_low (take 16 text))) where
    counted : count_trailing_zeros 64 (mask_l (map is_low (take 16 text))) ≡ prefix_len (λ b. not (is_low b)) (take 16 text)
    counted = trailing_mask_l is_low 64 (take 16 text) (omega (arith, sixteen)) some

    few_high : count_trailing_zeros 64 (mask_l (map is_low (take 16 text))) ≤ 16
    few_high = run_in_chunk_le is_low text 0 16 _ 0 (omega (arith, long)) counted

    all_high : (k : ℕ) → k < count_trailing_zeros 64 (mask_l (map is_low (take 16 text))) → bound < get_or text k 0
    all_high k lt = leb-false (get_or text k 0) bound (run_in_chunk_fails is_low text 0 16 _ 0 (omega (arith, long)) counted k (omega arith) (omega (arith, lt)))

pub returns-then-marks-eq0-clause-high : goal.returns-then-marks-eq0-clause-high
returns-then-marks-eq0-clause-high c =
    let text = c.args.text.now in
    let bound = c.args.bound in
    let same = bitmask_splat w8 leb (take 16 text) 16 bound (sixteen text bound c.requires) (omega arith) in
    none_low text bound c.requires (sym same ∙ c.if-marks-eq0.true)

pub returns-clause-within : goal.returns-clause-within
returns-clause-within c =
    let text = c.args.text.now in
    let bound = c.args.bound in
    let same = bitmask_splat w8 leb (take 16 text) 16 bound (sixteen text bound c.requires) (omega arith) in
    subst (λ m. count_trailing_zeros 64 m ≤ 16) (sym same) (few_high text bound c.requires (some_of _ (λ none. c.if-marks-eq0.false (same ∙ none))))
  where
    some_of : (n : ℕ) → (n ≡ 0 → ⊥) → 0 < n
    some_of n h = omega (arith, h)

pub returns-clause-high : goal.returns-clause-high
returns-clause-high c =
    let text = c.args.text.now in
    let bound = c.args.bound in
    let same = bitmask_splat w8 leb (take 16 text) 16 bound (sixteen text bound c.requires) (omega arith) in
    subst (λ m. (k : ℕ) → k < count_trailing_zeros 64 m → bound < get_or text k 0) (sym same) (all_high text bound c.requires (some_of _ (λ none. c.if-marks-eq0.false (same ∙ none))))
  where
    some_of : (n : ℕ) → (n ≡ 0 → ⊥) → 0 < n
    some_of n h = omega (arith, h)
