-- The numbers of places by words, by a list with room for each word.
use Rattle.std.proofs.Common.{◌≡◌, ◌≢◌, ◌∙◌, ℕ, ◌+◌, ◌<◌, ◌≤◌, ◌==◌, ◌⊎◌, Bool, cond, true, false, inl, inr, List, [], ◌∷◌, ◌++◌, length, get_or, map, replicate, set, ap, append-nil, arith, eq-eqb, refl, subst, sym}
use Rattle.std.specs.Cmp.{IsEquivalence, on_equiv}
use Rattle.std.specs.List.{AllByRecursion, list_any}
use Rattle.std.proofs.lemmas.Bool.{cases_Bool, eqb-false, eqb-true}
use Rattle.std.proofs.lemmas.Cmp.{nat_eq_equiv}
use Rattle.std.proofs.lemmas.List.{get_or_append_left, get_or-replicate, get_or-set_other, get_or-set_same, length-append, length-replicate, length-set}
use Rattle.gb_defs.specs.Classes.{rows_below}
use Rattle.gb_defs.proofs.ClassesLemmas.{firsts_few, rows_below_all}
use Rattle.gb_paths.specs.Numbering.{AreNumbersOf}
use Rattle.gb_paths.specs.Words.{AreBelow, same_word}
use Rattle.gb_paths.proofs.LeaderLemmas.{no_numbers}
use Rattle.gb_paths.proofs.NextLemmas.{next_new, next_old, number_is, some_before}

pub word_equiv : (words : List ℕ) → IsEquivalence (same_word words)
word_equiv words = on_equiv (λ i. get_or words i 0) nat_eq_equiv

-- the numbers of the places so far, and the number of each word: none where it stood at no place
pub record AreListed (words : List ℕ) (place : ℕ) (numbers first of_rows : List ℕ) : Type 0 where
  pub so_far : AreNumbersOf (same_word words) (rows_below place) first of_rows
  pub known : (w : ℕ) → w < length numbers → ((get_or numbers w 0 ≡ 4294967295) × ((k : ℕ) → k < place → get_or words k 0 ≢ w)) ⊎ ((get_or numbers w 0 < length first) × (get_or words (get_or first (get_or numbers w 0) 0) 0 ≡ w))

pub listed_none : (words : List ℕ) (bound : ℕ) → AreListed words 0 (replicate bound 4294967295) [] []
listed_none words bound = let none : ℕ = 4294967295 in record {
  so_far = no_numbers (same_word words);
  known = λ w lt. inl (get_or-replicate bound w none 0 (omega (arith, lt, length-replicate bound none)), λ k low. absurd (omega (arith, low)));
}

module _ (words : List ℕ) (place : ℕ) (numbers first of_rows : List ℕ) (are : AreListed words place numbers first of_rows) (few : place < 4294967295) (inside : get_or words place 0 < length numbers) where
  abbrev word : ℕ
  word = get_or words place 0

  pub first_low : length first ≤ place
  first_low = rw are.so_far.first_is (firsts_few (same_word words) place)

  -- a word that has no number stood at no place
  none_before : get_or numbers word 0 ≡ 4294967295 → list_any (same_word words place) (rows_below place) ≡ false
  none_before none = elim (are.known word inside) [
    | inl never ↦ each never.1 (rows_below place) (rows_below_all place)
    | inr some ↦ absurd (omega (arith, some.0, none, first_low, few))
  ]
    where
      each : ((k : ℕ) → k < place → get_or words k 0 ≢ word) → (xs : List ℕ) → AllByRecursion (λ j. j < place) xs → list_any (same_word words place) xs ≡ false
      each never [] below = refl
      each never (x ∷ xs) below = elim (cases_Bool (same_word words place x)) [
        | inl e ↦ absurd (never x below.0 (sym (eqb-true _ _ e)))
        | inr e ↦ rw e (each never xs below.1)
      ]

  -- the next number is that of a new word
  pub listed_new : get_or numbers word 0 ≡ 4294967295 → AreListed words (place + 1) (set numbers word (length first)) (first ++ place ∷ []) (of_rows ++ length first ∷ [])
  listed_new none = record {
    so_far = next_new (same_word words) (word_equiv words) place first of_rows are.so_far (none_before none);
    known = λ w lt.
        let more : length (first ++ place ∷ []) ≡ length first + 1 = length-append first (place ∷ []) in
        elim (cases_Bool (w == word)) [
          | inl e ↦
              let same : w ≡ word = eqb-true w word e in
              let here : get_or (set numbers word (length first)) word 0 ≡ length first = get_or-set_same numbers word (length first) 0 inside in
              rw same (inr (rw here (omega (arith, more), ap (λ n. get_or words n 0) (last first place))))
          | inr e ↦
              let keep : get_or (set numbers word (length first)) w 0 ≡ get_or numbers w 0 = get_or-set_other numbers word w (length first) 0 (eqb-false w word e) in
              elim (are.known w (omega (arith, lt, length-set numbers word (length first)))) [
                | inl never ↦ inl (
                  keep ∙ never.0,
                  λ k low is. elim (cases_Bool (k == place)) [
                    | inl f ↦ eqb-false w word e (sym is ∙ ap (λ n. get_or words n 0) (eqb-true k place f))
                    | inr f ↦ never.1 k (omega (arith, low, eqb-false k place f)) is
                  ],
                )
                | inr some ↦ inr (rw keep (omega (arith, some.0, more), ap (λ n. get_or words n 0) (get_or_append_left first (place ∷ []) 0 (get_or numbers w 0) some.0) ∙ some.1))
              ]
        ];
  }
    where
      last : (xs : List ℕ) (x : ℕ) → get_or (xs ++ x ∷ []) (length xs) 0 ≡ x
      last [] x = refl
      last (y ∷ ys) x = last ys x

  -- a word that has one stood before
  pub listed_old : get_or numbers word 0 ≢ 4294967295 → AreListed words (place + 1) numbers first (of_rows ++ get_or numbers word 0 ∷ [])
  listed_old other = elim (are.known word inside) [
    | inl never ↦ absurd (other never.0)
    | inr some ↦
        let here : same_word words place (get_or first (get_or numbers word 0) 0) ≡ true = eq-eqb _ _ (sym some.1) in
        let same = word_equiv words in
        record {
          so_far = next_old (same_word words) same place first of_rows are.so_far (get_or numbers word 0)
              (sym (number_is (same_word words) same place first of_rows are.so_far (get_or numbers word 0) some.0 here))
              (some_before (same_word words) same place first of_rows are.so_far (get_or numbers word 0) some.0 here);
          known = λ w lt. elim (are.known w lt) [
            | inl never ↦ inl (
              never.0,
              λ k low is. elim (cases_Bool (k == place)) [
                | inl f ↦ other (ap (λ v. get_or numbers v 0) (sym (ap (λ n. get_or words n 0) (eqb-true k place f)) ∙ is) ∙ never.0)
                | inr f ↦ never.1 k (omega (arith, low, eqb-false k place f)) is
              ],
            )
            | inr found ↦ inr found
          ];
        }
  ]

  -- in one form
  abbrev has_none : Bool
  has_none = get_or numbers word 0 == 4294967295

  pub listed_more : AreListed words (place + 1) (cond has_none (set numbers word (length first)) numbers) (first ++ cond has_none (place ∷ []) []) (of_rows ++ cond has_none (length first) (get_or numbers word 0) ∷ [])
  listed_more = elim (cases_Bool has_none) [
    | inl e ↦ rw e (listed_new (eqb-true _ _ e))
    | inr e ↦ rw (e, append-nil first) (listed_old (eqb-false _ _ e))
  ]

  pub numbers_long : length (cond has_none (set numbers word (length first)) numbers) ≡ length numbers
  numbers_long = elim (cases_Bool has_none) [
    | inl e ↦ rw e (length-set numbers word (length first))
    | inr e ↦ rw e refl
  ]
