-- Tests that tell whether groups are the same.
use Rattle.std.proofs.Common.{◌≡◌, ℕ, zero, suc, ◌+◌, ◌<◌, ◌≤◌, Bool, true, false, ◌&&◌, ◌==◌, nat_eq, List, [], ◌∷◌, ◌++◌, length, get_or, take, map, zip, refl, sym, ◌∙◌, ap, ap₂, arith}
use Rattle.std.specs.Bool.{Decides, beq}
use Rattle.std.specs.Cmp.{both_ways, booleans_Decides, first_so, second_so, unsigned_Decides}
use Rattle.std.specs.Cmp.Lexicographic.{pointwise, pointwise_decides}
use Rattle.std.specs.List.{range_with_len}
use Rattle.std.proofs.lemmas.List.{get_or-map, length-map, map-append, take_all, take_more}
use Rattle.std.proofs.lemmas.List.FromFn.{length-range_with_len}
use Rattle.std.proofs.lemmas.Slice.Zip.{firsts-zip, seconds-zip}
use Rattle.smallvec.specs.SmallVec.{SmallVec}
use Rattle.gb_defs.specs.Groups.{Grouping, GroupsForm, Idx, Slice, first_of, rows_of_pair}
use Rattle.gb_groups.specs.Groups.{lists_of, paired}
use Rattle.gb_groups.specs.Slices.{length_of, slice_pair, slice_pairs, start_of}
use Rattle.gb_groups.specs.Same.{form_number, same_groups, same_pair}

both_so : (s t : Bool) → s ≡ true → t ≡ true → (s && t) ≡ true
both_so s t one other = rw (one, other) refl

rows_decide : (xs ys : List ℕ) → Decides (pointwise nat_eq xs ys) (xs ≡ ys)
rows_decide = pointwise_decides unsigned_Decides

pub pair_decides : (p q : ℕ × List ℕ) → Decides (same_pair p q) (p ≡ q)
pair_decides p q =
    let first = first_of p == first_of q in
    let rows = pointwise nat_eq (rows_of_pair p) (rows_of_pair q) in (
      λ e. ap₂ (λ (i : ℕ) (r : List ℕ). (i, r)) ((unsigned_Decides p.0 q.0).0 (first_so first rows e)) ((rows_decide p.1 q.1).0 (second_so first rows e)),
      λ e. both_so first rows ((unsigned_Decides p.0 q.0).1 (ap first_of e)) ((rows_decide p.1 q.1).1 (ap rows_of_pair e)),
    )

pub pairs_decide : (xs ys : List (ℕ × List ℕ)) → Decides (pointwise same_pair xs ys) (xs ≡ ys)
pairs_decide = pointwise_decides pair_decides

-- the form that has a number
form_of : ℕ → GroupsForm
form_of zero = Idx
form_of (suc zero) = Slice false
form_of (suc (suc n)) = Slice true

form_again : (form : GroupsForm) → form_of (form_number form) ≡ form
unfolding form_of
form_again Idx = refl
form_again (Slice false) = refl
form_again (Slice true) = refl

form_decides : (one other : GroupsForm) → Decides (form_number one == form_number other) (one ≡ other)
form_decides one other = (
  λ e. sym (form_again one) ∙ ap form_of ((unsigned_Decides (form_number one) (form_number other)).0 e) ∙ form_again other,
  λ e. (unsigned_Decides (form_number one) (form_number other)).1 (ap form_number e),
)

grouping_of : GroupsForm → Bool → List (ℕ × List ℕ) → Grouping
grouping_of form flagged pairs = record { pairs = pairs; form = form; flagged = flagged }

alike : (a b : Grouping) → a.form ≡ b.form → a.flagged ≡ b.flagged → a.pairs ≡ b.pairs → a ≡ b
unfolding grouping_of
alike a b form flag pairs = ap (λ (f : GroupsForm). grouping_of f a.flagged a.pairs) form ∙ ap (λ (f : Bool). grouping_of b.form f a.pairs) flag ∙ ap (grouping_of b.form b.flagged) pairs

pub groups_decide : (a b : Grouping) → Decides (same_groups a b) (a ≡ b)
groups_decide a b =
    let form = form_number a.form == form_number b.form in
    let flag = beq a.flagged b.flagged in
    let pairs = pointwise same_pair a.pairs b.pairs in (
      λ e.
          let later : (flag && pairs) ≡ true = second_so form (flag && pairs) e in
          let same_form : a.form ≡ b.form = (form_decides a.form b.form).0 (first_so form (flag && pairs) e) in
          let same_flag : a.flagged ≡ b.flagged = (booleans_Decides a.flagged b.flagged).0 (first_so flag pairs later) in
          let same_pairs : a.pairs ≡ b.pairs = (pairs_decide a.pairs b.pairs).0 (second_so flag pairs later) in
          alike a b same_form same_flag same_pairs,
      λ e.
          both_so form (flag && pairs) ((form_decides a.form b.form).1 (ap (λ (g : Grouping). g.form) e))
          (both_so flag pairs ((booleans_Decides a.flagged b.flagged).1 (ap (λ (g : Grouping). g.flagged) e)) ((pairs_decide a.pairs b.pairs).1 (ap (λ (g : Grouping). g.pairs) e))),
    )

-- a test that decides whether groups are the same gives what `same_groups` does
pub same_by : (a b : Grouping) (r : Bool) → (r ≡ true → a ≡ b) → (a ≡ b → r ≡ true) → r ≡ same_groups a b
same_by a b r there back = both_ways r (same_groups a b) (λ e. (groups_decide a b).1 (there e)) (λ e. back ((groups_decide a b).0 e))

-- groups of one form, flagged alike, whose pairs a test tells
pub same_when : (a b : Grouping) → a.form ≡ b.form → a.flagged ≡ b.flagged → (r : Bool) → Decides r (a.pairs ≡ b.pairs) → r ≡ same_groups a b
same_when a b form flag r told = same_by a b r (λ e. alike a b form flag (told.0 e)) (λ e. told.1 (ap (λ (g : Grouping). g.pairs) e))

-- groups of other forms
pub same_never : (a b : Grouping) → (a.form ≡ b.form → ⊥) → false ≡ same_groups a b
same_never a b other = same_by a b false (λ e. cc) (λ e. absurd (other (ap (λ (g : Grouping). g.form) e)))

-- ---- first rows and row lists

pointwise-on : {A B : Type 0} (f : A → B) (E : B → B → Bool) (xs ys : List A) → pointwise (λ x y. E (f x) (f y)) xs ys ≡ pointwise E (map f xs) (map f ys)
pointwise-on f E [] [] = refl
pointwise-on f E [] (y ∷ ys) = refl
pointwise-on f E (x ∷ xs) [] = refl
pointwise-on f E (x ∷ xs) (y ∷ ys) = ap (λ b. E (f x) (f y) && b) (pointwise-on f E xs ys)

abbrev same_rows : SmallVec ℕ → SmallVec ℕ → Bool
same_rows rows others = pointwise nat_eq rows.items others.items

lists_decide : (xs ys : List (SmallVec ℕ)) → Decides (pointwise same_rows xs ys) (lists_of xs ≡ lists_of ys)
lists_decide xs ys =
    let on = pointwise-on (λ (rows : SmallVec ℕ). rows.items) (pointwise nat_eq) xs ys in
    let told = pointwise_decides rows_decide (lists_of xs) (lists_of ys) in
    (λ e. told.0 (sym on ∙ e), λ e. on ∙ told.1 e)

module _ (first other_first : List ℕ) (all other_all : List (SmallVec ℕ)) (each : length first ≡ length all) (other_each : length other_first ≡ length other_all) where
  lists_long : length (lists_of all) ≡ length first
  lists_long = length-map all _ ∙ sym each

  other_lists_long : length (lists_of other_all) ≡ length other_first
  other_lists_long = length-map other_all _ ∙ sym other_each

  same_firsts : paired first all ≡ paired other_first other_all → first ≡ other_first
  same_firsts e = sym (firsts-zip first (lists_of all) lists_long) ∙ ap (map first_of) e ∙ firsts-zip other_first (lists_of other_all) other_lists_long

  same_lists : paired first all ≡ paired other_first other_all → lists_of all ≡ lists_of other_all
  same_lists e = sym (seconds-zip first (lists_of all) lists_long) ∙ ap (map rows_of_pair) e ∙ seconds-zip other_first (lists_of other_all) other_lists_long

  pub lists_then : (r s : Bool) → r ≡ pointwise nat_eq first other_first → r ≡ true → s ≡ pointwise same_rows all other_all → Decides s (paired first all ≡ paired other_first other_all)
  lists_then r s firsts told lists = (
    λ e. ap₂ (λ (f : List ℕ) (ls : List (List ℕ)). zip f ls) ((rows_decide first other_first).0 (sym firsts ∙ told)) ((lists_decide all other_all).0 (sym lists ∙ e)),
    λ e. lists ∙ (lists_decide all other_all).1 (same_lists e),
  )

  pub lists_else : (r : Bool) → r ≡ pointwise nat_eq first other_first → r ≡ false → Decides r (paired first all ≡ paired other_first other_all)
  lists_else r firsts other = (λ e. cc, λ e. firsts ∙ (rows_decide first other_first).1 (same_firsts e))

-- ---- runs

run_same : (a b : List ℕ) → start_of a ≡ start_of b → length_of a ≡ length_of b → slice_pair a ≡ slice_pair b
run_same a b start long = ap₂ (λ (s n : ℕ). (s, range_with_len s n)) start long

pub run_start : (a b : List ℕ) → slice_pair a ≡ slice_pair b → start_of a ≡ start_of b
run_start a b e = ap first_of e

pub run_long : (a b : List ℕ) → slice_pair a ≡ slice_pair b → length_of a ≡ length_of b
run_long a b e =
    sym (length-range_with_len (start_of a) (length_of a)) ∙ ap (λ (p : ℕ × List ℕ). length p.1) e ∙ length-range_with_len (start_of b) (length_of b)

module _ (runs others : List (List ℕ)) where
  pub runs_long : slice_pairs runs ≡ slice_pairs others → length runs ≡ length others
  runs_long e = sym (length-map runs slice_pair) ∙ ap length e ∙ length-map others slice_pair

  module _ (place : ℕ) (d : List ℕ) (lt : place < length runs) (other_lt : place < length others) where
    pub runs_told : slice_pairs runs ≡ slice_pairs others → slice_pair (get_or runs place d) ≡ slice_pair (get_or others place d)
    runs_told e =
        sym (get_or-map slice_pair runs place d (slice_pair d) lt) ∙ ap (λ ps. get_or ps place (slice_pair d)) e ∙ get_or-map slice_pair others place d (slice_pair d) other_lt

    pub runs_more : slice_pairs (take place runs) ≡ slice_pairs (take place others) → start_of (get_or runs place d) ≡ start_of (get_or others place d) → length_of (get_or runs place d) ≡ length_of (get_or others place d)
        → slice_pairs (take (place + 1) runs) ≡ slice_pairs (take (place + 1) others)
    runs_more so_far start long =
        let run = get_or runs place d in
        let other = get_or others place d in
        ap slice_pairs (take_more runs place d lt) ∙ map-append slice_pair (take place runs) (run ∷ []) ∙ ap₂ (λ (ps : List (ℕ × List ℕ)) (p : ℕ × List ℕ). ps ++ p ∷ []) so_far (run_same run other start long)
        ∙ sym (map-append slice_pair (take place others) (other ∷ [])) ∙ sym (ap slice_pairs (take_more others place d other_lt))

  pub runs_all : (place : ℕ) → length runs ≡ length others → length runs ≤ place → slice_pairs (take place runs) ≡ slice_pairs (take place others) → slice_pairs runs ≡ slice_pairs others
  runs_all place long end so_far =
      sym (ap slice_pairs (take_all place runs end)) ∙ so_far ∙ ap slice_pairs (take_all place others (omega (arith, long, end)))

pub flags_same : (f g : Bool) → beq f g ≡ true → f ≡ g
flags_same f g e = (booleans_Decides f g).0 e
