-- The numbers of rows by the lists that have them, and that those of classes tell slots.
use Rattle.std.proofs.Common.{◌≡◌, ◌∙◌, ℕ, zero, suc, ◌+◌, ◌<◌, ◌≤◌, ◌||◌, ◌&&◌, Bool, true, false, not, cond, inl, inr, eqb, List, [], ◌∷◌, ◌++◌, length, get_or, set, map, zip, refl, sym, ap, ap₂, arith}
use Rattle.std.specs.Prelude.{if◌then◌else◌}
use Rattle.std.specs.Cmp.{IsEquivalence}
use Rattle.std.specs.List.{list_any}
use Rattle.std.proofs.lemmas.Bool.{cases_Bool, cases_eq, eq-eqb, ne_eqb, or_parts}
use Rattle.std.proofs.lemmas.List.{append-nil, get_or_default, get_or-map, get_or-set_other, get_or-set_same, length-map, length-set}
use Rattle.std.proofs.lemmas.List.Elements.{recursion_from_All}
use Rattle.std.proofs.lemmas.List.Folds.{list_any-append}
use Rattle.std.proofs.lemmas.List.FromFn.{get_or-range_with_len, length-range_with_len}
use Rattle.std.proofs.lemmas.Map.Steps.{list_any_congr}
use Rattle.std.proofs.lemmas.Map.Views.{any-filter_same}
use Rattle.std.proofs.lemmas.Simd.{map-map}
use Rattle.gb_defs.specs.Classes.{agree_by, class, firsts, groups, rows_below, same_slot}
use Rattle.gb_defs.specs.Groups.{rows_of_pair}
use Rattle.gb_defs.specs.Slot.{Slot, slot_at}
use Rattle.gb_defs.proofs.AnswerLemmas.{agree_one}
use Rattle.gb_defs.proofs.ClassesLemmas.{firsts_few, firsts_push, groups_alike, rows_below_all, rows_below_more}
use Rattle.gb_defs.proofs.SlotLemmas.{slot_eq_equiv}
use Rattle.gb_groups.specs.Numbers.{lists_by}
use Rattle.gb_paths.specs.Numbering as paths
use Rattle.gb_paths.specs.Numbers.{pairs_by}
use Rattle.gb_paths.specs.declared.row_numbers.RowNumbers.{RowNumbers}
use Rattle.gb_paths.proofs.NumberingLemmas.{numbers_told, one_number}
use Rattle.gb_paths.proofs.PartLemmas.{range_rises}
use Rattle.gb_agg.specs.Distinct.{AreClasses, AreNumbered, is_listed, number_from, numbered}

-- ---- one row more takes a number

pub numbered_kept : (number : ℕ) (rows numbers : List ℕ) → length (numbered number rows numbers) ≡ length numbers
numbered_kept number [] numbers = refl
numbered_kept number (r ∷ rs) numbers = numbered_kept number rs (set numbers r number) ∙ length-set numbers r number

pub numbered_at : (number : ℕ) (rows numbers : List ℕ) (row : ℕ) → row < length numbers → get_or (numbered number rows numbers) row 0 ≡ (if is_listed row rows then number else get_or numbers row 0)
numbered_at number [] numbers row lt = refl
numbered_at number (r ∷ rs) numbers row lt =
    let rest = numbered_at number rs (set numbers r number) row (omega (arith, lt, length-set numbers r number)) in
    elim (cases_eq row r) [
      | inl same ↦ rw (rest, same, eq-eqb r r refl, get_or-set_same numbers r number 0 (omega (arith, lt, same))) (any_or (list_any (λ other. eqb r other) rs))
      | inr away ↦ rw (rest, ne_eqb row r away, get_or-set_other numbers r row number 0 away) refl
    ]
  where
    any_or : (b : Bool) → (if b then number else number) ≡ number
    any_or true = refl
    any_or false = refl

-- ---- the last list that has a row

number_push : (place : ℕ) (lists : List (List ℕ)) (rows : List ℕ) (row none : ℕ) → number_from place (lists ++ rows ∷ []) row none ≡ (if is_listed row rows then place + length lists else number_from place lists row none)
number_push place [] rows row none = let same : place ≡ place + 0 = omega arith in ap (λ n. if is_listed row rows then n else none) same
number_push place (list ∷ lists) rows row none =
    let next : suc place + length lists ≡ place + suc (length lists) = omega arith in
    let here = if is_listed row list then place else none in
    number_push (suc place) lists rows row here ∙ ap (λ n. if is_listed row rows then n else number_from (suc place) lists row here) next

number_none : (place : ℕ) (lists : List (List ℕ)) (row none : ℕ) → list_any (is_listed row) lists ≡ false → number_from place lists row none ≡ none
number_none place [] row none h = refl
number_none place (list ∷ lists) row none h =
    let b = or_parts (is_listed row list) (list_any (is_listed row) lists) h in
    number_none (suc place) lists row (if is_listed row list then place else none) b.1 ∙ ap (λ (x : Bool). if x then place else none) b.0

or_left : (a b : Bool) → (a || b) ≡ true → b ≡ false → a ≡ true
or_left true b h e = refl
or_left false b h e = let never = sym h ∙ e in cc

pub record HasNumber (place : ℕ) (lists : List (List ℕ)) (row number : ℕ) : Type 0 where
  pub at : ℕ
  pub inside : at < length lists
  pub is : number ≡ place + at
  pub listed : is_listed row (get_or lists at []) ≡ true

number_found : (place : ℕ) (lists : List (List ℕ)) (row none : ℕ) → list_any (is_listed row) lists ≡ true → HasNumber place lists row (number_from place lists row none)
number_found place [] row none h = cc
number_found place (list ∷ lists) row none h = elim (cases_Bool (list_any (is_listed row) lists)) [
  | inl later ↦
      let found = number_found (suc place) lists row (if is_listed row list then place else none) later in
      record { at = suc found.at; inside = omega (arith, found.inside); is = omega (arith, found.is); listed = found.listed }
  | inr never ↦
      let here : is_listed row list ≡ true = or_left (is_listed row list) (list_any (is_listed row) lists) h never in
      let is = number_none (suc place) lists row (if is_listed row list then place else none) never ∙ ap (λ (x : Bool). if x then place else none) here in
      record { at = 0; inside = omega arith; is = omega (arith, is); listed = here }
]

number_same : (place : ℕ) (lists : List (List ℕ)) (row other none : ℕ) → ((k : ℕ) → k < length lists → is_listed row (get_or lists k []) ≡ is_listed other (get_or lists k []))
    → number_from place lists row none ≡ number_from place lists other none
number_same place [] row other none h = refl
number_same place (list ∷ lists) row other none h =
    ap (λ (x : Bool). number_from (suc place) lists row (if x then place else none)) (h 0 (omega arith))
    ∙ number_same (suc place) lists row other (if is_listed other list then place else none) (λ k lt. h (suc k) (omega (arith, lt)))

number_below : (place : ℕ) (lists : List (List ℕ)) (row none limit : ℕ) → none < limit → place + length lists ≤ limit → number_from place lists row none < limit
number_below place [] row none limit low high = low
number_below place (list ∷ lists) row none limit low high = number_below (suc place) lists row _ limit (either (is_listed row list)) (omega (arith, high))
  where
    either : (b : Bool) → (if b then place else none) < limit
    either true = omega (arith, high)
    either false = low

-- one list more
pub numbered_more : (count : ℕ) (lists : List (List ℕ)) (rows numbers : List ℕ) → AreNumbered count lists numbers → AreNumbered count (lists ++ rows ∷ []) (numbered (length lists) rows numbers)
numbered_more count lists rows numbers are = record {
  as_many = numbered_kept (length lists) rows numbers ∙ are.as_many;
  placed = λ row lt.
      numbered_at (length lists) rows numbers row (omega (arith, lt, are.as_many))
      ∙ ap (λ n. if is_listed row rows then length lists else n) (are.placed row lt)
      ∙ sym (number_push 0 lists rows row 0 ∙ ap (λ n. if is_listed row rows then n else number_from 0 lists row 0) (none_more (length lists)));
} where
  none_more : (n : ℕ) → 0 + n ≡ n
  none_more n = omega arith

-- ---- rows of classes

any_at : (p : ℕ → Bool) (n row : ℕ) → row < n → p row ≡ true → list_any p (rows_below n) ≡ true
any_at p zero row lt h = absurd (omega (arith, lt))
any_at p (suc n) row lt h =
    let next : suc n ≡ n + 1 = omega arith in
    let parts : list_any p (rows_below (suc n)) ≡ (list_any p (rows_below n) || (p n || false)) =
    ap (λ k. list_any p (rows_below k)) next ∙ ap (list_any p) (rows_below_more n) ∙ list_any-append p (rows_below n) (n ∷ []) in
    elim (cases_eq row n) [
      | inl same ↦ rw (parts, ap p (sym same) ∙ h) (or_yes (list_any p (rows_below n)))
      | inr away ↦ rw (parts, any_at p n row (omega (arith, lt, away)) h) refl
    ]
  where
    or_yes : (b : Bool) → (b || true) ≡ true
    or_yes true = refl
    or_yes false = refl

any_index : (p : ℕ → Bool) (xs : List ℕ) → list_any p xs ≡ true → (k : ℕ) × (k < length xs) × (p (get_or xs k 0) ≡ true)
any_index p [] h = cc
any_index p (x ∷ xs) h = elim (cases_Bool (p x)) [
  | inl here ↦ (0, omega arith, here)
  | inr not_here ↦
      let rest : list_any p xs ≡ true = rw not_here at h in
      let found = any_index p xs rest in
      (suc found.0, omega (arith, found.1), found.2)
]

module _ (agree : ℕ → ℕ → Bool) (laws : IsEquivalence agree) where
  -- what agrees with a row agrees with a first one
  any_first : (n i : ℕ) → list_any (agree i) (rows_below n) ≡ list_any (agree i) (firsts agree (rows_below n))
  unfolding firsts
  any_first zero i = refl
  any_first (suc n) i =
      let next : suc n ≡ n + 1 = omega arith in
      let before = any_first n i in
      let firsts_before = firsts agree (rows_below n) in
      let rows_now : list_any (agree i) (rows_below (suc n)) ≡ (list_any (agree i) (rows_below n) || (agree i n || false)) =
      ap (λ k. list_any (agree i) (rows_below k)) next ∙ ap (list_any (agree i)) (rows_below_more n) ∙ list_any-append (agree i) (rows_below n) (n ∷ []) in
      let firsts_now : firsts agree (rows_below (suc n)) ≡ firsts_before ++ cond (not (list_any (agree n) (rows_below n))) (n ∷ []) [] =
      ap (λ k. firsts agree (rows_below k)) next ∙ ap (firsts agree) (rows_below_more n) ∙ firsts_push agree (rows_below n) n (rows_below_all n) in
      elim (cases_Bool (list_any (agree n) (rows_below n))) [
        | inl seen ↦
            let same : firsts agree (rows_below (suc n)) ≡ firsts_before =
            firsts_now ∙ ap (λ b. firsts_before ++ cond (not b) (n ∷ []) []) seen ∙ append-nil firsts_before in
            rows_now ∙ absorbed i n seen ∙ before ∙ sym (ap (list_any (agree i)) same)
        | inr fresh ↦
            let longer : firsts agree (rows_below (suc n)) ≡ firsts_before ++ n ∷ [] =
            firsts_now ∙ ap (λ b. firsts_before ++ cond (not b) (n ∷ []) []) fresh in
            rows_now ∙ ap (λ b. b || (agree i n || false)) before ∙ sym (list_any-append (agree i) firsts_before (n ∷ [])) ∙ sym (ap (list_any (agree i)) longer)
      ]
    where
      absorbed : (i n : ℕ) → list_any (agree n) (rows_below n) ≡ true → (list_any (agree i) (rows_below n) || (agree i n || false)) ≡ list_any (agree i) (rows_below n)
      absorbed i n seen = elim (cases_Bool (agree i n)) [
        | inl e ↦ let all = list_any_congr laws i n (rows_below n) e ∙ seen in rw all refl
        | inr e ↦ rw e (or_none (list_any (agree i) (rows_below n)))
      ]
        where
          or_none : (b : Bool) → (b || false) ≡ b
          or_none true = refl
          or_none false = refl

  module _ (n : ℕ) where
    abbrev first_rows : List ℕ
    first_rows = firsts agree (rows_below n)

    abbrev lists : List (List ℕ)
    lists = map (class agree (rows_below n)) first_rows

    member : (i row : ℕ) → row < n → is_listed row (class agree (rows_below n) i) ≡ agree i row
    unfolding class
    member i row lt =
        any-filter_same (eqb row) (agree i) (agree i row) (λ k e. ap (agree i) (sym (same k e))) (rows_below n)
        ∙ ap (λ b. agree i row && b) (any_at (eqb row) n row lt (eq-eqb row row refl))
        ∙ and_yes (agree i row)
      where
        same : (k : ℕ) → eqb row k ≡ true → row ≡ k
        same k e = elim (cases_eq row k) [ inl s ↦ s | inr away ↦ let never = sym (ne_eqb row k away) ∙ e in cc ]

        and_yes : (b : Bool) → (b && true) ≡ b
        and_yes true = refl
        and_yes false = refl

    list_of : (k : ℕ) → k < length lists → get_or lists k [] ≡ class agree (rows_below n) (get_or first_rows k 0)
    list_of k lt = get_or-map (class agree (rows_below n)) first_rows k 0 [] (omega (arith, lt, length-map first_rows (class agree (rows_below n))))

    in_list : (k row : ℕ) → k < length lists → row < n → is_listed row (get_or lists k []) ≡ agree (get_or first_rows k 0) row
    in_list k row lt inside = ap (is_listed row) (list_of k lt) ∙ member (get_or first_rows k 0) row inside

    -- each row is listed
    covered : (row : ℕ) → row < n → list_any (is_listed row) lists ≡ true
    covered row inside =
        let some : list_any (agree row) first_rows ≡ true = sym (any_first n row) ∙ any_at (agree row) n row inside (laws.refl row) in
        let found = any_index (agree row) first_rows some in
        let here : found.0 < length lists = omega (arith, found.1, length-map first_rows (class agree (rows_below n))) in
        any_list (is_listed row) lists found.0 here (in_list found.0 row here inside ∙ laws.symm (get_or first_rows found.0 0) row ∙ found.2)
      where
        any_list : (p : List ℕ → Bool) (ls : List (List ℕ)) (k : ℕ) → k < length ls → p (get_or ls k []) ≡ true → list_any p ls ≡ true
        any_list p [] k lt h = absurd (omega (arith, lt))
        any_list p (l ∷ ls) zero lt h = rw h refl
        any_list p (l ∷ ls) (suc k) lt h = rw (any_list p ls k (omega (arith, lt)) h) (or_yes (p l))
          where
            or_yes : (b : Bool) → (b || true) ≡ true
            or_yes true = refl
            or_yes false = refl

    numbers_tell : (row other : ℕ) → row < n → other < n → agree row other ≡ eqb (number_from 0 lists row 0) (number_from 0 lists other 0)
    numbers_tell row other here there = elim (cases_Bool (agree row other)) [
      | inl same ↦
          rw same (sym (eq-eqb _ _ (number_same 0 lists row other 0 (λ k lt.
          in_list k row lt here ∙ laws.symm (get_or first_rows k 0) row ∙ laws.congr row other (get_or first_rows k 0) same ∙ laws.symm other (get_or first_rows k 0) ∙ sym (in_list k other lt there)))))
      | inr apart ↦
          let one = number_found 0 lists row 0 (covered row here) in
          let two = number_found 0 lists other 0 (covered other there) in
          rw apart (sym (ne_eqb _ _ (λ e.
          let at : one.at ≡ two.at = omega (arith, one.is, two.is, e) in
          let first = get_or first_rows one.at 0 in
          let left : agree first row ≡ true = sym (in_list one.at row one.inside here) ∙ one.listed in
          let right : agree first other ≡ true = sym (in_list one.at other one.inside there) ∙ ap (λ k. is_listed other (get_or lists k [])) at ∙ two.listed in
          let never = sym apart ∙ sym (laws.congr first row other left) ∙ right in cc)))
    ]

-- ---- the classes of slots

same_laws : (slots : List Slot) → IsEquivalence (same_slot slots)
same_laws slots = record {
  refl = λ i. slot_eq_equiv.refl (slot_at slots i);
  symm = λ i j. slot_eq_equiv.symm (slot_at slots i) (slot_at slots j);
  congr = λ i j k e. slot_eq_equiv.congr (slot_at slots i) (slot_at slots j) (slot_at slots k) e;
}

module _ (slots : List Slot) (pairs : List (ℕ × List ℕ)) (grouped : pairs ≡ groups (agree_by (slots ∷ [])) (rows_below (length slots))) (numbers : List ℕ)
    (are : AreNumbered (length slots) (map rows_of_pair pairs) numbers) where
  class_lists : map rows_of_pair pairs ≡ lists (same_slot slots) (same_laws slots) (length slots)
  unfolding groups
  class_lists =
      let agree = same_slot slots in
      let rows = rows_below (length slots) in
      ap (map rows_of_pair) (grouped ∙ groups_alike (agree_by (slots ∷ [])) agree (length slots) (λ i j here there. and_yes (agree i j)))
      ∙ map-map rows_of_pair (λ i. (i, class agree rows i)) (firsts agree rows)
    where
      and_yes : (b : Bool) → (b && true) ≡ b
      and_yes true = refl
      and_yes false = refl

  number_at : (row : ℕ) → row < length slots → get_or numbers row 0 ≡ number_from 0 (lists (same_slot slots) (same_laws slots) (length slots)) row 0
  number_at row lt = are.placed row lt ∙ ap (λ ls. number_from 0 ls row 0) class_lists

  pub numbers_of_classes : AreClasses slots (length pairs) numbers
  numbers_of_classes = record {
    as_many = are.as_many;
    known = λ row d lt.
        let here : row < length slots = omega (arith, lt, are.as_many) in
        let found = number_found 0 (lists (same_slot slots) (same_laws slots) (length slots)) row 0 (covered (same_slot slots) (same_laws slots) (length slots) row here) in
        omega (arith, get_or_default numbers row 0 d lt, number_at row here, found.is, found.inside, ap length class_lists, length-map pairs rows_of_pair);
    tell = λ i j here there.
        numbers_tell (same_slot slots) (same_laws slots) (length slots) i j here there
        ∙ ap (λ n. eqb n (number_from 0 (lists (same_slot slots) (same_laws slots) (length slots)) j 0)) (sym (number_at i here))
        ∙ ap (λ n. eqb (get_or numbers i 0) n) (sym (number_at j there));
  }

-- there are no more classes than rows
pub classes_few : (agree : ℕ → ℕ → Bool) (n : ℕ) (pairs : List (ℕ × List ℕ)) → pairs ≡ groups agree (rows_below n) → length pairs ≤ n
unfolding groups
classes_few agree n pairs is =
    omega (arith, ap (λ (ps : List (ℕ × List ℕ)). length ps) is, length-map {B = ℕ × List ℕ} (firsts agree (rows_below n)) (λ i. (i, class agree (rows_below n) i)), firsts_few agree n)

-- ---- classes by numbers

row_itself : (n i : ℕ) → i < n → get_or (rows_below n) i 0 ≡ i
row_itself n i lt = let e : 0 + i ≡ i = omega arith in get_or-range_with_len 0 n i 0 lt ∙ e

-- the numbers of the groups of slots are those of their classes
pub classes_numbered : (slots : List Slot) (made : RowNumbers) → (paths.numbered made).pairs ≡ groups (agree_by (slots ∷ [])) (rows_below (length slots))
    → length made.of_rows.items ≡ length slots → AreClasses slots (length made.first.items) made.of_rows.items
classes_numbered slots made is many =
    let agree = same_slot slots in
    let n = length slots in
    let rows = rows_below n in
    let first = made.first.items in
    let all = made.of_rows.items in
    let long : length rows ≡ n = length-range_with_len 0 n in
    let grouped : zip first (lists_by rows all (length first)) ≡ groups agree rows =
    ap (λ m. pairs_by (rows_below m) all first) (sym many) ∙ is ∙ ap (λ a. groups a rows) (agree_one slots) in
    let are = numbers_told agree (same_laws slots) rows all first (range_rises 0 n) (many ∙ sym long) (recursion_from_All (λ number. number < length first) all made.known) grouped in
    record {
      as_many = many;
      known = made.known;
      tell = λ i j here there.
          sym (one_number agree (same_laws slots) rows first all (range_rises 0 n) are i j (rw long here) (rw long there)
          ∙ ap₂ agree (row_itself n i here) (row_itself n j there));
    }
