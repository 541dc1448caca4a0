-- Rows and counts by number, one row at a time.
use Rattle.std.proofs.Common.{◌≡◌, ℕ, ◌+◌, ◌<◌, ◌≤◌, zero, suc, false, cond, inl, inr, eqb, List, [], ◌∷◌, ◌++◌, length, get_or, set, take, drop, map, filter, refl, sym, ◌∙◌, ap, arith}
use Rattle.std.specs.List.{range_with_len, All, AllZip}
use Rattle.std.proofs.lemmas.Bool.{cases_Bool, cases_eq, eq-eqb, ne_eqb}
use Rattle.std.proofs.lemmas.List.{take_more, length-take, length-append, append-nil, append_assoc, get_or_default, get_or-map, length-map, take-append-drop, take_all, take-append-le, length-set, get_or-set_same, get_or-set_other}
use Rattle.std.proofs.lemmas.List.Elements.{All-head, All-tail}
use Rattle.std.proofs.lemmas.List.Sums.{sum_by-cons, sum_by-append, sum_by_push}
use Rattle.std.proofs.lemmas.List.FromFn.{fill_by_all, get_or-map-range_with_len, length-map-range_with_len, map-range_with_len_more, get_or-range_with_len, length-range_with_len}
use Rattle.smallvec.specs.SmallVec.{SmallVec}
use Rattle.gb_defs.specs.Classes.{rows_below}
use Rattle.gb_groups.specs.Groups.{lists_of}
use Rattle.gb_groups.specs.Numbers.{rows_of, lists_by, count_of, counts_by, HaveMore, HaveRoom, IsRoomFor}

-- ---- rows

pub rows_push : (rows numbers : List ℕ) (row n k : ℕ) → length numbers ≡ length rows → rows_of (rows ++ row ∷ []) (numbers ++ n ∷ []) k ≡ rows_of rows numbers k ++ cond (eqb n k) (row ∷ []) []
unfolding rows_of
rows_push [] [] row n k each = refl
rows_push [] (m ∷ ms) row n k each = absurd (omega (arith, each))
rows_push (r ∷ rs) [] row n k each = absurd (omega (arith, each))
rows_push (r ∷ rs) (m ∷ ms) row n k each =
    let rest = rows_push rs ms row n k (omega (arith, each)) in
    elim (cases_Bool (eqb m k)) [ inl e ↦ rw (e, rest) | inr e ↦ rw (e, rest) ]

abbrev one_if : ℕ → ℕ → ℕ
one_if k n = cond (eqb n k) 1 0

pub length-rows_of : (rows numbers : List ℕ) (k : ℕ) → length numbers ≡ length rows → length (rows_of rows numbers k) ≡ count_of numbers k
unfolding rows_of
length-rows_of [] [] k each = refl
length-rows_of [] (m ∷ ms) k each = absurd (omega (arith, each))
length-rows_of (r ∷ rs) [] k each = absurd (omega (arith, each))
length-rows_of (r ∷ rs) (m ∷ ms) k each =
    let more : count_of (m ∷ ms) k ≡ one_if k m + count_of ms k = sum_by-cons (one_if k) m ms in
    let rest = length-rows_of rs ms k (omega (arith, each)) in
    elim (cases_Bool (eqb m k)) [
      | inl e ↦ rw (more, e, rest) (omega arith)
      | inr e ↦ rw (more, e, rest) (omega arith)
    ]

-- ---- counts

count_take : (numbers : List ℕ) (n k : ℕ) → count_of (take n numbers) k ≤ count_of numbers k
count_take numbers n k =
    let whole : count_of (take n numbers) k + count_of (drop n numbers) k ≡ count_of numbers k =
    sym (sum_by-append (one_if k) (take n numbers) (drop n numbers)) ∙ ap (λ ns. count_of ns k) (take-append-drop n numbers) in
    omega (arith, whole)

-- ---- what stands at each place of two lists

pub all_zip_at : {A B : Type 0} (R : A → B → Type 0) (xs : List A) (ys : List B) → AllZip R xs ys → (k : ℕ) (d : A) (e : B) → k < length ys → R (get_or xs k d) (get_or ys k e)
all_zip_at R [] [] h k d e lt = absurd (omega (arith, lt))
all_zip_at R [] (y ∷ ys) h k d e lt = absurd h
all_zip_at R (x ∷ xs) [] h k d e lt = absurd h
all_zip_at R (x ∷ xs) (y ∷ ys) h zero d e lt = h.0
all_zip_at R (x ∷ xs) (y ∷ ys) h (suc k) d e lt = all_zip_at R xs ys h.1 k d e (omega (arith, lt))

-- ---- lists that have the first n of the rows, and room for all

pub record IsFilledTo (rows numbers : List ℕ) (n k : ℕ) (list : SmallVec ℕ) : Type 0 where
  pub so_far : list.items ≡ rows_of (take n rows) (take n numbers) k
  pub room : count_of numbers k ≤ list.capacity

abbrev pub AreFilledTo : List ℕ → List ℕ → ℕ → List (SmallVec ℕ) → Type 0
AreFilledTo rows numbers n lists = (k : ℕ) (d : SmallVec ℕ) → k < length lists → IsFilledTo rows numbers n k (get_or lists k d)

pub filled_none : (rows numbers : List ℕ) (lists : List (SmallVec ℕ)) → AllZip IsRoomFor (counts_by numbers (length lists)) lists → AreFilledTo rows numbers 0 lists
unfolding rows_of
filled_none rows numbers lists h k d lt =
    let at = all_zip_at IsRoomFor (counts_by numbers (length lists)) lists h k 0 d lt in
    let count : get_or (counts_by numbers (length lists)) k 0 ≡ count_of numbers k = get_or-map-range_with_len (count_of numbers) 0 (length lists) k k 0 lt (omega arith) in
    record { so_far = at.empty; room = rw count at at.room }

module _ (rows numbers : List ℕ) (each : length numbers ≡ length rows) (n number row : ℕ) (lt : n < length numbers) (is : get_or numbers n 0 ≡ number) (row_is : get_or rows n 0 ≡ row) where
  as_long : length (take n numbers) ≡ length (take n rows)
  as_long = omega (arith, length-take n numbers, length-take n rows, each)

  rows_more : (k : ℕ) → rows_of (take (n + 1) rows) (take (n + 1) numbers) k ≡ rows_of (take n rows) (take n numbers) k ++ cond (eqb number k) (row ∷ []) []
  rows_more k =
      let inside : n < length rows = omega (arith, lt, each) in
      rw (take_more numbers n 0 lt, is, take_more rows n 0 inside, row_is, rows_push (take n rows) (take n numbers) row number k as_long)

  pub filled_room : (list : SmallVec ℕ) → IsFilledTo rows numbers n number list → length list.items + 1 ≤ list.capacity
  filled_room list f =
      let here : count_of (take (n + 1) numbers) number ≡ count_of (take n numbers) number + 1 =
      rw (take_more numbers n 0 lt, is) (sum_by_push (one_if number) (take n numbers) number ∙ rw (eq-eqb number number refl)) in
      let so_far : length list.items ≡ count_of (take n numbers) number = ap length f.so_far ∙ length-rows_of (take n rows) (take n numbers) number as_long in
      omega (arith, here, so_far, count_take numbers (n + 1) number, f.room)

  pub filled_more : (lists : List (SmallVec ℕ)) (e new : SmallVec ℕ) → number < length lists → new.items ≡ (get_or lists number e).items ++ row ∷ [] → new.capacity ≡ (get_or lists number e).capacity →
      AreFilledTo rows numbers n lists → AreFilledTo rows numbers (n + 1) (set lists number new)
  filled_more lists e new inside longer same f k d in_set =
      let before : IsFilledTo rows numbers n number (get_or lists number e) = f number e inside in
      let last : rows_of (take (n + 1) rows) (take (n + 1) numbers) number ≡ rows_of (take n rows) (take n numbers) number ++ row ∷ [] = rw (rows_more number, eq-eqb number number refl) in
      let here : IsFilledTo rows numbers (n + 1) number new = record { so_far = longer ∙ ap (λ list. list ++ row ∷ []) before.so_far ∙ sym last; room = rw same before.room } in
      elim (cases_eq k number) [
        | inl here_is ↦ rw (here_is, get_or-set_same lists number new d inside) here
        | inr away ↦
            let there = f k d (omega (arith, in_set, length-set lists number new)) in
            let other : eqb number k ≡ false = ne_eqb number k (λ h. away (sym h)) in
            let kept : rows_of (take (n + 1) rows) (take (n + 1) numbers) k ≡ rows_of (take n rows) (take n numbers) k = rw (rows_more k, other, append-nil) in
            rw (get_or-set_other lists number k new d away) (record { so_far = there.so_far ∙ sym kept; room = there.room })
      ]

  -- rows that stand behind others

  pub more_room : (before now : List (SmallVec ℕ)) (e : SmallVec ℕ) → number < length before → HaveRoom numbers before → HaveMore (take n rows) (take n numbers) before now
      → length (get_or now number e).items + 1 ≤ (get_or now number e).capacity
  more_room before now e inside room have =
      let at = have.each number e inside in
      let here : count_of (take (n + 1) numbers) number ≡ count_of (take n numbers) number + 1 =
      rw (take_more numbers n 0 lt, is) (sum_by_push (one_if number) (take n numbers) number ∙ rw (eq-eqb number number refl)) in
      let so_far = ap length at.longer ∙ length-append (get_or before number e).items (rows_of (take n rows) (take n numbers) number) in
      omega (arith, here, so_far, length-rows_of (take n rows) (take n numbers) number as_long, count_take numbers (n + 1) number, room number e inside, at.room)

  pub more_more : (before now : List (SmallVec ℕ)) (e new : SmallVec ℕ) → number < length before → new.items ≡ (get_or now number e).items ++ row ∷ [] → new.capacity ≡ (get_or now number e).capacity →
      HaveMore (take n rows) (take n numbers) before now → HaveMore (take (n + 1) rows) (take (n + 1) numbers) before (set now number new)
  more_more before now e new inside longer same have =
      let within : number < length now = omega (arith, inside, have.as_many) in
      record {
        as_many = length-set now number new ∙ have.as_many;
        each = λ k d in_before. elim (cases_eq k number) [
          | inl here_is ↦
              let at = have.each number d inside in
              let last : rows_of (take (n + 1) rows) (take (n + 1) numbers) number ≡ rows_of (take n rows) (take n numbers) number ++ row ∷ [] = rw (rows_more number, eq-eqb number number refl) in
              let read : get_or now number e ≡ get_or now number d = get_or_default now number e d within in
              rw (here_is, get_or-set_same now number new d within) (record {
                longer = longer ∙ ap (λ (list : SmallVec ℕ). list.items ++ row ∷ []) read ∙ ap (λ list. list ++ row ∷ []) at.longer
                    ∙ append_assoc (get_or before number d).items (rows_of (take n rows) (take n numbers) number) (row ∷ []) ∙ ap (λ list. (get_or before number d).items ++ list) (sym last);
                room = same ∙ ap (λ (list : SmallVec ℕ). list.capacity) read ∙ at.room;
              })
          | inr away ↦
              let there = have.each k d in_before in
              let other : eqb number k ≡ false = ne_eqb number k (λ h. away (sym h)) in
              let kept : rows_of (take (n + 1) rows) (take (n + 1) numbers) k ≡ rows_of (take n rows) (take n numbers) k = rw (rows_more k, other, append-nil) in
              rw (get_or-set_other now number k new d away) (record { longer = there.longer ∙ ap (λ list. (get_or before k d).items ++ list) (sym kept); room = there.room })
        ];
      }

pub more_none : (rows numbers : List ℕ) (lists : List (SmallVec ℕ)) → HaveMore (take 0 rows) (take 0 numbers) lists lists
unfolding rows_of
more_none rows numbers lists = record { as_many = refl; each = λ k d lt. record { longer = sym (append-nil (get_or lists k d).items); room = refl } }

pub more_all : (rows numbers : List ℕ) (n : ℕ) (before now : List (SmallVec ℕ)) → length numbers ≡ length rows → length numbers ≤ n → HaveMore (take n rows) (take n numbers) before now → HaveMore rows numbers before now
more_all rows numbers n before now each all have =
    let all_rows : length rows ≤ n = omega (arith, each, all) in
    rw (take_all n numbers all, take_all n rows all_rows) at have

pub filled_all : (rows numbers : List ℕ) (n : ℕ) (lists : List (SmallVec ℕ)) → length numbers ≡ length rows → length numbers ≤ n → AreFilledTo rows numbers n lists → lists_of lists ≡ lists_by rows numbers (length lists)
filled_all rows numbers n lists each all f =
    let none : SmallVec ℕ = record { items = []; capacity = 0 } in
    let all_rows : length rows ≤ n = omega (arith, each, all) in
    fill_by_all (rows_of rows numbers) (lists_of lists) (length lists) [] (length-map lists (λ (list : SmallVec ℕ). list.items)) (λ k lt.
    get_or-map (λ (list : SmallVec ℕ). list.items) lists k none [] lt ∙ (f k none lt).so_far ∙ rw (take_all n numbers all, take_all n rows all_rows))

pub counted_all : (numbers : List ℕ) (n : ℕ) (counts : List ℕ) → length numbers ≤ n → ((k : ℕ) → get_or counts k 0 ≡ count_of (take n numbers) k) → counts ≡ counts_by numbers (length counts)
counted_all numbers n counts all f = fill_by_all (count_of numbers) counts (length counts) 0 refl (λ k lt. f k ∙ ap (λ ns. count_of ns k) (take_all n numbers all))

-- one number more is counted
pub count_more : (numbers : List ℕ) (number : ℕ) (counts : List ℕ) → number < length counts → ((k : ℕ) → get_or counts k 0 ≡ count_of numbers k) →
    (k : ℕ) → get_or (set counts number (get_or counts number 0 + 1)) k 0 ≡ count_of (numbers ++ number ∷ []) k
count_more numbers number counts inside f k = elim (cases_eq k number) [
  | inl here ↦
      let own : count_of (numbers ++ number ∷ []) number ≡ count_of numbers number + 1 = sum_by_push (one_if number) numbers number ∙ rw (eq-eqb number number refl) in
      rw (here, get_or-set_same counts number (get_or counts number 0 + 1) 0 inside, f number, own)
  | inr away ↦
      let other : eqb number k ≡ false = ne_eqb number k (λ h. away (sym h)) in
      let kept : count_of (numbers ++ number ∷ []) k ≡ count_of numbers k + 0 = sum_by_push (one_if k) numbers number ∙ rw other in
      get_or-set_other counts number k (get_or counts number 0 + 1) 0 away ∙ omega (arith, f k, kept)
]

-- what a vector holds after a write of all its elements
pub refilled : {A : Type 0} (n : ℕ) (new old : List A) → length new ≡ n → take n (new ++ old) ≡ new
refilled n new old long = take-append-le n new old (omega (arith, long)) ∙ take_all n new (omega (arith, long))

-- ---- the lists of one row more

pub map_range_same : {X : Type 0} (f h : ℕ → X) (n : ℕ) (d : X) → ((k : ℕ) → k < n → f k ≡ h k) → map f (range_with_len 0 n) ≡ map h (range_with_len 0 n)
map_range_same f h n d e = fill_by_all h (map f (range_with_len 0 n)) n d (length-map-range_with_len f 0 n) (λ k lt. get_or-map-range_with_len f 0 n k k d lt (omega arith) ∙ e k lt)

rows_none : (rows numbers : List ℕ) (k : ℕ) → All (λ number. number < k) numbers → rows_of rows numbers k ≡ []
unfolding rows_of
rows_none [] numbers k below = refl
rows_none (r ∷ rs) [] k below = refl
rows_none (r ∷ rs) (m ∷ ms) k below =
    let head : m < k = All-head (λ number. number < k) m ms below in
    let other : eqb m k ≡ false = ne_eqb m k (λ e. omega (arith, e, head)) in
    rw (other, rows_none rs ms k (All-tail (λ number. number < k) m ms below))

module _ (rows numbers : List ℕ) (each : length numbers ≡ length rows) (row : ℕ) where
  -- a row of a known group
  pub lists_old : (number groups : ℕ) → number < groups →
      lists_by (rows ++ row ∷ []) (numbers ++ number ∷ []) groups ≡ set (lists_by rows numbers groups) number (get_or (lists_by rows numbers groups) number [] ++ row ∷ [])
  lists_old number groups inside =
      let lists = lists_by rows numbers groups in
      let list = get_or lists number [] ++ row ∷ [] in
      let more = rows_of (rows ++ row ∷ []) (numbers ++ number ∷ []) in
      let long : length lists ≡ groups = length-map-range_with_len (rows_of rows numbers) 0 groups in
      let at : (k : ℕ) → k < groups → get_or lists k [] ≡ rows_of rows numbers k = λ k lt. get_or-map-range_with_len (rows_of rows numbers) 0 groups k k [] lt (omega arith) in
      sym (fill_by_all more (set lists number list) groups [] (length-set lists number list ∙ long) (λ k lt. elim (cases_eq k number) [
        | inl here ↦
            let within : number < length lists = omega (arith, long, inside) in
            let last : more number ≡ rows_of rows numbers number ++ row ∷ [] = rw (rows_push rows numbers row number number each, eq-eqb number number refl) in
            rw (here, get_or-set_same lists number list [] within, at number inside, last)
        | inr away ↦
            let other : eqb number k ≡ false = ne_eqb number k (λ h. away (sym h)) in
            let kept : more k ≡ rows_of rows numbers k = rw (rows_push rows numbers row number k each, other, append-nil) in
            get_or-set_other lists number k list [] away ∙ at k lt ∙ sym kept
      ]))

  -- the first row of a new group
  pub lists_new : (groups : ℕ) → All (λ number. number < groups) numbers → lists_by (rows ++ row ∷ []) (numbers ++ groups ∷ []) (groups + 1) ≡ lists_by rows numbers groups ++ (row ∷ []) ∷ []
  lists_new groups below =
      let more = rows_of (rows ++ row ∷ []) (numbers ++ groups ∷ []) in
      let kept : (k : ℕ) → k < groups → more k ≡ rows_of rows numbers k = λ k lt.
      let other : eqb groups k ≡ false = ne_eqb groups k (λ e. omega (arith, e, lt)) in rw (rows_push rows numbers row groups k each, other, append-nil) in
      let own : more groups ≡ row ∷ [] = rw (rows_push rows numbers row groups groups each, rows_none rows numbers groups below, eq-eqb groups groups refl) in
      map-range_with_len_more more 0 groups groups (omega arith)
      ∙ ap (λ lists. lists ++ more groups ∷ []) (map_range_same more (rows_of rows numbers) groups [] kept)
      ∙ ap (λ list. lists_by rows numbers groups ++ list ∷ []) own

-- ---- numbers that a function gives

pub rows_by : (f : ℕ → ℕ) (rows : List ℕ) (k : ℕ) → rows_of rows (map f rows) k ≡ filter (λ row. eqb (f row) k) rows
unfolding rows_of
rows_by f [] k = refl
rows_by f (r ∷ rs) k = elim (cases_Bool (eqb (f r) k)) [ inl e ↦ rw (e, rows_by f rs k) | inr e ↦ rw (e, rows_by f rs k) ]

-- all rows, read by their places
pub all_at : (n place : ℕ) → place < length (rows_below n) → (place < n) × (place ≡ get_or (rows_below n) place 0)
all_at n place lt =
    let low : place < n = omega (arith, lt, length-range_with_len 0 n) in
    let same : place ≡ 0 + place = omega arith in
    (low, same ∙ sym (get_or-range_with_len 0 n place 0 low))
