-- Rows that go into the lists of their groups bucket by bucket.
use Rattle.std.proofs.Common.{◌≡◌, ℕ, ◌+◌, ◌<◌, ◌≤◌, false, cond, inl, inr, eqb, ltb, List, [], ◌∷◌, ◌++◌, length, get_or, set, take, map, refl, sym, subst, ◌∙◌, ap, arith}
use Rattle.std.specs.List.{All, AllZip}
use Rattle.std.proofs.lemmas.Bool.{cases_Bool, cases_eq, eq-eqb, le-ltb, lt-ltb, ltb-false, ltb-true, ne_eqb}
use Rattle.std.proofs.lemmas.List.{take_all, take_more, length-map, length-set, length-take, map-append, append-nil, get_or-map, get_or-set_same, get_or-set_other}
use Rattle.std.proofs.lemmas.List.FromFn.{fill_by_all, get_or-map-range_with_len}
use Rattle.std.proofs.lemmas.List.Elements.{All-cons, All-head, All-tail}
use Rattle.smallvec.specs.SmallVec.{SmallVec}
use Rattle.gb_groups.specs.Buckets.{AreBuckets, IsBucket, bucket_of}
use Rattle.gb_groups.specs.declared.row_buckets.RowBucket.{RowBucket}
use Rattle.gb_groups.specs.Groups.{lists_of}
use Rattle.gb_groups.specs.Numbers.{rows_of, lists_by, count_of, counts_by, HaveMore, HaveRoom, IsRoomFor}
use Rattle.gb_groups.proofs.NumberLemmas.{all_zip_at, length-rows_of, rows_push}

-- of the rows of a bucket, those of a group: all of its rows, or none
pub in_bucket : (f : ℕ → ℕ) (rows numbers : List ℕ) (b k : ℕ) → rows_of (rows_of rows (map f numbers) b) (rows_of numbers (map f numbers) b) k ≡ cond (eqb (f k) b) (rows_of rows numbers k) []
unfolding rows_of
in_bucket f [] numbers b k = elim (cases_Bool (eqb (f k) b)) [ inl e ↦ rw e refl | inr e ↦ rw e refl ]
in_bucket f (r ∷ rs) [] b k = elim (cases_Bool (eqb (f k) b)) [ inl e ↦ rw e refl | inr e ↦ rw e refl ]
in_bucket f (r ∷ rs) (m ∷ ms) b k =
    let rest = in_bucket f rs ms b k in
    elim (cases_eq m k) [
      | inl same ↦ elim (cases_Bool (eqb (f k) b)) [
        | inl e ↦ rw (same, e, eq-eqb k k refl) (ap (λ list. r ∷ list) (rest ∙ rw e refl))
        | inr e ↦ rw (same, e) (rest ∙ rw e refl)
      ]
      | inr other ↦ elim (cases_Bool (eqb (f m) b)) [
        | inl e ↦ rw (e, ne_eqb m k other) rest
        | inr e ↦ rw (e, ne_eqb m k other) rest
      ]
    ]

-- what holds of all rows holds of those with a number
pub some_all : (P : ℕ → Type 0) (rows numbers : List ℕ) (k : ℕ) → All P rows → All P (rows_of rows numbers k)
unfolding rows_of
some_all P [] numbers k all = all
some_all P (r ∷ rs) [] k all = λ i d lt. absurd (omega (arith, lt))
some_all P (r ∷ rs) (m ∷ ms) k all =
    let rest = some_all P rs ms k (All-tail P r rs all) in
    elim (cases_Bool (eqb m k)) [
      | inl e ↦ rw e (All-cons P r (rows_of rs ms k) (All-head P r rs all) rest)
      | inr e ↦ rw e rest
    ]

-- ---- one row more in its bucket

tagged_more : (f : ℕ → ℕ) (xs numbers : List ℕ) → length numbers ≡ length xs → (n number x : ℕ) → n < length numbers → get_or numbers n 0 ≡ number → get_or xs n 0 ≡ x → (k : ℕ)
    → rows_of (take (n + 1) xs) (map f (take (n + 1) numbers)) k ≡ rows_of (take n xs) (map f (take n numbers)) k ++ cond (eqb (f number) k) (x ∷ []) []
tagged_more f xs numbers each n number x lt is x_is k =
    let inside : n < length xs = omega (arith, lt, each) in
    let long : length (map f (take n numbers)) ≡ length (take n xs) = omega (arith, length-map (take n numbers) f, length-take n numbers, length-take n xs, each) in
    rw (take_more numbers n 0 lt, is, take_more xs n 0 inside, x_is, map-append f (take n numbers) (number ∷ []), rows_push (take n xs) (map f (take n numbers)) x (f number) k long) refl

module _ (rows numbers : List ℕ) (each : length numbers ≡ length rows) (n number row : ℕ) (lt : n < length numbers) (is : get_or numbers n 0 ≡ number) (row_is : get_or rows n 0 ≡ row) where
  pub dealt_more : (buckets : List RowBucket) (e new : RowBucket) → bucket_of number < length buckets → new.rows.items ≡ (get_or buckets (bucket_of number) e).rows.items ++ row ∷ []
      → new.numbers.items ≡ (get_or buckets (bucket_of number) e).numbers.items ++ number ∷ [] → AreBuckets (take n rows) (take n numbers) buckets → AreBuckets (take (n + 1) rows) (take (n + 1) numbers) (set buckets (bucket_of number) new)
  dealt_more buckets e new inside rows_are numbers_are dealt k d in_set =
      let own = tagged_more bucket_of rows numbers each n number row lt is row_is k in
      let own_number = tagged_more bucket_of numbers numbers refl n number number lt is is k in
      elim (cases_eq k (bucket_of number)) [
        | inl here ↦
            let at = dealt (bucket_of number) e inside in
            let same = eq-eqb (bucket_of number) (bucket_of number) refl in
            rw (here, get_or-set_same buckets (bucket_of number) new d inside) (record {
              its_rows = rows_are ∙ ap (λ list. list ++ row ∷ []) at.its_rows ∙ sym (tagged_more bucket_of rows numbers each n number row lt is row_is (bucket_of number) ∙ rw same refl);
              its_numbers = numbers_are ∙ ap (λ list. list ++ number ∷ []) at.its_numbers ∙ sym (tagged_more bucket_of numbers numbers refl n number number lt is is (bucket_of number) ∙ rw same refl);
            })
        | inr away ↦
            let there = dealt k d (omega (arith, in_set, length-set buckets (bucket_of number) new)) in
            let other : eqb (bucket_of number) k ≡ false = ne_eqb (bucket_of number) k (λ h. away (sym h)) in
            rw (get_or-set_other buckets (bucket_of number) k new d away) (record {
              its_rows = there.its_rows ∙ sym (own ∙ rw other (append-nil _));
              its_numbers = there.its_numbers ∙ sym (own_number ∙ rw other (append-nil _));
            })
      ]

pub dealt_all : (rows numbers : List ℕ) (n : ℕ) (buckets : List RowBucket) → length numbers ≡ length rows → length numbers ≤ n → AreBuckets (take n rows) (take n numbers) buckets → AreBuckets rows numbers buckets
dealt_all rows numbers n buckets each all dealt =
    let all_rows : length rows ≤ n = omega (arith, each, all) in
    rw (take_all n numbers all, take_all n rows all_rows) at dealt

-- a bucket that is read
pub bucket_at : (rows numbers : List ℕ) (buckets read : List RowBucket) (j : ℕ) (item : RowBucket) → AreBuckets rows numbers buckets → read ≡ buckets → j < length read → item ≡ get_or read j item → IsBucket rows numbers j item
bucket_at rows numbers buckets read j item are same lt is =
    let at = are j item (omega (arith, lt, ap length same)) in
    subst (λ (b : RowBucket). IsBucket rows numbers j b) (sym (is ∙ ap (λ (bs : List RowBucket). get_or bs j item) same)) at

-- buckets with no rows
pub record IsEmptyBucket (bucket : RowBucket) : Type 0 where
  pub no_rows : bucket.rows.items ≡ []
  pub no_numbers : bucket.numbers.items ≡ []

pub all_empty : (buckets : List RowBucket) → All IsEmptyBucket buckets → AreBuckets [] [] buckets
unfolding rows_of
all_empty buckets all = λ b d lt. record { its_rows = (all b d lt).no_rows; its_numbers = (all b d lt).no_numbers }

above : (a j : ℕ) → (a ≡ j → ⊥) → j ≤ a → j + 1 ≤ a
above a j away le = elim (cases_eq a j) [ inl here ↦ absurd (away here) | inr other ↦ omega (arith, le, other) ]

-- ---- the lists, once the rows of the first j buckets are there

pub record HasUpTo (rows numbers : List ℕ) (j k : ℕ) (list : SmallVec ℕ) : Type 0 where
  pub so_far : list.items ≡ cond (ltb (bucket_of k) j) (rows_of rows numbers k) []
  pub room : count_of numbers k ≤ list.capacity

abbrev pub HaveUpTo : List ℕ → List ℕ → ℕ → List (SmallVec ℕ) → Type 0
HaveUpTo rows numbers j lists = (k : ℕ) (d : SmallVec ℕ) → k < length lists → HasUpTo rows numbers j k (get_or lists k d)

pub room_each : (numbers : List ℕ) (lists : List (SmallVec ℕ)) → AllZip IsRoomFor (counts_by numbers (length lists)) lists → (k : ℕ) (d : SmallVec ℕ) → k < length lists
    → ((get_or lists k d).items ≡ []) × (count_of numbers k ≤ (get_or lists k d).capacity)
room_each numbers lists h k d lt =
    let at = all_zip_at IsRoomFor (counts_by numbers (length lists)) lists h k 0 d lt in
    let count : get_or (counts_by numbers (length lists)) k 0 ≡ count_of numbers k = get_or-map-range_with_len (count_of numbers) 0 (length lists) k k 0 lt (omega arith) in
    (at.empty, rw count at at.room)

pub upto_none : (rows numbers : List ℕ) (lists : List (SmallVec ℕ)) → AllZip IsRoomFor (counts_by numbers (length lists)) lists → HaveUpTo rows numbers 0 lists
upto_none rows numbers lists h k d lt =
    let at = room_each numbers lists h k d lt in
    let none : ltb (bucket_of k) 0 ≡ false = le-ltb (bucket_of k) 0 (omega arith) in
    record { so_far = rw none at.0; room = at.1 }

module _ (rows numbers : List ℕ) (each : length numbers ≡ length rows) (j : ℕ) (bucket : RowBucket) (is : IsBucket rows numbers j bucket) where
  pub bucket_each : length bucket.numbers.items ≡ length bucket.rows.items
  bucket_each =
      let tags = map bucket_of numbers in
      let long : length tags ≡ length numbers = length-map numbers bucket_of in
      let rows_are = ap length is.its_rows ∙ length-rows_of rows tags j (omega (arith, long, each)) in
      let numbers_are = ap length is.its_numbers ∙ length-rows_of numbers tags j long in
      omega (arith, rows_are, numbers_are)

  pub bucket_known : (P : ℕ → Type 0) → All P numbers → All P bucket.numbers.items
  bucket_known P all = rw is.its_numbers (some_all P numbers (map bucket_of numbers) j all)

  own : (k : ℕ) → rows_of bucket.rows.items bucket.numbers.items k ≡ cond (eqb (bucket_of k) j) (rows_of rows numbers k) []
  own k = rw (is.its_rows, is.its_numbers) (in_bucket bucket_of rows numbers j k)

  before : (k : ℕ) → cond (ltb (bucket_of k) j) (rows_of rows numbers k) [] ++ cond (eqb (bucket_of k) j) (rows_of rows numbers k) [] ≡ cond (ltb (bucket_of k) (j + 1)) (rows_of rows numbers k) []
  before k = elim (cases_eq (bucket_of k) j) [
    | inl here ↦ rw (here, eq-eqb j j refl, le-ltb j j (omega arith), lt-ltb j (j + 1) (omega arith)) refl
    | inr away ↦ elim (cases_Bool (ltb (bucket_of k) j)) [
      | inl low ↦ rw (low, ne_eqb (bucket_of k) j away, lt-ltb (bucket_of k) (j + 1) (omega (arith, ltb-true (bucket_of k) j low))) (append-nil _)
      | inr high ↦ rw (high, ne_eqb (bucket_of k) j away, le-ltb (bucket_of k) (j + 1) (above (bucket_of k) j away (ltb-false (bucket_of k) j high))) refl
    ]
  ]

  pub bucket_room : (lists : List (SmallVec ℕ)) → HaveUpTo rows numbers j lists → HaveRoom bucket.numbers.items lists
  bucket_room lists upto k d lt =
      let at = upto k d lt in
      let count : length (rows_of bucket.rows.items bucket.numbers.items k) ≡ count_of bucket.numbers.items k = length-rows_of bucket.rows.items bucket.numbers.items k bucket_each in
      let all : length (rows_of rows numbers k) ≡ count_of numbers k = length-rows_of rows numbers k each in
      let both : length (get_or lists k d).items + length (rows_of bucket.rows.items bucket.numbers.items k) ≤ length (rows_of rows numbers k) =
      rw (at.so_far, own k) (both_fit k) in
      omega (arith, at.room, count, all, both)
    where
      both_fit : (k : ℕ) → length (cond (ltb (bucket_of k) j) (rows_of rows numbers k) []) + length (cond (eqb (bucket_of k) j) (rows_of rows numbers k) []) ≤ length (rows_of rows numbers k)
      both_fit k = elim (cases_eq (bucket_of k) j) [
        | inl here ↦ rw (here, eq-eqb j j refl, le-ltb j j (omega arith)) (omega arith)
        | inr away ↦ elim (cases_Bool (ltb (bucket_of k) j)) [
          | inl low ↦ rw (low, ne_eqb (bucket_of k) j away) (omega arith)
          | inr high ↦ rw (high, ne_eqb (bucket_of k) j away) (omega arith)
        ]
      ]

  pub upto_more : (lists after : List (SmallVec ℕ)) → HaveUpTo rows numbers j lists → HaveMore bucket.rows.items bucket.numbers.items lists after → HaveUpTo rows numbers (j + 1) after
  upto_more lists after upto have k d lt =
      let inside : k < length lists = omega (arith, lt, have.as_many) in
      let at = upto k d inside in
      let more = have.each k d inside in
      record {
        so_far = more.longer ∙ ap (λ list. list ++ rows_of bucket.rows.items bucket.numbers.items k) at.so_far ∙ ap (λ list. cond (ltb (bucket_of k) j) (rows_of rows numbers k) [] ++ list) (own k) ∙ before k;
        room = rw more.room at.room;
      }

pub upto_all : (rows numbers : List ℕ) (j : ℕ) (lists : List (SmallVec ℕ)) → bucket_of (length lists) < j → HaveUpTo rows numbers j lists → lists_of lists ≡ lists_by rows numbers (length lists)
upto_all rows numbers j lists all upto =
    let none : SmallVec ℕ = record { items = []; capacity = 0 } in
    fill_by_all (rows_of rows numbers) (lists_of lists) (length lists) [] (length-map lists (λ (list : SmallVec ℕ). list.items)) (λ k lt.
    get_or-map (λ (list : SmallVec ℕ). list.items) lists k none [] lt ∙ (upto k none lt).so_far ∙ rw (lt-ltb (bucket_of k) j (omega (arith, lt, all))) refl)

-- the rows behind lists that were empty
pub more_of_none : (rows numbers : List ℕ) (lists after : List (SmallVec ℕ)) → AllZip IsRoomFor (counts_by numbers (length lists)) lists → HaveMore rows numbers lists after → lists_of after ≡ lists_by rows numbers (length lists)
more_of_none rows numbers lists after h have =
    let none : SmallVec ℕ = record { items = []; capacity = 0 } in
    fill_by_all (rows_of rows numbers) (lists_of after) (length lists) [] (length-map after (λ (list : SmallVec ℕ). list.items) ∙ have.as_many) (λ k lt.
    get_or-map (λ (list : SmallVec ℕ). list.items) after k none [] (omega (arith, lt, have.as_many)) ∙ (have.each k none lt).longer ∙ ap (λ list. list ++ rows_of rows numbers k) (room_each numbers lists h k none lt).0)

pub all_roomy : (numbers : List ℕ) (lists : List (SmallVec ℕ)) → AllZip IsRoomFor (counts_by numbers (length lists)) lists → HaveRoom numbers lists
all_roomy numbers lists h k d lt =
    let at = room_each numbers lists h k d lt in
    omega (arith, ap length at.0, at.1)
