-- Words of rows, made of their numbers by several keys.
use Rattle.std.proofs.Common.{◌≡◌, ◌∙◌, ℕ, ◌+◌, ◌*◌, ◌/◌, ◌%◌, ◌-◌, ◌^◌, ◌<◌, ◌≤◌, ◌==◌, All, Bool, true, false, ◌&&◌, inl, inr, List, [], ◌∷◌, ◌++◌, length, get_or, map, pos, ap, ap₂, append-nil, arith, eq-eqb, refl, replicate, drop, subst, sym, suc, take, zero, IfOk, Ok, Option, Result, Some}
use Rattle.std.specs.Borrow.{Bor}
use Rattle.std.specs.Cmp.{IsEquivalence, on_equiv}
use Rattle.std.specs.List.{AllByRecursion}
use Rattle.std.specs.List.Sorted.{IsStrictlyIncreasing}
use Rattle.std.proofs.lemmas.Bool.{and_parts, cases_Bool, eqb-false, eqb-true}
use Rattle.std.proofs.lemmas.List.{append_assoc, drop-map, drop-take, get_or-map, get_or-replicate, length-map, length-replicate, take-append-drop, take-map, take_all, take_more}
use Rattle.std.proofs.lemmas.List.Elements.{All-drop, All-from_recursion, All-take}
use Rattle.std.proofs.lemmas.List.FromFn.{get_or-range_with_len, length-range_with_len}
use Rattle.std.proofs.lemmas.Nat.{div-mul-add, mod-mul-add, mul-le}
use Rattle.gb_defs.specs.Classes.{agree_by, rows_below, same_slot}
use Rattle.gb_defs.specs.Column.{ColumnValue, Frame, all_have_length}
use Rattle.gb_defs.specs.Rows.{same_slot_at}
use Rattle.gb_defs.specs.Slot.{Nil, Num, Slot, slot_at, slot_eq}
use Rattle.gb_defs.proofs.SlotLemmas.{Decides-slot_eq, slot_eq_equiv}
use Rattle.gb_hash.proofs.ShortLemmas.{same_test}
use Rattle.gb_rows.specs.Lent.{keys_in}
use Rattle.gb_series.specs.Series.{value_of}
use Rattle.gb_series.specs.declared.series.Series.{Series}
use Rattle.gb_paths.specs.Keys.{HasValues, StandFor, rows_of_keys}
use Rattle.gb_paths.specs.Numbering.{AreNumbersAmong, AreNumbersOf, AreNumbersUnder, both_agree, number_in}
use Rattle.gb_paths.specs.Packed.{ArePacked, HaveDigits, IsKeyOf, IsNumberedBy, IsPacked, NumbersKey, words_in}
use Rattle.gb_paths.specs.Words.{AreBelow, same_word}
use Rattle.gb_paths.specs.Tuples.{slots_of}
use Rattle.gb_base.specs.declared.error.PolarsError.{PolarsError}
use Rattle.gb_paths.specs.declared.keys.Keys.{Keys}
use Rattle.gb_paths.specs.declared.number_several.PackedRows.{PackedRows}
use Rattle.gb_paths.specs.declared.row_numbers.RowNumbers.{RowNumbers}
use Rattle.gb_paths.proofs.LeaderLemmas.{numbers_alike}
use Rattle.gb_paths.proofs.NumberingLemmas.{one_number}
use Rattle.gb_paths.proofs.PartLemmas.{range_rises}

-- ---- rows that agree by several keys

and_true : (p : Bool) → (p && true) ≡ p
and_true true = refl
and_true false = refl

and_both : (p q r : Bool) → ((p && q) && r) ≡ (p && (q && r))
and_both true q r = refl
and_both false q r = refl

-- what holds of both is an equivalence where each is
both_equiv : (a b : ℕ → ℕ → Bool) → IsEquivalence a → IsEquivalence b → IsEquivalence (both_agree a b)
both_equiv a b ea eb = record {
  refl = λ x. ap₂ (λ (p q : Bool). p && q) (ea.refl x) (eb.refl x);
  symm = λ x y. ap₂ (λ (p q : Bool). p && q) (ea.symm x y) (eb.symm x y);
  congr = λ x y z e. let parts = and_parts (a x y) (b x y) e in ap₂ (λ (p q : Bool). p && q) (ea.congr x y z parts.0) (eb.congr x y z parts.1);
}

pub slot_equiv : (slots : List Slot) → IsEquivalence (same_slot slots)
slot_equiv slots = on_equiv (slot_at slots) slot_eq_equiv

pub keys_equiv : (keys : Frame) → IsEquivalence (agree_by (slots_of keys))
keys_equiv [] = record { refl = λ x. refl; symm = λ x y. refl; congr = λ x y z e. refl }
keys_equiv (key ∷ keys) = both_equiv (same_slot key.slots) (agree_by (slots_of keys)) (slot_equiv key.slots) (keys_equiv keys)

-- one key more
pub agree_more : (keys : Frame) (key : ColumnValue) → both_agree (agree_by (slots_of keys)) (same_slot key.slots) ≡ agree_by (slots_of (keys ++ key ∷ []))
agree_more keys key k i j = each keys i j k
  where
    each : (keys : Frame) (i j : ℕ) → (agree_by (slots_of keys) i j && same_slot key.slots i j) ≡ agree_by (slots_of (keys ++ key ∷ [])) i j
    each [] i j = sym (and_true (same_slot key.slots i j))
    each (x ∷ xs) i j = and_both (same_slot x.slots i j) (agree_by (slots_of xs) i j) (same_slot key.slots i j) ∙ ap (λ b. same_slot x.slots i j && b) (each xs i j)

-- ---- keys among others

-- what holds of all of them holds of one
pub key_has : (P : ColumnValue → Type 0) (keys : List (Bor Series)) (at : ℕ) (key : Bor Series) → at < length keys → key ≡ get_or keys at key → All P (keys_in keys) → P (value_of key.now)
key_has P keys at key lt is all =
    subst P (get_or-map (λ key. value_of key.now) keys at key (value_of key.now) lt ∙ ap (λ key. value_of key.now) (sym is))
    (all at (value_of key.now) (rw (length-map keys (λ key. value_of key.now)) lt))

pub some_key : (keys : List (Bor Series)) (at : ℕ) → at < length keys → Bor Series
some_key [] at lt = absurd (omega (arith, lt))
some_key (key ∷ keys) at lt = key

-- columns of one length that have values
pub all_keyed : (n : ℕ) (keys : Frame) → all_have_length n keys ≡ true → All HasValues keys → All (IsKeyOf n) keys
all_keyed n keys aligned valued k d lt = record {
  valued = valued k d lt;
  long = All-from_recursion (λ key. length key.slots ≡ n) keys (each keys aligned) k d lt;
}
  where
    each : (keys : Frame) → all_have_length n keys ≡ true → AllByRecursion (λ key. length key.slots ≡ n) keys
    each [] aligned = tt
    each (key ∷ keys) aligned = elim (cases_Bool (length key.slots == n)) [
      | inl e ↦ (eqb-true (length key.slots) n e, each keys (rw e at aligned))
      | inr short ↦ cc (rw short at aligned)
    ]

-- what holds of all of them holds of those from one to another
pub part_has : (P : ColumnValue → Type 0) (keys : List (Bor Series)) (from count : ℕ) → All P (keys_in keys) → All P (keys_in (take count (drop from keys)))
part_has P keys from count all k d lt =
    let f : Bor Series → ColumnValue = λ key. value_of key.now in
    let inside : k < length (take count (drop from (keys_in keys))) = subst (λ (ks : Frame). k < length ks) (sym (take-map f count (drop from keys)) ∙ ap (take count) (sym (drop-map f from keys))) lt in
    subst (λ (ks : Frame). P (get_or ks k d)) (ap (take count) (drop-map f from keys) ∙ take-map f count (drop from keys))
    (All-take P count (drop from (keys_in keys)) (All-drop P from (keys_in keys) all) k d inside)

take_twice : (from to : ℕ) (xs : Frame) → from ≤ to → take from (take to xs) ≡ take from xs
take_twice zero to xs le = refl
take_twice (suc from) zero xs le = absurd (omega (arith, le))
take_twice (suc from) (suc to) [] le = refl
take_twice (suc from) (suc to) (x ∷ xs) le = ap (λ ys. x ∷ ys) (take_twice from to xs (omega (arith, le)))

-- those before some and these are those up to their end
pub part_behind : (keys : List (Bor Series)) (from to : ℕ) → from ≤ to → take from (keys_in keys) ++ keys_in (take (to - from) (drop from keys)) ≡ take to (keys_in keys)
part_behind keys from to le =
    let f : Bor Series → ColumnValue = λ key. value_of key.now in
    let all = keys_in keys in
    let count : from + (to - from) ≡ to = omega (arith, le) in
    let back : keys_in (take (to - from) (drop from keys)) ≡ drop from (take to all) =
    sym (take-map f (to - from) (drop from keys)) ∙ ap (take (to - from)) (sym (drop-map f from keys)) ∙ sym (drop-take from (to - from) all) ∙ ap (λ n. drop from (take n all)) count in
    ap₂ (λ (a b : Frame). a ++ b) (sym (take_twice from to all le)) back ∙ take-append-drop from (take to all)

-- numbers by the form of a column are numbers by its slots
pub form_numbered : (seed : ℕ) (column : ColumnValue) (keys : Keys) → StandFor column keys → (numbers : RowNumbers) → AreNumbersAmong (rows_of_keys seed keys) (rows_below (rows_of_keys seed keys).count) numbers
    → AreNumbersUnder (same_slot column.slots) (rows_below (length column.slots)) numbers
form_numbered seed column keys stand numbers are =
    let n = length column.slots in
    let rows = stand.rows seed in
    let many : (rows_of_keys seed keys).count ≡ n = rows.many in
    numbers_alike (same_slot_at (rows_of_keys seed keys).slot) (same_slot column.slots) n (λ i j low high. sym (rows.agree i j low high)) numbers.first.items numbers.of_rows.items
    (subst (λ m. AreNumbersUnder (same_slot_at (rows_of_keys seed keys).slot) (rows_below m) numbers) many are)

-- ---- words with digits

-- two numbers as the digits of one word, the second of them one of a base: words are one where both numbers are
one_word : (base x y z w : ℕ) → y < base → w < base → (x * base + y == z * base + w) ≡ ((x == z) && (y == w))
one_word base x y z w low low' = elim (cases_Bool (x == z)) [
  | inl e ↦ elim (cases_Bool (y == w)) [
    | inl f ↦ let s : x ≡ z = eqb-true _ _ e in let t : y ≡ w = eqb-true _ _ f in rw (e, f) (eq-eqb _ _ (ap₂ (λ (p q : ℕ). p * base + q) s t))
    | inr f ↦ rw (e, f) (apart (λ is. eqb-false _ _ f (sym (mod-mul-add x base y low) ∙ ap (λ n. n % base) is ∙ mod-mul-add z base w low')))
  ]
  | inr e ↦ rw e (apart (λ is. eqb-false _ _ e (sym (div-mul-add x base y low) ∙ ap (λ n. n / base) is ∙ div-mul-add z base w low')))
]
  where
    apart : {p q : ℕ} → (p ≡ q → ⊥) → (p == q) ≡ false
    apart {p} {q} no' = elim (cases_Bool (p == q)) [
      | inl e ↦ absurd (no' (eqb-true _ _ e))
      | inr e ↦ e
    ]

-- ---- numbers by words

num_apart : (p q : ℕ) → slot_eq (Num (pos p)) (Num (pos q)) ≡ (p == q)
num_apart p q = same_test _ _ (Decides-slot_eq (Num (pos p)) (Num (pos q))) ((λ e. eqb-true p q e), (λ e. eq-eqb p q e)) (λ (e : Num (pos p) ≡ Num (pos q)). cc) (λ (e : p ≡ q). ap (λ n. Num (pos n)) e)

-- rows of words
module _ (words : List ℕ) where
  abbrev word_slots : List Slot
  word_slots = map (λ w. Num (pos w)) words

  word_slot : (i : ℕ) → i < length words → slot_at word_slots i ≡ Num (pos (get_or words i 0))
  word_slot i lt = get_or-map (λ w. Num (pos w)) words i 0 Nil lt

  same_words : (i j : ℕ) → i < length words → j < length words → same_slot_at (slot_at word_slots) i j ≡ same_word words i j
  same_words i j lt lt' = ap₂ slot_eq (word_slot i lt) (word_slot j lt') ∙ num_apart _ _

  -- numbers by rows of words are numbers by the words
  pub words_numbered : (first numbers : List ℕ) → AreNumbersOf (same_slot_at (slot_at word_slots)) (rows_below (length word_slots)) first numbers → AreNumbersOf (same_word words) (rows_below (length words)) first numbers
  words_numbered first numbers are =
      numbers_alike (same_slot_at (slot_at word_slots)) (same_word words) (length words) same_words first numbers
      (subst (λ m. AreNumbersOf (same_slot_at (slot_at word_slots)) (rows_below m) first numbers) (length-map words (λ w. Num (pos w))) are)

-- ---- packed rows

-- a word below a bound, with a digit behind it, is below the bound of both
pub word_room : (word bound base : ℕ) → word < bound → word * base + base ≤ bound * base
word_room word bound base lt =
    let le = mul-le (word + 1) base bound base (omega (arith, lt)) (omega arith) in omega (arith, le)

-- words with digits are below the product of the bounds
pub digits_low : (words digits more : List ℕ) (bound base : ℕ) → AreBelow bound words → AreBelow base digits → length digits ≡ length words → HaveDigits base words digits more → AreBelow (bound * base) more
digits_low words digits more bound base low small long have k lt =
    let inside : k < length words = omega (arith, lt, have.many) in
    let digit = small k (omega (arith, inside, long)) in
    let room = word_room (get_or words k 0) bound base (low k inside) in
    omega (arith, have.each k inside, digit, room)

module _ (agree : ℕ → ℕ → Bool) (equiv : IsEquivalence agree) (rows first numbers : List ℕ) (up : IsStrictlyIncreasing rows) (are : AreNumbersOf agree rows first numbers) where
  pub numbers_many : length numbers ≡ length rows
  numbers_many = ap length are.numbers_are ∙ length-map rows (number_in agree first)

  -- the numbers by one key are words
  pub packed_first : AreBelow (length first) numbers → ArePacked agree rows numbers (length first)
  packed_first low = record {
    many = numbers_many;
    low = low;
    alike = one_number agree equiv rows first numbers up are;
  }

  -- and so are words with these numbers behind them
  pub packed_more : (before : ℕ → ℕ → Bool) (words more : List ℕ) (bound : ℕ) → ArePacked before rows words bound → AreBelow (length first) numbers → HaveDigits (length first) words numbers more
      → ArePacked (both_agree before agree) rows more (bound * length first)
  packed_more before words more bound packed low have = record {
    many = have.many ∙ packed.many;
    low = digits_low words numbers more bound (length first) packed.low low (numbers_many ∙ sym packed.many) have;
    alike = λ i j lt lt'.
        rw (have.each i (omega (arith, lt, packed.many)), have.each j (omega (arith, lt', packed.many)))
        (one_word (length first) _ _ _ _ (low i (omega (arith, lt, numbers_many))) (low j (omega (arith, lt', numbers_many)))
        ∙ ap₂ (λ (p q : Bool). p && q) (packed.alike i j lt lt') (one_number agree equiv rows first numbers up are i j lt lt'));
  }

row_below : (n i : ℕ) → i < n → get_or (rows_below n) i 0 ≡ i
row_below n i lt = let same : 0 + i ≡ i = omega arith in get_or-range_with_len 0 n i 0 lt ∙ same

-- numbers of places by words are those of the rows, of which there are as many
pub packed_numbered : (agree : ℕ → ℕ → Bool) (n : ℕ) (words first numbers : List ℕ) (bound : ℕ) → ArePacked agree (rows_below n) words bound
    → AreNumbersOf (same_word words) (rows_below (length words)) first numbers → AreNumbersOf agree (rows_below n) first numbers
packed_numbered agree n words first numbers bound packed are =
    let long = length-range_with_len 0 n in
    let many : length words ≡ n = packed.many ∙ long in
    numbers_alike (same_word words) agree n (λ i j lt lt'.
    packed.alike i j (omega (arith, lt, long)) (omega (arith, lt', long))
    ∙ ap₂ agree (row_below n i lt) (row_below n j lt')) first numbers
    (subst (λ m. AreNumbersOf (same_word words) (rows_below m) first numbers) many are)

-- ---- a round of keys

-- the words of rows with their numbers by the first of some keys, and what was found of the others
pub record IsPackedTo (keys : List (Bor Series)) (start packed : PackedRows) (left : List (Result (Option RowNumbers) PolarsError)) : Type 0 where
  pub at : ℕ
  pub within : at + length left ≡ length keys
  pub found : (k : ℕ) (d : Result (Option RowNumbers) PolarsError) → k < length left → NumbersKey keys (at + k) (get_or left k d)
  pub many : length (words_in packed.words) ≡ length (words_in start.words)
  pub low : AreBelow packed.below (words_in packed.words)
  pub so_far : (before : Frame) → IsPacked (agree_by (slots_of before)) (rows_below (length (words_in start.words))) start
      → IsPacked (agree_by (slots_of (before ++ take at (keys_in keys)))) (rows_below (length (words_in start.words))) packed

pub none_packed : (keys : List (Bor Series)) (start : PackedRows) (found : List (Result (Option RowNumbers) PolarsError)) → AreBelow start.below (words_in start.words) → length found ≡ length keys
    → ((k : ℕ) (d : Result (Option RowNumbers) PolarsError) → k < length found → NumbersKey keys k (get_or found k d)) → IsPackedTo keys start start found
none_packed keys start found low long each = record {
  at = 0;
  within = omega (arith, long);
  found = λ k d lt. let same : 0 + k ≡ k = omega arith in rw same (each k d lt);
  many = refl;
  low = low;
  so_far = λ before packed. rw (append-nil before) packed;
}

module _ (keys : List (Bor Series)) (start packed : PackedRows) (one : Result (Option RowNumbers) PolarsError) (left : List (Result (Option RowNumbers) PolarsError)) (s : IsPackedTo keys start packed (one ∷ left)) where
  pub next_is : NumbersKey keys s.at one
  next_is = let same : s.at + 0 ≡ s.at = omega arith in rw same at (s.found 0 one (omega arith))

  pub next_inside : s.at < length keys
  next_inside = let within = s.within in omega (arith, within)

  module _ (keyed : All (IsKeyOf (length (words_in start.words))) (keys_in keys)) (next : RowNumbers) (is : one ≡ Ok (Some next)) where
    abbrev pub d : Bor Series
    d = some_key keys s.at next_inside

    abbrev pub column : ColumnValue
    column = value_of (get_or keys s.at d).now

    is_key : IsKeyOf (length (words_in start.words)) column
    is_key =
        subst (IsKeyOf (length (words_in start.words))) (get_or-map (λ key. value_of key.now) keys s.at d column next_inside)
        (keyed s.at column (rw (length-map keys (λ key. value_of key.now)) next_inside))

    pub next_numbers : AreNumbersUnder (same_slot column.slots) (rows_below (length (words_in start.words))) next
    next_numbers = subst (λ n. AreNumbersUnder (same_slot column.slots) (rows_below n) next) is_key.long (subst (λ r. IfOk r (IsNumberedBy column)) is (next_is.ok d))

    pub next_many : length next.of_rows.items ≡ length (words_in packed.words)
    next_many =
        numbers_many (same_slot column.slots) (slot_equiv column.slots) (rows_below (length (words_in start.words))) next.first.items next.of_rows.items (range_rises 0 (length (words_in start.words))) next_numbers
        ∙ length-range_with_len 0 (length (words_in start.words)) ∙ sym s.many

    pub more_packed : (more : PackedRows) → length (words_in more.words) ≡ length (words_in packed.words) → AreBelow more.below (words_in more.words)
        → ((a b : ℕ → ℕ → Bool) → IsEquivalence a → IsEquivalence b → IsPacked a (rows_below (length (words_in packed.words))) packed → AreNumbersUnder b (rows_below (length (words_in packed.words))) next
        → IsPacked (both_agree a b) (rows_below (length (words_in packed.words))) more) → IsPackedTo keys start more left
    more_packed more many low by = record {
      at = s.at + 1;
      within = let within = s.within in omega (arith, within);
      found = λ k e lt. let same : s.at + 1 + k ≡ s.at + suc k = omega arith in rw same (s.found (suc k) e (omega (arith, lt)));
      many = many ∙ s.many;
      low = low;
      so_far = λ before packed_first.
          let n = length (words_in start.words) in
          let front = before ++ take s.at (keys_in keys) in
          let here = take_more (keys_in keys) s.at column (rw (length-map keys (λ key. value_of key.now)) next_inside) in
          let own : get_or (keys_in keys) s.at column ≡ column = get_or-map (λ key. value_of key.now) keys s.at d column next_inside in
          let all : front ++ column ∷ [] ≡ before ++ take (s.at + 1) (keys_in keys) = append_assoc before (take s.at (keys_in keys)) (column ∷ []) ∙ ap (λ ks. before ++ ks) (sym (here ∙ ap (λ c. take s.at (keys_in keys) ++ c ∷ []) own)) in
          let made = by (agree_by (slots_of front)) (same_slot column.slots) (keys_equiv front) (slot_equiv column.slots)
          (subst (λ m. IsPacked (agree_by (slots_of front)) (rows_below m) packed) (sym s.many) (s.so_far before packed_first))
          (subst (λ m. AreNumbersUnder (same_slot column.slots) (rows_below m) next) (sym s.many) next_numbers) in
          subst (λ (ks : Frame). IsPacked (agree_by (slots_of ks)) (rows_below n) more) all
          (subst (λ (a : ℕ → ℕ → Bool). IsPacked a (rows_below n) more) (agree_more front column)
          (subst (λ m. IsPacked (both_agree (agree_by (slots_of front)) (same_slot column.slots)) (rows_below m) more) s.many made));
    }

pub all_packed : (keys : List (Bor Series)) (start packed : PackedRows) (left : List (Result (Option RowNumbers) PolarsError)) → IsPackedTo keys start packed left → left ≡ []
    → (before : Frame) → IsPacked (agree_by (slots_of before)) (rows_below (length (words_in start.words))) start → IsPacked (agree_by (slots_of (before ++ keys_in keys))) (rows_below (length (words_in start.words))) packed
all_packed keys start packed left s none before first =
    let within = s.within in
    let all = take_all s.at (keys_in keys) (omega (arith, within, ap length none, length-map keys (λ key. value_of key.now))) in
    subst (λ (ks : Frame). IsPacked (agree_by (slots_of (before ++ ks))) (rows_below (length (words_in start.words))) packed) all (s.so_far before first)

-- ---- all keys

-- without keys all rows agree
pub packed_none : (n : ℕ) → ArePacked (agree_by []) (rows_below n) (replicate n 0) 1
packed_none n =
    let long = length-range_with_len 0 n in
    let zero_at : (k : ℕ) → k < n → get_or {A = ℕ} (replicate n 0) k 0 ≡ 0 = λ k lt. get_or-replicate {A = ℕ} n k 0 0 lt in
    let many : length {A = ℕ} (replicate n 0) ≡ n = length-replicate {A = ℕ} n 0 in
    record {
      many = many ∙ sym long;
      low = λ k lt. let is = zero_at k (omega (arith, lt, many)) in omega (arith, is);
      alike = λ i j lt lt'. ap₂ (λ (p q : ℕ). p == q) (zero_at i (omega (arith, lt, long))) (zero_at j (omega (arith, lt', long)));
    }

-- numbers are digits of no words
pub first_digits : (base n : ℕ) (digits : List ℕ) → length digits ≡ n → HaveDigits base (replicate n 0) digits digits
first_digits base n digits long =
    let many : length {A = ℕ} (replicate n 0) ≡ n = length-replicate {A = ℕ} n 0 in
    record {
      many = long ∙ sym many;
      each = λ k lt. let is = get_or-replicate {A = ℕ} n k 0 0 (omega (arith, lt, many)) in rw is (let none : 0 * base + get_or digits k 0 ≡ get_or digits k 0 = omega arith in sym none);
    }

-- words are as many as their slots
pub words_few : (words : List ℕ) → length words < 2 ^ 32 → length (map (λ w. Num (pos w)) words) < 2 ^ 32
words_few words few = subst (λ (n : ℕ). n < 2 ^ 32) (sym (length-map words (λ w. Num (pos w)))) few
