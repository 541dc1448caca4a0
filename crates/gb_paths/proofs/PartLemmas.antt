-- Numbers of parts of the rows, part after part.
use Rattle.std.proofs.Common.{◌≡◌, ℕ, zero, suc, ◌+◌, ◌-◌, ◌*◌, ◌/◌, ◌<◌, ◌≤◌, Bool, true, List, [], ◌∷◌, ◌++◌, drop, get_or, length, map, take, refl, sym, ◌∙◌, ap, ap₂, add-one, arith, subst}
use Rattle.std.specs.Cmp.{IsEquivalence, on_equiv}
use Rattle.std.specs.List.{AllByRecursion, flat_map, list_any, range_with_len}
use Rattle.std.specs.List.Sorted.{IsStrictlyIncreasing}
use Rattle.std.proofs.Math.Nat.{suc-mul, zero-mul}
use Rattle.std.proofs.Math.Seq.{drop-append_seam}
use Rattle.std.proofs.lemmas.List.{get_or-map, get_or-take, get_or_append_left, length-append, length-map, map-append, map-id}
use Rattle.std.proofs.lemmas.List.Elements.{All-from_recursion, recursion_from_All}
use Rattle.std.proofs.lemmas.List.Kept.{IsStrictlyIncreasing-filter}
use Rattle.std.proofs.lemmas.List.FromFn.{get_or-map-range_with_len, get_or-range_with_len, length-map-range_with_len, length-range_with_len}
use Rattle.gb_defs.specs.Classes.{firsts, groups, is_first, rows_below}
use Rattle.gb_defs.specs.Flat.{range_at}
use Rattle.gb_flat.proofs.OffsetLemmas.{range_before_last}
use Rattle.gb_flat.proofs.ShareLemmas.{range_inside, shares_joined}
use Rattle.gb_defs.specs.Groups.{AreMembers, idx_groups}
use Rattle.gb_defs.specs.Path.{path_groups}
use Rattle.gb_defs.specs.Rows.{Rows, same_slot_at}
use Rattle.gb_defs.proofs.ClassesLemmas.{all_append, rows_below_all}
use Rattle.gb_defs.proofs.SlotLemmas.{slot_eq_equiv}
use Rattle.gb_base.specs.Pool.{partitions_of}
use Rattle.gb_base.specs.declared.pool.Pool.{Pool}
use Rattle.gb_paths.specs.Classes.{AreNumbersBy}
use Rattle.gb_paths.specs.Numbering.{AreNumbersAmong, AreNumbersOf, AreParts, firsts_in, number_in, numbered, renumbered}
use Rattle.gb_paths.specs.Numbers.{pairs_by}
use Rattle.gb_paths.specs.Tuples.{key_path_value}
use Rattle.gb_paths.specs.declared.path.KeyPath.{KeyPath}
use Rattle.gb_paths.specs.declared.path.KeyPath.TheVariants as keyed
use Rattle.gb_paths.specs.declared.row_numbers.RowNumbers.{RowNumbers}
use Rattle.gb_paths.proofs.NumberingLemmas.{above_all, all_found, firsts_low, firsts_parts, groups_numbered, number_finds, numbers_known, opened, same_number}

-- rows that follow each other ascend
pub range_rises : (a n : ℕ) → IsStrictlyIncreasing (range_with_len a n)
range_rises a n k lt =
    let long = length-range_with_len a n in
    rw (get_or-range_with_len a n k 0 (omega (arith, lt, long)), get_or-range_with_len a n (k + 1) 0 (omega (arith, lt, long))) (omega arith)

pub range_members : (count a n : ℕ) → a + n ≤ count → AreMembers count (range_with_len a n)
range_members count a n inside = record {
  below = λ k d lt. let long = length-range_with_len a n in rw (get_or-range_with_len a n k d (omega (arith, lt, long))) (omega (arith, inside, lt, long));
  ascend = range_rises a n;
}

-- ---- ranges that follow each other

range_all : (P : ℕ → Type 0) (a n : ℕ) → ((i : ℕ) → i < n → P (a + i)) → AllByRecursion P (range_with_len a n)
range_all P a n h = recursion_from_All P (range_with_len a n) (λ k d lt.
    let long = length-range_with_len a n in
    let inside : k < n = omega (arith, lt, long) in
    rw (get_or-range_with_len a n k d inside) (h k inside))

-- the rows of each range
abbrev pub rows_at : ℕ → ℕ → ℕ → List ℕ
rows_at n m k = range_with_len (range_at n m k).0 (range_at n m k).1

parts_from : (n m : ℕ) → 0 < m → (left j : ℕ) → j + left ≡ m → AreParts (j * (n / m)) (map (rows_at n m) (range_with_len j left))
parts_from n m some zero j all = tt
parts_from n m some (suc zero) j all =
    let end = (range_at n m j).0 + (range_at n m j).1 in
    record {
      next = end;
      rises = range_rises (range_at n m j).0 (range_at n m j).1;
      low = range_all (λ row. j * (n / m) ≤ row) (range_at n m j).0 (range_at n m j).1 (λ i lt. omega arith);
      high = range_all (λ row. row < end) (range_at n m j).0 (range_at n m j).1 (λ i lt. omega (arith, lt));
      onward = omega arith;
      later = tt;
    }
parts_from n m some (suc (suc left)) j all =
    let is : range_at n m j ≡ (j * (n / m), n / m) = range_before_last n m j (omega (arith, all)) in
    let each = n / m in
    let after : (j + 1) * each ≡ j * each + each = rw add-one (suc-mul j each) in
    record {
      next = (j + 1) * each;
      rises = range_rises (range_at n m j).0 (range_at n m j).1;
      low = subst (λ (r : ℕ × ℕ). AllByRecursion (λ row. j * each ≤ row) (range_with_len r.0 r.1)) (sym is) (range_all (λ row. j * each ≤ row) (j * each) each (λ i lt. omega arith));
      high = subst (λ (r : ℕ × ℕ). AllByRecursion (λ row. row < (j + 1) * each) (range_with_len r.0 r.1)) (sym is) (range_all (λ row. row < (j + 1) * each) (j * each) each (λ i lt. omega (arith, lt, after)));
      onward = omega (arith, after);
      later = parts_from n m some (suc left) (j + 1) (omega (arith, all));
    }

pub ranges_parts : (n m : ℕ) → 0 < m → AreParts 0 (map (rows_at n m) (range_with_len 0 m))
ranges_parts n m some = let none : 0 * (n / m) ≡ 0 = zero-mul (n / m) in rw none at (parts_from n m some m 0 (omega arith))

drop_range : (s a n : ℕ) → drop s (range_with_len a n) ≡ range_with_len (a + s) (n - s)
drop_range zero a n = let e : a + 0 ≡ a = omega arith in let f : n - 0 ≡ n = omega arith in rw (e, f) refl
drop_range (suc s) a zero = let f : 0 - suc s ≡ 0 = omega arith in rw f refl
drop_range (suc s) a (suc n) =
    let e : a + 1 + s ≡ a + suc s = omega arith in
    let f : n - s ≡ suc n - suc s = omega arith in
    drop_range s (a + 1) n ∙ ap₂ range_with_len e f

take_range : (c a n : ℕ) → c ≤ n → take c (range_with_len a n) ≡ range_with_len a c
take_range zero a n le = refl
take_range (suc c) a zero le = absurd (omega (arith, le))
take_range (suc c) a (suc n) le = ap (λ xs. a ∷ xs) (take_range c (a + 1) n (omega (arith, le)))

range_cut : (s c n : ℕ) → s + c ≤ n → range_with_len s c ≡ take c (drop s (rows_below n))
range_cut s c n le =
    let e : 0 + s ≡ s = omega arith in
    sym (ap (take c) (drop_range s 0 n ∙ ap (λ a. range_with_len a (n - s)) e) ∙ take_range c s (n - s) (omega (arith, le)))

pub ranges_all : (n m : ℕ) → 0 < m → flat_map (λ rows. rows) (map (rows_at n m) (range_with_len 0 m)) ≡ rows_below n
ranges_all n m some =
    let made = map (rows_at n m) (range_with_len 0 m) in
    let long = length-range_with_len 0 n in
    shares_joined (λ rows. rows) (λ x. x) (rows_below n) m made (omega (arith, some)) (length-map-range_with_len (rows_at n m) 0 m)
    (λ k d lt.
    let inside = range_inside n m k lt in
    get_or-map-range_with_len (rows_at n m) 0 m k k d lt (omega arith)
    ∙ range_cut (range_at n m k).0 (range_at n m k).1 n inside
    ∙ ap (λ l. take (range_at l m k).1 (drop (range_at l m k).0 (rows_below n))) (sym long)
    ∙ sym (map-id _))
    ∙ map-id (rows_below n)

-- ---- rows of parts rise

rises_cons : (x : ℕ) (zs : List ℕ) → (0 < length zs → x < get_or zs 0 0) → IsStrictlyIncreasing zs → IsStrictlyIncreasing (x ∷ zs)
rises_cons x zs first up zero lt = first (omega (arith, lt))
rises_cons x zs first up (suc k) lt = let e : suc k + 1 ≡ suc (k + 1) = omega arith in rw e (up k (omega (arith, lt)))

rises_tail : (x : ℕ) (xs : List ℕ) → IsStrictlyIncreasing (x ∷ xs) → IsStrictlyIncreasing xs
rises_tail x xs up k lt = let e : suc k + 1 ≡ suc (k + 1) = omega arith in rw e at (up (suc k) (omega (arith, lt)))

low_first : (cut : ℕ) (ys : List ℕ) → AllByRecursion (λ y. cut ≤ y) ys → 0 < length ys → cut ≤ get_or ys 0 0
low_first cut [] above lt = absurd (omega (arith, lt))
low_first cut (y ∷ ys) above lt = above.0

rises_append : (cut : ℕ) (xs ys : List ℕ) → IsStrictlyIncreasing xs → IsStrictlyIncreasing ys → AllByRecursion (λ x. x < cut) xs → AllByRecursion (λ y. cut ≤ y) ys → IsStrictlyIncreasing (xs ++ ys)
rises_append cut [] ys up_xs up below above = up
rises_append cut (x ∷ []) ys up_xs up below above = rises_cons x ys (λ some. omega (arith, below.0, low_first cut ys above some)) up
rises_append cut (x ∷ z ∷ zs) ys up_xs up below above =
    rises_cons x (z ∷ zs ++ ys) (λ some. up_xs 0 (omega arith)) (rises_append cut (z ∷ zs) ys (rises_tail x (z ∷ zs) up_xs) up below.1 above)

-- ---- first rows of parts

all_front : (P : ℕ → Type 0) (xs ys : List ℕ) → AllByRecursion P (xs ++ ys) → AllByRecursion P xs
all_front P [] ys h = tt
all_front P (x ∷ xs) ys h = (h.0, all_front P xs ys h.1)

all_back : (P : ℕ → Type 0) (xs ys : List ℕ) → AllByRecursion P (xs ++ ys) → AllByRecursion P ys
all_back P [] ys h = h
all_back P (x ∷ xs) ys h = all_back P xs ys h.1

-- numbers that are read at places of a front
numbers_front : (f : ℕ → ℕ) (front rest places : List ℕ) → AllByRecursion (λ place. place < length front) places →
    map (λ place. get_or (map f (front ++ rest)) place 0) places ≡ map (λ place. f (get_or front place 0)) places
numbers_front f front rest [] inside = refl
numbers_front f front rest (place ∷ places) inside =
    let long : place < length (front ++ rest) = omega (arith, inside.0, length-append front rest) in
    ap₂ (λ (k : ℕ) ks. k ∷ ks) (get_or-map f (front ++ rest) place 0 0 long ∙ ap f (get_or_append_left front rest 0 place inside.0)) (numbers_front f front rest places inside.1)

pub front_read : (n : ℕ) (xs places : List ℕ) → AllByRecursion (λ place. place < n) places → map (λ place. get_or (take n xs) place 0) places ≡ map (λ place. get_or xs place 0) places
front_read n xs [] inside = refl
front_read n xs (place ∷ places) inside = ap₂ (λ (k : ℕ) ks. k ∷ ks) (get_or-take n xs place 0 inside.0) (front_read n xs places inside.1)

module _ (agree : ℕ → ℕ → Bool) (equiv : IsEquivalence agree) where
  parts_low : (P : ℕ → Type 0) (parts : List (List ℕ)) → AllByRecursion P (flat_map (λ part. part) parts) → AllByRecursion P (flat_map (firsts agree) parts)
  parts_low P [] h = tt
  parts_low P (part ∷ parts) h =
      all_append P (firsts agree part) (flat_map (firsts agree) parts) (firsts_low agree P part (all_front P part (flat_map (λ p. p) parts) h))
      (parts_low P parts (all_back P part (flat_map (λ p. p) parts) h))

  parts_rise : (from : ℕ) (parts : List (List ℕ)) → AreParts from parts → IsStrictlyIncreasing (flat_map (firsts agree) parts)
  parts_rise from [] are = λ k lt. absurd (omega (arith, lt))
  parts_rise from (part ∷ parts) are =
      let up : IsStrictlyIncreasing (firsts agree part) = rw (opened agree part) (IsStrictlyIncreasing-filter (is_first agree part) part are.rises) in
      rises_append are.next (firsts agree part) (flat_map (firsts agree) parts) up (parts_rise are.next parts are.later)
      (firsts_low agree (λ row. row < are.next) part are.high) (above_all agree equiv are.next parts are.later (firsts agree) (firsts_low agree))

  number_back : (f : ℕ → ℕ) → ((i n : ℕ) → agree i n ≡ true → f i ≡ f n) → (first xs : List ℕ) → AllByRecursion (λ row. list_any (agree row) first ≡ true) xs →
      map (λ place. f (get_or first place 0)) (map (number_in agree first) xs) ≡ map f xs
  number_back f same first [] h = refl
  number_back f same first (x ∷ xs) h =
      ap₂ (λ (k : ℕ) ks. k ∷ ks) (sym (same x _ (number_finds agree equiv first x h.0).1)) (number_back f same first xs h.1)

  module _ (list : ℕ → List ℕ) (ups : (k : ℕ) → IsStrictlyIncreasing (list k)) where
    -- each part has the numbers of its rows
    abbrev AreParted : List RowNumbers → ℕ → Type 0
    AreParted parts j = (k : ℕ) (d : RowNumbers) → k < length parts → AreNumbersOf agree (list (j + k)) (get_or parts k d).first.items (get_or parts k d).of_rows.items

    next_parted : (part : RowNumbers) (parts : List RowNumbers) (j : ℕ) → AreParted (part ∷ parts) j → AreParted parts (j + 1)
    next_parted part parts j are k d lt = let e : j + suc k ≡ j + 1 + k = omega arith in rw e at (are (suc k) d (omega (arith, lt)))

    first_parted : (part : RowNumbers) (parts : List RowNumbers) (j : ℕ) → AreParted (part ∷ parts) j → AreNumbersOf agree (list j) part.first.items part.of_rows.items
    first_parted part parts j are = let e : j + 0 ≡ j = omega arith in rw e at (are 0 part (omega arith))

    firsts_parted : (parts : List RowNumbers) (j : ℕ) → AreParted parts j → firsts_in parts ≡ flat_map (firsts agree) (map list (range_with_len j (length parts)))
    firsts_parted [] j are = refl
    firsts_parted (part ∷ parts) j are =
        ap₂ (λ (a b : List ℕ). a ++ b) (first_parted part parts j are).first_is (firsts_parted parts (j + 1) (next_parted part parts j are))

    renumber_parted : (f : ℕ → ℕ) → ((i n : ℕ) → agree i n ≡ true → f i ≡ f n) → (parts : List RowNumbers) (j : ℕ) → AreParted parts j →
        renumbered (map f (firsts_in parts)) parts ≡ map f (flat_map (λ rows. rows) (map list (range_with_len j (length parts))))
    renumber_parted f same [] j are = refl
    renumber_parted f same (part ∷ parts) j are =
        let mine = first_parted part parts j are in
        let first = part.first.items in
        let rest = firsts_in parts in
        let others = flat_map (λ rows. rows) (map list (range_with_len (j + 1) (length parts))) in
        let found : AllByRecursion (λ row. list_any (agree row) first ≡ true) (list j) = rw mine.first_is (all_found agree equiv (list j) (ups j)) in
        let front = numbers_front f first rest part.of_rows.items (numbers_known agree equiv (list j) (ups j) first part.of_rows.items mine)
        ∙ ap (map (λ place. f (get_or first place 0))) mine.numbers_are ∙ number_back f same first (list j) found in
        let back = ap (drop (length first)) (map-append f first rest) ∙ ap (λ n. drop n (map f first ++ map f rest)) (sym (length-map first f)) ∙ drop-append_seam (map f first) (map f rest) in
        ap₂ (λ (a b : List ℕ). a ++ b) front (ap (λ numbers. renumbered numbers parts) back ∙ renumber_parted f same parts (j + 1) (next_parted part parts j are))
        ∙ sym (map-append f (list j) others)

  -- ranges of all rows, numbered each for itself
  module _ (count m : ℕ) (some : 0 < m) (parts : List RowNumbers) (long : length parts ≡ m)
      (each : (k : ℕ) (d : RowNumbers) → k < m → AreNumbersOf agree (rows_at count m k) (get_or parts k d).first.items (get_or parts k d).of_rows.items) where
    abbrev ranges : List (List ℕ)
    ranges = map (rows_at count m) (range_with_len 0 m)

    each_rises : (k : ℕ) → IsStrictlyIncreasing (rows_at count m k)
    each_rises k = range_rises (range_at count m k).0 (range_at count m k).1

    parted : (k : ℕ) (d : RowNumbers) → k < length parts → AreNumbersOf agree (rows_at count m (0 + k)) (get_or parts k d).first.items (get_or parts k d).of_rows.items
    parted k d lt = let e : 0 + k ≡ k = omega arith in rw e (each k d (omega (arith, lt, long)))

    parts_firsts : firsts_in parts ≡ flat_map (firsts agree) ranges
    parts_firsts = firsts_parted (rows_at count m) each_rises parts 0 parted ∙ ap (λ n. flat_map (firsts agree) (map (rows_at count m) (range_with_len 0 n))) long

    pub parts_members : AreMembers count (firsts_in parts)
    parts_members = record {
      below = All-from_recursion (λ row. row < count) (firsts_in parts)
          (rw parts_firsts (parts_low (λ row. row < count) ranges (rw (ranges_all count m some) (rows_below_all count))));
      ascend = rw parts_firsts (parts_rise 0 ranges (ranges_parts count m some));
    }

    -- the first rows, numbered, number all rows
    pub parts_together : (first numbers : List ℕ) → AreNumbersOf agree (firsts_in parts) first numbers → AreNumbersOf agree (rows_below count) first (renumbered numbers parts)
    parts_together first numbers are = record {
      first_is = are.first_is ∙ ap (firsts agree) parts_firsts ∙ sym (firsts_parts agree equiv 0 ranges (ranges_parts count m some)) ∙ ap (firsts agree) (ranges_all count m some);
      numbers_are =
          ap (λ ns. renumbered ns parts) are.numbers_are
          ∙ renumber_parted (rows_at count m) each_rises (number_in agree first) (λ i n here. same_number agree equiv i n here first) parts 0 parted
          ∙ ap (λ n. map (number_in agree first) (flat_map (λ rows. rows) (map (rows_at count m) (range_with_len 0 n)))) long
          ∙ ap (map (number_in agree first)) (ranges_all count m some);
    }

    -- and so do their numbers in a list of their own, over as many rows
    pub all_numbered : (all : ℕ) → count ≡ all → (first numbers made : List ℕ) → AreNumbersOf agree (firsts_in parts) first numbers → made ≡ renumbered numbers parts → AreNumbersOf agree (rows_below all) first made
    all_numbered all many first numbers made are is =
        subst (λ (ns : List ℕ). AreNumbersOf agree (rows_below all) first ns) (sym is)
        (subst (λ n. AreNumbersOf agree (rows_below n) first (renumbered numbers parts)) many (parts_together first numbers are))

-- ---- groups by numbers

-- rows whose groups are numbered have these groups, on a path in the order of first rows
pub numbers_path : (rows : Rows) (path : KeyPath) (pool : Pool) (numbers : RowNumbers) → AreNumbersAmong rows (rows_below rows.count) numbers → AreNumbersBy path rows pool numbers
numbers_path rows path pool numbers are =
    let agree = same_slot_at rows.slot in
    let all = rows_below rows.count in
    let first = numbers.first.items in
    let long : length numbers.of_rows.items ≡ rows.count = ap length are.numbers_are ∙ length-map all (number_in agree first) ∙ length-range_with_len 0 rows.count in
    let pairs : pairs_by (rows_below (length numbers.of_rows.items)) numbers.of_rows.items first ≡ groups agree all =
    ap (λ n. pairs_by (rows_below n) numbers.of_rows.items first) long
    ∙ ap (λ ns. pairs_by all ns first) are.numbers_are
    ∙ ap (λ fs. pairs_by all (map (number_in agree fs) all) fs) are.first_is
    ∙ groups_numbered agree (on_equiv rows.slot slot_eq_equiv) all (range_rises 0 rows.count) in
    record {
      groups = elim path as (λ p. numbered numbers ≡ path_groups (key_path_value p) rows 0 (partitions_of pool) true) [
        | keyed.Table ↦ ap (λ ps. idx_groups ps true) pairs
        | keyed.Threaded ↦ ap (λ ps. idx_groups ps true) pairs
      ];
      many = long;
    }
