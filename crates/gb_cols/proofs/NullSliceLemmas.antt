-- What a slice of nulls shows: how many places of each chunk.
use Rattle.std.proofs.Common.{◌≡◌, ℕ, zero, suc, ◌+◌, ◌-◌, ◌≤◌, ℤ, pos, negsuc, Bool, true, false, List, [], ◌∷◌, ◌++◌, length, take, drop, refl, sym, ◌∙◌, ap, arith, cond, nat_lt, min, max}
use Rattle.std.specs.List.{filter, sum}
use Rattle.std.proofs.lemmas.Bool.Decides.{nat_tests}
use Rattle.std.proofs.lemmas.List.{append-nil, drop-replicate, drop_all, length-replicate, take-replicate}
use Rattle.std.proofs.lemmas.List.Elements.{filter-append}
use Rattle.gb_defs.specs.Slot.{Nil}
use Rattle.gb_defs.specs.Column.{sliced}
use Rattle.gb_defs.specs.Slices.{between, moved_into, or_one, places_in, shown, shown_chunks, slice_end, slice_start}
use Rattle.gb_cols.specs.Null.{counted_part, null_column}
use Rattle.gb_cols.proofs.NullLemmas.{nulls, sum_more}

-- how many places of each chunk stand from one place up to another, without the chunks that have none
abbrev pub counts : ℕ → ℕ → List ℕ → List ℕ
counts from to [] = []
counts from to (n ∷ ns) = counted_part from to n ++ counts (from - n) (to - n) ns

abbrev pub shown_counts : List ℕ → ℤ → ℕ → List ℕ
shown_counts chunks offset len = counts (slice_start (sum chunks) offset) (slice_end (sum chunks) offset len) chunks

counts_are : (start end at : ℕ) (ns : List ℕ) → counts (start - at) (end - at) ns ≡ filter (nat_lt 0) (places_in start end at ns)
counts_are start end at [] = refl
counts_are start end at (n ∷ ns) =
    let k = min end (at + n) - max start at in
    let here : min (end - at) n - (start - at) ≡ k = omega arith in
    let from : (start - at) - n ≡ start - (at + n) = omega arith in
    let to : (end - at) - n ≡ end - (at + n) = omega arith in
    ap (λ m. filter (nat_lt 0) (m ∷ []) ++ counts ((start - at) - n) ((end - at) - n) ns) here
    ∙ ap (λ m. filter (nat_lt 0) (k ∷ []) ++ counts m ((end - at) - n) ns) from
    ∙ ap (λ m. filter (nat_lt 0) (k ∷ []) ++ counts (start - (at + n)) m ns) to
    ∙ ap (λ ms. filter (nat_lt 0) (k ∷ []) ++ ms) (counts_are start end (at + n) ns)
    ∙ sym (filter-append (nat_lt 0) (k ∷ []) (places_in start end (at + n) ns))

-- the counts of all chunks, where only the last is left
pub counts_end : (done all earlier : List ℕ) (last from to i : ℕ) → length earlier ≤ i → done ++ counts from to (drop i earlier ++ last ∷ []) ≡ all → done ++ counted_part from to last ≡ all
counts_end done all earlier last from to i le so_far =
    ap (λ ns. done ++ ns) (sym (append-nil (counted_part from to last))) ∙ ap (λ es. done ++ counts from to (es ++ last ∷ [])) (sym (drop_all i earlier le)) ∙ so_far

-- ---- how many there are in all

counted_sum_if : (b : Bool) (k : ℕ) → nat_lt 0 k ≡ b → sum (cond b (k ∷ []) []) ≡ k
counted_sum_if true k e = omega arith
counted_sum_if false zero e = omega arith
counted_sum_if false (suc k) e = let some : nat_lt 0 (suc k) ≡ true = grind (arith, nat_tests) in let never : true ≡ false = sym some ∙ e in cc

counted_sum : (k : ℕ) → sum (filter (nat_lt 0) (k ∷ [])) ≡ k
counted_sum k = counted_sum_if (nat_lt 0 k) k refl

counts_sum : (from to : ℕ) (ns : List ℕ) → sum (counts from to ns) ≡ min to (sum ns) - from
counts_sum from to [] = omega arith
counts_sum from to (n ∷ ns) =
    omega
    (arith, sum_more (counted_part from to n) (counts (from - n) (to - n) ns), counted_sum (min to n - from), counts_sum (from - n) (to - n) ns, sum_more (n ∷ []) ns)

sum_or_one : (ns : List ℕ) → sum (or_one 0 ns) ≡ sum ns
sum_or_one [] = omega arith
sum_or_one (n ∷ ns) = refl

moved_few : (count : ℕ) (place : ℤ) → moved_into count place ≤ count
moved_few count (pos n) = omega arith
moved_few count (negsuc n) = omega arith

nulls_between : (start end n : ℕ) → end ≤ n → between start end (nulls n) ≡ nulls (end - start)
nulls_between start end n le = ap (take (end - start)) (drop-replicate start n Nil) ∙ take-replicate (end - start) (n - start) Nil (omega (arith, le))

-- ---- what a slice shows

module _ (chunks : List ℕ) (offset : ℤ) (len : ℕ) (made : List ℕ) (is : made ≡ or_one 0 (shown_counts chunks offset len)) where
  abbrev start : ℕ
  start = slice_start (sum chunks) offset

  abbrev end : ℕ
  end = slice_end (sum chunks) offset len

  inside : end ≤ sum chunks
  inside = moved_few (sum chunks) _

  made_sum : sum made ≡ end - start
  made_sum = omega (arith, ap sum is, sum_or_one (shown_counts chunks offset len), counts_sum start end chunks, inside)

  pub made_few : sum made ≤ sum chunks
  made_few = omega (arith, made_sum, inside)

  made_slots : nulls (sum made) ≡ shown (nulls (sum chunks)) offset len
  made_slots =
      ap nulls made_sum ∙ sym (nulls_between start end (sum chunks) inside)
      ∙ ap (λ n. between (slice_start n offset) (slice_end n offset len) (nulls (sum chunks))) (sym (length-replicate (sum chunks) Nil))

  made_lengths : made ≡ shown_chunks chunks offset len
  made_lengths =
      let from : start ≡ start - 0 = omega arith in
      let to : end ≡ end - 0 = omega arith in
      is ∙ ap (λ k. or_one 0 (counts k end chunks)) from ∙ ap (λ k. or_one 0 (counts (start - 0) k chunks)) to ∙ ap (or_one 0) (counts_are start end 0 chunks)

  pub null_sliced : (name : List ℕ) → null_column name made ≡ sliced offset len (null_column name chunks)
  null_sliced name =
      ap (λ ss. record (null_column name made) { slots = ss }) made_slots
      ∙ ap (λ ns. record (sliced offset len (null_column name chunks)) { chunks = ns }) made_lengths
