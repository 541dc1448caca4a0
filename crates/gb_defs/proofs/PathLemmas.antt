-- Rows that stand for others have their groups, on every path.
use Rattle.std.proofs.Common.{◌≡◌, ℕ, ◌<◌, pos, Bool, true, false, List, ◌++◌, map, filter, ◌∙◌, ap}
use Rattle.std.specs.List.{flat_map, range_with_len, AllByRecursion}
use Rattle.gb_defs.specs.Classes.{class, firsts, rows_below}
use Rattle.gb_defs.specs.Groups.{first_of, idx_groups}
use Rattle.gb_defs.specs.Path.{Path, Nulls, Sorted, Perfect, Table, Threaded, ascends, by_code, path_groups, perfect_pairs}
use Rattle.gb_defs.specs.Rows.{Rows, StandsFor, same_slot_at}
use Rattle.gb_defs.specs.Slot.{Slot, Num, is_nil, slot_eq}
use Rattle.gb_defs.proofs.ClassesLemmas.{all_append, all_filter, all_filters, all_from_below, classes_alike, filter_agree_on, firsts_alike, firsts_inside, groups_alike}
use Rattle.gb_defs.proofs.PartitionLemmas.{flat_map_same, partition_groups_alike}

-- slots hold the same code, or both hold none
pub record IsCodedAlike (s t : Slot) : Type 0 where
  pub code : (code : ℕ) → slot_eq s (Num (pos code)) ≡ slot_eq t (Num (pos code))
  pub none : is_nil s ≡ is_nil t

-- what a path asks of the rows besides that they stand for others
abbrev pub AreCodedAlike : Path → Rows → Rows → Type 0
AreCodedAlike Perfect own rows = (i : ℕ) → i < own.count → IsCodedAlike (own.slot i) (rows.slot i)
AreCodedAlike _ own rows = Unit {0}

module _ (s t : ℕ → Slot) (count : ℕ) (same : (i : ℕ) → i < count → IsCodedAlike (s i) (t i)) (codes : ℕ) where
  by_code_alike : (xs : List ℕ) → AllByRecursion (λ i. i < count) xs → by_code s codes xs ≡ by_code t codes xs
  by_code_alike xs below =
      let coded : (code : ℕ) → filter (λ i. slot_eq (s i) (Num (pos code))) xs ≡ filter (λ i. slot_eq (t i) (Num (pos code))) xs = λ code.
      filter_agree_on _ _ xs (all_from_below (λ i. slot_eq (s i) (Num (pos code)) ≡ slot_eq (t i) (Num (pos code))) count (λ i lt. (same i lt).code code) xs below) in
      let none : filter (λ i. is_nil (s i)) xs ≡ filter (λ i. is_nil (t i)) xs = filter_agree_on _ _ xs (all_from_below (λ i. is_nil (s i) ≡ is_nil (t i)) count (λ i lt. (same i lt).none) xs below) in
      ap (λ front. front ++ filter (λ i. is_nil (s i)) xs) (flat_map_same _ _ coded (range_with_len 0 codes))
      ∙ ap (λ back. flat_map (λ code. filter (λ i. slot_eq (t i) (Num (pos code))) xs) (range_with_len 0 codes) ++ back) none

  by_code_below : (xs : List ℕ) → AllByRecursion (λ i. i < count) xs → AllByRecursion (λ i. i < count) (by_code s codes xs)
  by_code_below xs below =
      all_append (λ i. i < count) _ _ (all_filters (λ i. i < count) (λ code i. slot_eq (s i) (Num (pos code))) xs below (range_with_len 0 codes))
      (all_filter (λ i. i < count) (λ i. is_nil (s i)) xs below)

  module _ (a b : ℕ → ℕ → Bool) (alike : (i j : ℕ) → i < count → j < count → a i j ≡ b i j) where
    pub code_classes_alike : map {B = ℕ × List ℕ} (λ i. (i, class a (rows_below count) i)) (by_code s codes (firsts a (rows_below count)))
        ≡ map {B = ℕ × List ℕ} (λ i. (i, class b (rows_below count) i)) (by_code t codes (firsts b (rows_below count)))
    code_classes_alike =
        let rows = rows_below count in
        let inside = firsts_inside a b count alike in
        classes_alike a b count alike (by_code s codes (firsts a rows)) (by_code_below (firsts a rows) inside)
        ∙ ap (map (λ i. (i, class b rows i))) (by_code_alike (firsts a rows) inside ∙ ap (by_code t codes) (firsts_alike a b count alike))

module _ (own rows : Rows) (stand : StandsFor own rows) (codes n : ℕ) where
  all_alike : (sorted : Bool) → (path_groups Table own codes n sorted).pairs ≡ (path_groups Table rows codes n sorted).pairs
  all_alike sorted = rw stand.many (groups_alike (same_slot_at own.slot) (same_slot_at rows.slot) own.count stand.agree)

  threaded_alike : (sorted : Bool) → (path_groups Threaded own codes n sorted).pairs ≡ (path_groups Threaded rows codes n sorted).pairs
  threaded_alike true = all_alike true
  threaded_alike false = rw stand.many (partition_groups_alike own.hash rows.hash n own.count stand.hashed (same_slot_at own.slot) (same_slot_at rows.slot) stand.agree)

  perfect_alike : AreCodedAlike Perfect own rows → (sorted : Bool) → perfect_pairs own codes sorted ≡ perfect_pairs rows codes sorted
  perfect_alike coded true = all_alike true
  perfect_alike coded false = rw stand.many (code_classes_alike own.slot rows.slot own.count coded codes (same_slot_at own.slot) (same_slot_at rows.slot) stand.agree)

  pub path_groups_alike : (path : Path) (sorted : Bool) → AreCodedAlike path own rows → path_groups path own codes n sorted ≡ path_groups path rows codes n sorted
  path_groups_alike Nulls sorted coded = ap (λ pairs. record (path_groups Nulls own codes n sorted) { pairs = pairs }) (all_alike true)
  path_groups_alike Sorted sorted coded = ap (λ pairs. record (path_groups Nulls own codes n sorted) { pairs = pairs }) (all_alike true)
  path_groups_alike Perfect sorted coded = ap (λ pairs. idx_groups pairs (ascends (map first_of pairs))) (perfect_alike coded sorted)
  path_groups_alike Table sorted coded = ap (λ pairs. idx_groups pairs sorted) (all_alike sorted)
  path_groups_alike Threaded sorted coded = ap (λ pairs. idx_groups pairs sorted) (threaded_alike sorted)
