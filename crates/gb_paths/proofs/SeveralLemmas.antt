-- Rows of several keys: they agree as rows of one slot, and stand for their bytes.
use Rattle.std.proofs.Common.{◌≡◌, ◌==◌, inl, inr, ℕ, ◌<◌, Bool, true, false, not, ◌&&◌, List, [], ◌∷◌, ◌++◌, length, get_or, replicate, All, if◌then◌else◌, refl, sym, ◌∙◌, ap, arith, subst}
use Rattle.std.specs.Borrow.{Bor}
use Rattle.std.specs.Prelude.{IfOk, Result, Ok, Err}
use Rattle.std.proofs.lemmas.Bool.{cases_Bool, eqb-true}
use Rattle.std.proofs.lemmas.List.{append-nil, length-replicate}
use Rattle.std.proofs.lemmas.List.Elements.{All-weaker, filter-append, filter_passes, recursion_from_All}
use Rattle.std.specs.Int.{w8, w16, w32, w64, w128}
use Rattle.std.specs.List.{AllByRecursion}
use Rattle.gb_defs.specs.Classes.{agree_by, groups, rows_below, same_slot}
use Rattle.gb_defs.specs.Column.{ColumnValue, Frame, all_have_length, frame_height}
use Rattle.gb_defs.specs.ColumnType.{ColumnType, Flat, ListOf, ArrayOf, StructOf, Null, Boolean, Unsigned, Signed, Decimal, Date, Time, Datetime, Duration, String, Binary, BinaryOffset, Categorical, Enum}
use Rattle.gb_defs.specs.Groups.{Grouping, IsWellFormed, Slice}
use Rattle.gb_defs.specs.Hash.{hash_of, seed_mix}
use Rattle.gb_defs.specs.Path as path
use Rattle.gb_defs.specs.RowBytes.{row_bytes}
use Rattle.gb_defs.specs.Rows.{Rows, StandsFor, rows_of_slots, same_slot_at}
use Rattle.gb_defs.specs.Slot.{Slot, Bytes, Nil, slot_at, slot_eq}
use Rattle.gb_defs.proofs.AnswerLemmas.{agree_one}
use Rattle.gb_defs.proofs.ClassesLemmas.{groups_alike}
use Rattle.gb_defs.proofs.PathLemmas.{path_groups_alike}
use Rattle.gb_base.specs.Pool.{partitions_of, seed_of, threshold_of, workers_of}
use Rattle.gb_base.specs.declared.pool.Pool.{Pool}
use Rattle.gb_cols.specs.Null.{AreNulls}
use Rattle.gb_flat_series.specs.Variant.{type_variant}
use Rattle.gb_series.specs.Variant as series
use Rattle.gb_series.specs.Series.{value_of}
use Rattle.gb_series.specs.declared.series.Series.{Series}
use Rattle.gb_rows.specs.Lent.{keys_in}
use Rattle.gb_rows.specs.Rows.{AreOfOneLength, row_slots}
use Rattle.gb_rows.specs.Told.{AreToldByRows}
use Rattle.gb_paths.specs.Keys.{HasValues, null_rows}
use Rattle.gb_defs.specs.Notes.{has_values, is_valued, path_by_keys, valued_keys}
use Rattle.gb_paths.specs.Numbering.{AreNumbersUnder, numbered}
use Rattle.gb_paths.specs.declared.path.KeyPath.{KeyPath}
use Rattle.gb_paths.specs.declared.row_numbers.RowNumbers.{RowNumbers}
use Rattle.gb_paths.specs.Tuples.{IsNullUnlessValued, all_path, key_path_value, rows_of_all, slots_at, slots_of, tuples_by, tuples_of_bytes}
use Rattle.gb_paths.proofs.KeyFormLemmas.{parts_by_variant}
use Rattle.gb_paths.proofs.FormLemmas.{path_formed}
use Rattle.gb_paths.proofs.LeaderLemmas.{numbers_alike}
use Rattle.gb_paths.proofs.PartLemmas.{numbers_path}
use Rattle.gb_paths.proofs.RowBytesLemmas.{row_at, rows_many}
use Rattle.gb_paths.proofs.RunLemmas.{null_at}
use Rattle.gb_paths.proofs.TupleLemmas.{sorted_path, sorted_tuples}

-- ---- keys that tell rows apart

-- only a column of the null type does not
pub valued_by_variant : (n : ℕ) (t : ColumnType) → type_variant t ≡ n → has_values (path.kind_of t) ≡ not (n == 0)
valued_by_variant n (Flat Null) is = rw (← is) refl
valued_by_variant n (Flat Boolean) is = rw (← is) refl
valued_by_variant n (Flat (Unsigned w8)) is = rw (← is) refl
valued_by_variant n (Flat (Unsigned w16)) is = rw (← is) refl
valued_by_variant n (Flat (Unsigned w32)) is = rw (← is) refl
valued_by_variant n (Flat (Unsigned w64)) is = rw (← is) refl
valued_by_variant n (Flat (Unsigned w128)) is = rw (← is) refl
valued_by_variant n (Flat (Signed w8)) is = rw (← is) refl
valued_by_variant n (Flat (Signed w16)) is = rw (← is) refl
valued_by_variant n (Flat (Signed w32)) is = rw (← is) refl
valued_by_variant n (Flat (Signed w64)) is = rw (← is) refl
valued_by_variant n (Flat (Signed w128)) is = rw (← is) refl
valued_by_variant n (Flat (Decimal precision scale)) is = rw (← is) refl
valued_by_variant n (Flat Date) is = rw (← is) refl
valued_by_variant n (Flat Time) is = rw (← is) refl
valued_by_variant n (Flat (Datetime unit)) is = rw (← is) refl
valued_by_variant n (Flat (Duration unit)) is = rw (← is) refl
valued_by_variant n (Flat String) is = rw (← is) refl
valued_by_variant n (Flat Binary) is = rw (← is) refl
valued_by_variant n (Flat BinaryOffset) is = rw (← is) refl
valued_by_variant n (Flat (Categorical texts ordering)) is = rw (← is) refl
valued_by_variant n (Flat (Enum texts ordering)) is = rw (← is) refl
valued_by_variant n (ListOf t) is = rw (← is) refl
valued_by_variant n (ArrayOf t width) is = rw (← is) refl
valued_by_variant n (StructOf fs) is = rw (← is) refl

-- keys that hold others do
pub parts_valued : (n : ℕ) (t : ColumnType) → series.type_variant t ≡ n → (n == 0) ≡ false → has_values (path.kind_of t) ≡ true
parts_valued n t is some = ap has_values (parts_by_variant n t is some)

-- one key more
valued_more : (keys : Frame) (key : ColumnValue) → valued_keys (keys ++ key ∷ []) ≡ valued_keys keys ++ (if is_valued key then key ∷ [] else [])
valued_more keys key = filter-append is_valued keys (key ∷ [])

pub valued_yes : (keys : Frame) (key : ColumnValue) → is_valued key ≡ true → valued_keys (keys ++ key ∷ []) ≡ valued_keys keys ++ key ∷ []
valued_yes keys key told = valued_more keys key ∙ ap (λ b. valued_keys keys ++ (if b then key ∷ [] else [])) told

pub valued_no : (keys : Frame) (key : ColumnValue) → is_valued key ≡ false → valued_keys (keys ++ key ∷ []) ≡ valued_keys keys
valued_no keys key told = valued_more keys key ∙ ap (λ b. valued_keys keys ++ (if b then key ∷ [] else [])) told ∙ append-nil (valued_keys keys)

-- those that do have values
pub valued_have : (keys : Frame) → All HasValues (valued_keys keys)
valued_have keys = All-weaker (λ key. is_valued key ≡ true) HasValues (λ key yes' none. let bad = sym yes' ∙ ap has_values none in cc) (valued_keys keys) (filter_passes is_valued keys)

-- ---- rows of all keys

-- rows hold one slot for all keys where they hold one in each
pub all_agree : (keys : Frame) → same_slot_at (slots_at keys) ≡ agree_by (slots_of keys)
all_agree keys k i j = each keys i j k
  where
    each : (keys : Frame) (i j : ℕ) → same_slot_at (slots_at keys) i j ≡ agree_by (slots_of keys) i j
    each [] i j = refl
    each (key ∷ keys) i j = ap (λ b. same_slot key.slots i j && b) (each keys i j)

-- nulls hold one slot
nulls_agree : (slots : List Slot) (i j : ℕ) → AreNulls slots → same_slot slots i j ≡ true
nulls_agree slots i j nulls =
    ap (λ ss. slot_eq (slot_at ss i) (slot_at ss j)) nulls
    ∙ ap (λ s. slot_eq s (slot_at (replicate (length slots) Nil) j)) (null_at (length slots) i)
    ∙ ap (λ s. slot_eq Nil s) (null_at (length slots) j)

-- the keys without values change nothing
valued_agree : (keys : Frame) → AllByRecursion IsNullUnlessValued keys → (i j : ℕ) → agree_by (slots_of keys) i j ≡ agree_by (slots_of (valued_keys keys)) i j
valued_agree [] nulls i j = refl
valued_agree (key ∷ keys) nulls i j = elim (cases_Bool (is_valued key)) [
  | inl yes' ↦ rw yes' (ap (λ b. same_slot key.slots i j && b) (valued_agree keys nulls.1 i j))
  | inr no' ↦ rw (no', nulls_agree key.slots i j (nulls.0 no')) (valued_agree keys nulls.1 i j)
]

-- ---- heights

valued_aligned : (n : ℕ) (keys : Frame) → all_have_length n keys ≡ true → all_have_length n (valued_keys keys) ≡ true
valued_aligned n [] e = refl
valued_aligned n (key ∷ keys) e = elim (cases_Bool (length key.slots == n)) [
  | inl long ↦
      let rest : all_have_length n keys ≡ true = rw long at e in
      elim (cases_Bool (is_valued key)) [
        | inl yes' ↦ rw (yes', long) (valued_aligned n keys rest)
        | inr no' ↦ rw no' (valued_aligned n keys rest)
      ]
  | inr short ↦ cc (rw short at e)
]

-- the first is as long as all
first_height : (n : ℕ) (keys : Frame) → all_have_length n keys ≡ true → 0 < length keys → frame_height keys ≡ n
first_height n [] e some = absurd (omega (arith, some))
first_height n (key ∷ keys) e some = elim (cases_Bool (length key.slots == n)) [
  | inl long ↦ eqb-true (length key.slots) n long
  | inr short ↦ cc (rw short at e)
]

module _ (keys : Frame) (aligned : AreOfOneLength keys) where
  pub valued_height : 0 < length (valued_keys keys) → frame_height (valued_keys keys) ≡ frame_height keys
  valued_height some = first_height (frame_height keys) (valued_keys keys) (valued_aligned (frame_height keys) keys aligned) some

  pub valued_length : 0 < length (valued_keys keys) → AreOfOneLength (valued_keys keys)
  valued_length some = rw (valued_height some) (valued_aligned (frame_height keys) keys aligned)

  module _ (nulls : All IsNullUnlessValued keys) where
    by_recursion : AllByRecursion IsNullUnlessValued keys
    by_recursion = recursion_from_All IsNullUnlessValued keys nulls

    -- the rows of all keys stand for their bytes
    module _ (some : 0 < length (valued_keys keys)) (told : AreToldByRows (valued_keys keys)) (seed : ℕ) where
      all_stand : StandsFor (rows_of_all seed keys) (rows_of_slots w64 seed seed_mix (row_slots (valued_keys keys)))
      all_stand =
          let below : (i : ℕ) → i < frame_height keys → i < frame_height (valued_keys keys) = λ i lt. rw (valued_height some) lt in
          let at : (i : ℕ) → i < frame_height keys → slot_at (row_slots (valued_keys keys)) i ≡ Bytes (row_bytes (valued_keys keys) i) = λ i lt. row_at (valued_keys keys) i (below i lt) in
          record {
            many = rows_many (valued_keys keys) ∙ valued_height some;
            agree = λ i j low high.
                ap (λ f. f i j) (all_agree keys)
                ∙ valued_agree keys by_recursion i j
                ∙ sym (told.same i j (below i low) (below j high))
                ∙ sym (ap (λ s. slot_eq s (slot_at (row_slots (valued_keys keys)) j)) (at i low) ∙ ap (λ s. slot_eq (Bytes (row_bytes (valued_keys keys) i)) s) (at j high));
            hashed = λ i lt. ap (λ s. hash_of w64 seed seed_mix s) (sym (at i lt));
          }

    -- where no key tells rows apart they are one run
    module _ (none : valued_keys keys ≡ []) (seed : ℕ) where
      none_apart : (i j : ℕ) → same_slot_at (slots_at keys) i j ≡ true
      none_apart i j = ap (λ f. f i j) (all_agree keys) ∙ valued_agree keys by_recursion i j ∙ ap (λ ks. agree_by (slots_of ks) i j) none

      pub all_run : path.run_groups (null_rows (frame_height keys)) ≡ path.run_groups (rows_of_all seed keys)
      all_run =
          let n = frame_height keys in
          let null = (null_rows n).slot in
          let alike : (i j : ℕ) → i < n → j < n → same_slot_at null i j ≡ same_slot_at (slots_at keys) i j =
          λ i j low high. rw (null_at n i, null_at n j) (sym (none_apart i j)) in
          let pairs : groups (same_slot_at null) (rows_below (null_rows n).count) ≡ groups (same_slot_at (slots_at keys)) (rows_below n) =
          ap (λ m. groups (same_slot_at null) (rows_below m)) (length-replicate n Nil) ∙ groups_alike (same_slot_at null) (same_slot_at (slots_at keys)) n alike in
          ap (λ ps. record { pairs = ps; form = Slice false; flagged = true }) pairs

-- ---- the groups by several keys

-- rows that stand for others have their groups by hashes
hashed_alike : (own rows : Rows) → StandsFor own rows → (by_hash : Bool) (n : ℕ) (sorted : Bool)
    → path.path_groups (if by_hash then path.Threaded else path.Table) rows 0 n sorted ≡ path.path_groups (if by_hash then path.Threaded else path.Table) own 0 n sorted
hashed_alike own rows stand true n sorted = sym (path_groups_alike own rows stand 0 n path.Threaded sorted tt)
hashed_alike own rows stand false n sorted = sym (path_groups_alike own rows stand 0 n path.Table sorted tt)

several : (keys : Frame) (multithreaded sorted : Bool) (pool : Pool) → 1 < length keys
    → tuples_by keys multithreaded sorted pool ≡ path.path_groups (all_path keys multithreaded pool) (rows_of_all (seed_of pool) keys) 0 (partitions_of pool) sorted
several [] multithreaded sorted pool many = refl
several (key ∷ []) multithreaded sorted pool many = absurd (omega (arith, many))
several (key ∷ other ∷ keys) multithreaded sorted pool many = refl

pub some_path : (keys : Frame) (rows : ℕ) (multithreaded : Bool) (workers threshold : ℕ) → 0 < length keys → path_by_keys keys rows multithreaded workers threshold ≡ path.hashed_path true rows multithreaded workers threshold
some_path [] rows multithreaded workers threshold some = absurd (omega (arith, some))
some_path (key ∷ keys) rows multithreaded workers threshold some = refl

module _ (keys : Frame) (many : 1 < length keys) (aligned : AreOfOneLength keys) (nulls : All IsNullUnlessValued keys) (multithreaded sorted : Bool) (pool : Pool) where
  -- by the bytes of the keys that tell rows apart
  pub tuples_by_bytes : 0 < length (valued_keys keys) → AreToldByRows (valued_keys keys)
      → tuples_of_bytes (valued_keys keys) multithreaded sorted pool ≡ tuples_by keys multithreaded sorted pool
  tuples_by_bytes some told =
      let rows = rows_of_all (seed_of pool) keys in
      let way : ℕ → path.Path = λ n. path.hashed_path true n multithreaded (workers_of pool) (threshold_of pool) in
      hashed_alike rows _ (all_stand keys aligned nulls some told (seed_of pool)) _ (partitions_of pool) sorted
      ∙ ap (λ n. path.path_groups (way n) rows 0 (partitions_of pool) sorted) (valued_height keys aligned some)
      ∙ ap (λ p. path.path_groups p rows 0 (partitions_of pool) sorted) (sym (some_path (valued_keys keys) (frame_height keys) multithreaded (workers_of pool) (threshold_of pool) some))
      ∙ sym (several keys multithreaded sorted pool many)

  -- where none does, as one run
  pub tuples_by_none : valued_keys keys ≡ [] → path.run_groups (null_rows (frame_height keys)) ≡ tuples_by keys multithreaded sorted pool
  tuples_by_none none =
      let rows = rows_of_all (seed_of pool) keys in
      all_run keys aligned nulls none (seed_of pool)
      ∙ ap (λ ks. path.path_groups (path_by_keys ks (frame_height keys) multithreaded (workers_of pool) (threshold_of pool)) rows 0 (partitions_of pool) sorted) (sym none)
      ∙ sym (several keys multithreaded sorted pool many)

  -- by the numbers of the groups of the keys that tell rows apart
  pub record AreTuples (numbers : RowNumbers) : Type 0 where
    pub groups : numbered numbers ≡ tuples_by keys multithreaded true pool
    pub formed : IsWellFormed (frame_height keys) (numbered numbers).pairs
    pub long : length numbers.of_rows.items ≡ frame_height keys

  pub tuples_by_numbers : 0 < length (valued_keys keys) → (way : KeyPath) (numbers : RowNumbers)
      → key_path_value way ≡ path.hashed_path true (frame_height keys) multithreaded (workers_of pool) (threshold_of pool)
      → AreNumbersUnder (agree_by (slots_of (valued_keys keys))) (rows_below (frame_height (valued_keys keys))) numbers → AreTuples numbers
  tuples_by_numbers some way numbers is are =
      let n = frame_height keys in
      let rows = rows_of_all (seed_of pool) keys in
      let alike : (i j : ℕ) → i < n → j < n → agree_by (slots_of (valued_keys keys)) i j ≡ same_slot_at (slots_at keys) i j =
      λ i j low high. sym (ap (λ f. f i j) (all_agree keys) ∙ valued_agree keys (by_recursion keys aligned nulls) i j) in
      let low : AreNumbersUnder (agree_by (slots_of (valued_keys keys))) (rows_below n) numbers =
      subst (λ m. AreNumbersUnder (agree_by (slots_of (valued_keys keys))) (rows_below m) numbers) (valued_height keys aligned some) are in
      let by = numbers_path rows way pool numbers (numbers_alike (agree_by (slots_of (valued_keys keys))) (same_slot_at (slots_at keys)) n alike numbers.first.items numbers.of_rows.items low) in
      record {
        groups =
            by.groups
            ∙ ap (λ p. path.path_groups p rows 0 (partitions_of pool) true) (is ∙ sym (some_path (valued_keys keys) n multithreaded (workers_of pool) (threshold_of pool) some))
            ∙ sym (several keys multithreaded true pool many);
        formed = subst (λ (made : Grouping). IsWellFormed n made.pairs) (sym by.groups) (path_formed (key_path_value way) rows 0 (partitions_of pool) true);
        long = by.many;
      }

-- two facts of one value
pub also_ok : {A E : Type 0} (r : Result A E) (P Q : A → Type 0) → IfOk r P → IfOk r Q → IfOk r (λ x. P x × Q x)
also_ok (Ok x) P Q p q = (p, q)
also_ok (Err e) P Q p q = tt

-- ---- lent keys

-- the first is as long as all
pub first_lent : (keys : List (Bor Series)) (d : Bor Series) → 0 < length keys → length (value_of (get_or keys 0 d).now).slots ≡ frame_height (keys_in keys)
first_lent [] d some = absurd (omega (arith, some))
first_lent (key ∷ keys) d some = refl

-- one key
pub only_lent : (keys : List (Bor Series)) (d : Bor Series) → length keys ≡ 1 → keys_in keys ≡ value_of (get_or keys 0 d).now ∷ []
only_lent [] d e = absurd (omega (arith, e))
only_lent (key ∷ []) d e = refl
only_lent (key ∷ other ∷ keys) d e = absurd (omega (arith, e))

pub none_lent : (keys : List (Bor Series)) → length keys ≡ 0 → keys_in keys ≡ []
none_lent [] e = refl
none_lent (key ∷ keys) e = absurd (omega (arith, e))

-- ---- groups in the order of their first rows

-- they are the classes of the rows, whatever the path
pub classes_by : (keys : Frame) (multithreaded : Bool) (pool : Pool) → 0 < length keys → (tuples_by keys multithreaded true pool).pairs ≡ groups (agree_by (slots_of keys)) (rows_below (frame_height keys))
classes_by [] multithreaded pool some = absurd (omega (arith, some))
classes_by (key ∷ []) multithreaded pool some =
    sorted_tuples key multithreaded pool ∙ ap (λ agree. groups agree (rows_below (length key.slots))) (sym (agree_one key.slots))
classes_by (key ∷ other ∷ keys) multithreaded pool some =
    let all = key ∷ other ∷ keys in
    sorted_path (all_path all multithreaded pool) (rows_of_all (seed_of pool) all) 0 (partitions_of pool)
    ∙ ap (λ agree. groups agree (rows_below (frame_height all))) (all_agree all)
