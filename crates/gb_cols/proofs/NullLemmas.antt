-- Nothing but nulls: their slots, one more or some more.
use Rattle.std.proofs.Common.{◌≡◌, ℕ, ◌+◌, ◌<◌, List, [], ◌∷◌, ◌++◌, map, length, replicate, refl, sym, ◌∙◌, ap, arith, false, cond, subst}
use Rattle.std.specs.List.{All, AllByRecursion, count_by, sum}
use Rattle.std.proofs.lemmas.List.{replicate-append-replicate, length-map, length-replicate, get_or-replicate}
use Rattle.std.proofs.lemmas.List.Elements.{recursion_from_All}
use Rattle.std.proofs.lemmas.List.Folds.{sum_by-replicate}
use Rattle.std.proofs.lemmas.List.Sums.{sum_by-append}
use Rattle.gb_defs.specs.Slot.{Slot, Nil, is_nil, slot_at}
use Rattle.gb_defs.specs.ColumnType as column
use Rattle.gb_defs.specs.Column.{NotSorted, taken}
use Rattle.gb_cols.specs.Column.{appended, longer_last, pushed}
use Rattle.gb_cols.specs.Null.{null_column}

abbrev pub nulls : ℕ → List Slot
nulls n = replicate n Nil

pub null_slot : (n i : ℕ) → i < n → slot_at (nulls n) i ≡ Nil
null_slot n i lt = get_or-replicate n i Nil Nil lt

pub null_slots_count : (n : ℕ) → count_by is_nil (nulls n) ≡ n
null_slots_count n = sum_by-replicate (λ (s : Slot). cond (is_nil s) 1 0) n Nil ∙ omega arith

pub sum_more : (ns ms : List ℕ) → sum (ns ++ ms) ≡ sum ns + sum ms
sum_more ns ms = sum_by-append (λ n. n) ns ms

pub nulls_more : (m n : ℕ) → nulls (m + n) ≡ nulls m ++ nulls n
nulls_more m n = sym (replicate-append-replicate m n Nil)

module _ (name chunks : List ℕ) where
  pub null_length : length (null_column name chunks).slots ≡ sum chunks
  null_length = length-replicate (sum chunks) Nil

pub sum_last : (ns : List ℕ) (n : ℕ) → sum (ns ++ n ∷ []) ≡ sum ns + n
sum_last ns n = omega (arith, sum_more ns (n ∷ []))

longer : (ns : List ℕ) (n : ℕ) → longer_last (ns ++ n ∷ []) ≡ ns ++ (n + 1) ∷ []
longer [] n = refl
longer (m ∷ []) n = refl
longer (m ∷ k ∷ ns) n = ap (λ ks. m ∷ ks) (longer (k ∷ ns) n)

-- one null more
pub null_pushed : (name earlier : List ℕ) (last : ℕ) → null_column name (earlier ++ (last + 1) ∷ []) ≡ pushed (null_column name (earlier ++ last ∷ [])) Nil
null_pushed name earlier last =
    let total : sum (earlier ++ (last + 1) ∷ []) ≡ sum (earlier ++ last ∷ []) + 1 = omega (arith, sum_last earlier (last + 1), sum_last earlier last) in
    let slots : nulls (sum (earlier ++ (last + 1) ∷ [])) ≡ nulls (sum (earlier ++ last ∷ [])) ++ Nil ∷ [] = ap nulls total ∙ nulls_more (sum (earlier ++ last ∷ [])) 1 in
    ap (λ ss. record { name = name; dtype = column.Flat column.Null; slots = ss; chunks = earlier ++ (last + 1) ∷ []; sorted = NotSorted; all_used = false }) slots
    ∙ ap (λ ns. record { name = name; dtype = column.Flat column.Null; slots = nulls (sum (earlier ++ last ∷ [])) ++ Nil ∷ []; chunks = ns; sorted = NotSorted; all_used = false }) (sym (longer earlier last))

-- another column's nulls behind
pub null_appended : (name other chunks more : List ℕ) → null_column name (chunks ++ more) ≡ appended (null_column name chunks) (null_column other more)
null_appended name other chunks more =
    ap (λ ss. record { name = name; dtype = column.Flat column.Null; slots = ss; chunks = chunks ++ more; sorted = NotSorted; all_used = false }) (ap nulls (sum_more chunks more) ∙ nulls_more (sum chunks) (sum more))

-- nulls in any order
taken_by : (n : ℕ) (rows : List ℕ) → AllByRecursion (λ row. row < n) rows → map (slot_at (nulls n)) rows ≡ nulls (length rows)
taken_by n [] all = refl
taken_by n (row ∷ rows) all = rw (null_slot n row all.0) (ap (λ ss. Nil ∷ ss) (taken_by n rows all.1))

pub null_taken : (n : ℕ) (rows : List ℕ) → All (λ row. row < n) rows → map (slot_at (nulls n)) rows ≡ nulls (length rows)
null_taken n rows all = taken_by n rows (recursion_from_All (λ row. row < n) rows all)

few_taken : (name chunks rows : List ℕ) → All (λ row. row < length (null_column name chunks).slots) rows → All (λ row. row < sum chunks) rows
few_taken name chunks rows all = subst (λ (n : ℕ). All (λ row. row < n) rows) (null_length name chunks) all

pub null_column_taken : (name chunks rows : List ℕ) → All (λ row. row < length (null_column name chunks).slots) rows → null_column name (length rows ∷ []) ≡ taken rows (null_column name chunks)
null_column_taken name chunks rows all =
    let one : sum (length rows ∷ []) ≡ length rows = omega arith in
    let slots : nulls (sum (length rows ∷ [])) ≡ map (slot_at (nulls (sum chunks))) rows = ap nulls one ∙ sym (null_taken (sum chunks) rows (few_taken name chunks rows all)) in
    ap (λ ss. record { name = name; dtype = column.Flat column.Null; slots = ss; chunks = length rows ∷ []; sorted = NotSorted; all_used = false }) slots
    ∙ ap (λ n. record { name = name; dtype = column.Flat column.Null; slots = map (slot_at (nulls (sum chunks))) rows; chunks = n ∷ []; sorted = NotSorted; all_used = false })
    (sym (length-map rows (slot_at (nulls (sum chunks)))))
