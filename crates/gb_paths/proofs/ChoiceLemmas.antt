-- What the path of a column tells of the column.
use Rattle.std.proofs.Common.{◌≡◌, ◌≢◌, ◌∙◌, ℕ, ◌==◌, Bool, true, false, not, ◌&&◌, ◌||◌, inl, inr, List, All, Option, Some, None, length, get_or, nat_lt, subst, sym, ap, refl}
use Rattle.std.specs.List.{list_any}
use Rattle.std.proofs.lemmas.Bool.{cases_Bool, true≢false}
use Rattle.gb_defs.specs.Column.{ColumnValue, UsesAll, UsesCodes, categories_of}
use Rattle.gb_defs.specs.ColumnType.{CategoricalOrdering, ColumnType, Flat, Fits, Categorical, Enum}
use Rattle.gb_defs.specs.Path.{KeyKind, NoValues, Numbers, Codes, ByteLists, Parts, Path, Nulls, Sorted, Perfect, Table, Threaded, code_count, hashed_path, is_flagged, kind_of, number_path, path_by_kind, text_count}
use Rattle.gb_defs.specs.Slot.{Slot, Nil, Num, Bytes, Items, is_nil}
use Rattle.gb_base.specs.Pool.{threshold_of, workers_of}
use Rattle.gb_base.specs.declared.pool.Pool.{Pool}
use Rattle.gb_values.proofs.SlotOrderLemmas.{no_parts}
use Rattle.gb_logical.proofs.CategoryLemmas.{has_texts}
use Rattle.gb_cols.specs.Codes.{IsCodeBelow}
use Rattle.gb_runs.specs.Codes.{AreCodes}
use Rattle.gb_paths.specs.Keys.{HasRuns}
use Rattle.gb_paths.specs.Tuples.{IsPerfect, column_path}

-- ---- paths by hashes

abbrev pub is_hashed : Path → Bool
is_hashed Table = true
is_hashed Threaded = true
is_hashed _ = false

hashes : (by_bytes : Bool) (rows : ℕ) (multithreaded : Bool) (workers threshold : ℕ) → is_hashed (hashed_path by_bytes rows multithreaded workers threshold) ≡ true
hashes by_bytes rows multithreaded workers threshold = elim (cases_Bool (multithreaded && nat_lt 1 workers && (by_bytes || nat_lt threshold rows))) [
  | inl e ↦ rw e refl
  | inr e ↦ rw e refl
]

pub hashed_apart : (path : Path) → is_hashed path ≡ false → (by_bytes : Bool) (rows : ℕ) (multithreaded : Bool) (workers threshold : ℕ) → hashed_path by_bytes rows multithreaded workers threshold ≡ path → ⊥
hashed_apart path other by_bytes rows multithreaded workers threshold e = true≢false (sym (hashes by_bytes rows multithreaded workers threshold) ∙ ap is_hashed e ∙ other)

-- by hashes no rows go by runs
pub hashed_no_runs : (by_bytes : Bool) (rows : ℕ) (multithreaded : Bool) (workers threshold : ℕ) → hashed_path by_bytes rows multithreaded workers threshold ≡ Sorted → ⊥
hashed_no_runs = hashed_apart Sorted refl

-- ---- paths by codes

number_no_codes : (key : ColumnValue) (multithreaded : Bool) (workers threshold : ℕ) → number_path key multithreaded workers threshold ≡ Perfect → ⊥
number_no_codes key multithreaded workers threshold e = elim (cases_Bool (is_flagged key.sorted)) [
  | inl f ↦ cc (rw f at e)
  | inr f ↦ hashed_apart Perfect refl false (length key.slots) multithreaded workers threshold (rw f at e)
]

bytes_no_codes : (key : ColumnValue) (multithreaded : Bool) (workers threshold : ℕ) → path_by_kind ByteLists key multithreaded workers threshold ≡ Perfect → ⊥
bytes_no_codes key multithreaded workers threshold e = elim (cases_Bool (is_flagged key.sorted && not (list_any is_nil key.slots) && (length key.chunks == 1))) [
  | inl f ↦ cc (rw f at e)
  | inr f ↦ hashed_apart Perfect refl true (length key.slots) multithreaded workers threshold (rw f at e)
]

module _ (column : ColumnValue) (multithreaded : Bool) (workers threshold : ℕ) where
  perfect_by : (kind : KeyKind) → kind_of column.dtype ≡ kind → path_by_kind kind column multithreaded workers threshold ≡ Perfect → IsPerfect column
  perfect_by NoValues is e = cc e
  perfect_by Numbers is e = absurd (number_no_codes column multithreaded workers threshold e)
  perfect_by Codes is e = elim (cases_Bool ((length column.slots == 0) || column.all_used)) [
    | inl f ↦ record { kind = is; used = f }
    | inr f ↦ absurd (number_no_codes column multithreaded workers threshold (rw f at e))
  ]
  perfect_by ByteLists is e = absurd (bytes_no_codes column multithreaded workers threshold e)
  perfect_by Parts is e = absurd (hashed_apart Perfect refl true (length column.slots) multithreaded workers threshold e)

pub perfect_told : (column : ColumnValue) (multithreaded : Bool) (pool : Pool) → column_path column multithreaded pool ≡ Perfect → IsPerfect column
perfect_told column multithreaded pool e = perfect_by column multithreaded (workers_of pool) (threshold_of pool) (kind_of column.dtype) refl e

-- ---- one run of nulls

number_no_nulls : (key : ColumnValue) (multithreaded : Bool) (workers threshold : ℕ) → number_path key multithreaded workers threshold ≡ Nulls → ⊥
number_no_nulls key multithreaded workers threshold e = elim (cases_Bool (is_flagged key.sorted)) [
  | inl f ↦ cc (rw f at e)
  | inr f ↦ hashed_apart Nulls refl false (length key.slots) multithreaded workers threshold (rw f at e)
]

module _ (column : ColumnValue) (multithreaded : Bool) (workers threshold : ℕ) where
  nulls_by : (kind : KeyKind) → path_by_kind kind column multithreaded workers threshold ≡ Nulls → kind ≡ NoValues
  nulls_by NoValues e = refl
  nulls_by Numbers e = absurd (number_no_nulls column multithreaded workers threshold e)
  nulls_by Codes e = elim (cases_Bool ((length column.slots == 0) || column.all_used)) [
    | inl f ↦ cc (rw f at e)
    | inr f ↦ absurd (number_no_nulls column multithreaded workers threshold (rw f at e))
  ]
  nulls_by ByteLists e = elim (cases_Bool (is_flagged column.sorted && not (list_any is_nil column.slots) && (length column.chunks == 1))) [
    | inl f ↦ cc (rw f at e)
    | inr f ↦ absurd (hashed_apart Nulls refl true (length column.slots) multithreaded workers threshold (rw f at e))
  ]
  nulls_by Parts e = absurd (hashed_apart Nulls refl true (length column.slots) multithreaded workers threshold e)

-- a column goes so only where its type has no values
pub nulls_told : (column : ColumnValue) (multithreaded : Bool) (pool : Pool) → column_path column multithreaded pool ≡ Nulls → kind_of column.dtype ≡ NoValues
nulls_told column multithreaded pool e = nulls_by column multithreaded (workers_of pool) (threshold_of pool) (kind_of column.dtype) e

-- a column that goes another way than as one run of nulls has values
pub valued_told : (column : ColumnValue) (multithreaded : Bool) (pool : Pool) (path : Path) → column_path column multithreaded pool ≡ path → (Nulls ≡ path → ⊥) → kind_of column.dtype ≢ NoValues
valued_told column multithreaded pool path e other none = other (sym (ap (λ kind. path_by_kind kind column multithreaded (workers_of pool) (threshold_of pool)) none) ∙ e)

-- a column that goes by runs has values, and they hold no others
pub runs_told : (column : ColumnValue) (multithreaded : Bool) (pool : Pool) → column_path column multithreaded pool ≡ Sorted → HasRuns column.dtype
runs_told column multithreaded pool e = record {
  valued = valued_told column multithreaded pool Sorted e (λ h. cc h);
  flat = λ parts. hashed_apart Sorted refl true (length column.slots) multithreaded (workers_of pool) (threshold_of pool)
      (sym (ap (λ kind. path_by_kind kind column multithreaded (workers_of pool) (threshold_of pool)) parts) ∙ e);
}

-- ---- codes that are all held

code_of_categories : (texts : List (List ℕ)) (ordering : CategoricalOrdering) (slot : Slot) → Fits (Flat (Categorical (Some texts) ordering)) slot → IsCodeBelow (length texts) slot
code_of_categories texts ordering Nil fits = tt
code_of_categories texts ordering (Num n) fits = fits.1
code_of_categories texts ordering (Bytes bytes) fits = absurd fits
code_of_categories texts ordering (Items parts) fits = absurd (no_parts (Categorical (Some texts) ordering) 0 parts fits)

code_of_enum : (texts : List (List ℕ)) (ordering : CategoricalOrdering) (slot : Slot) → Fits (Flat (Enum (Some texts) ordering)) slot → IsCodeBelow (length texts) slot
code_of_enum texts ordering Nil fits = tt
code_of_enum texts ordering (Num n) fits = fits.1
code_of_enum texts ordering (Bytes bytes) fits = absurd fits
code_of_enum texts ordering (Items parts) fits = absurd (no_parts (Enum (Some texts) ordering) 0 parts fits)

code_of_texts : (t : ColumnType) (texts : List (List ℕ)) (slot : Slot) → categories_of t ≡ Some texts → Fits t slot → IsCodeBelow (length texts) slot
code_of_texts t texts slot known fits =
    let typed = has_texts t texts known in
    elim typed.1 [
      | inl same ↦ code_of_categories texts typed.0 slot (subst (λ (u : ColumnType). Fits u slot) same fits)
      | inr same ↦ code_of_enum texts typed.0 slot (subst (λ (u : ColumnType). Fits u slot) same fits)
    ]

codes_held : (t : ColumnType) (slots : List Slot) (known : Option (List (List ℕ))) → categories_of t ≡ known → UsesCodes known slots → All (Fits t) slots → AreCodes (text_count known) slots
codes_held t slots None is used fits = absurd used
codes_held t slots (Some texts) is used fits = record { codes = λ k d lt. code_of_texts t texts (get_or slots k d) is (fits k d lt); used = used }

pub codes_used : (t : ColumnType) (slots : List Slot) → UsesAll t slots → All (Fits t) slots → AreCodes (code_count t) slots
codes_used t slots used fits = codes_held t slots (categories_of t) refl used fits
