-- Keys that have neither as many rows as are grouped nor one.
use Rattle.std.proofs.Common.{◌≡◌, ◌∙◌, ◌==◌, ◌||◌, ℕ, ◌<◌, Bool, true, false, inl, inr, not, List, [], ◌∷◌, Some, None, arith, suc, length, get_or, nat_lt, refl, eq-eqb}
use Rattle.std.specs.List.{list_any}
use Rattle.std.proofs.lemmas.Bool.{cases_Bool, eqb-true, ltb-false}
use Rattle.gb_defs.specs.Column.{ColumnValue, Frame}
use Rattle.std.specs.Option.{option_or}
use Rattle.gb_defs.specs.Answer.{height_of}
use Rattle.gb_defs.specs.Fault.{ShapeMismatch, keyless_fault, rows_fault, shape_fault}
use Rattle.gb_defs.specs.Groups.{HasRowNumbers}
use Rattle.gb_frame.specs.declared.key.Key.{Key}
use Rattle.gb_frame.specs.Key.{AreOrOne, IsOrOne, columns_of, key_value}
use Rattle.gb_frame.specs.Refusals.{keys_fault}
use Rattle.gb_frame.proofs.CauseLemmas.{or_none}
use Rattle.gb_frame.proofs.GroupByLemmas.{any_found, any_mapped}
use Rattle.gb_frame.proofs.GroupingLemmas.{keyless_none}

module _ (height : ℕ) where
  abbrev misfits : ColumnValue → Bool
  misfits key = not ((length key.slots == height) || (length key.slots == 1))

  neither : (key : ColumnValue) (long : ℕ) → long ≡ length key.slots → (long ≡ height → ⊥) → (long ≡ 1 → ⊥) → misfits key ≡ true
  neither key long same other more = elim (cases_Bool (length key.slots == height)) [
    | inl e ↦ absurd (other (same ∙ eqb-true (length key.slots) height e))
    | inr e ↦ elim (cases_Bool (length key.slots == 1)) [
      | inl one ↦ absurd (more (same ∙ eqb-true (length key.slots) 1 one))
      | inr many ↦ rw (e, many) refl
    ]
  ]

  pub other_length : (keys : List Key) (i : ℕ) (key : Key) → i < length keys → key ≡ get_or keys i key → (long : ℕ) → long ≡ length (key_value key).slots → (long ≡ height → ⊥) → (long ≡ 1 → ⊥)
      → shape_fault height (columns_of keys) ≡ Some ShapeMismatch
  other_length keys i key lt is long same other more =
      let bad = neither (key_value key) long same other more in
      rw (any_mapped misfits key_value keys ∙ any_found (λ (k : Key). misfits (key_value k)) keys i key lt is bad) refl

  fits_not : (key : ColumnValue) → IsOrOne height key → misfits key ≡ false
  fits_not key (inl e) = rw (eq-eqb (length key.slots) height e) refl
  fits_not key (inr e) = by (length key.slots == height)
    where
      by : (b : Bool) → not (b || (length key.slots == 1)) ≡ false
      by true = refl
      by false = rw (eq-eqb (length key.slots) 1 e) refl

  none_misfits : (keys : Frame) → AreOrOne height keys → list_any misfits keys ≡ false
  none_misfits [] are = refl
  none_misfits (key ∷ keys) are = rw (fits_not key (are 0 key (omega arith)), none_misfits keys (λ i d lt. are (suc i) d (omega (arith, lt)))) refl

  -- keys that have as many rows or one are not refused
  pub fitting : (keys : Frame) → AreOrOne height keys → shape_fault height keys ≡ None
  fitting keys are = rw (none_misfits keys are) refl

-- keys that fit are refused for their number of rows alone
pub fitting_left : (frame keys : Frame) → 0 < length keys → AreOrOne (height_of frame keys) keys → keys_fault frame keys ≡ rows_fault (height_of frame keys)
fitting_left frame keys some are = rw (keyless_none keys some, fitting (height_of frame keys) keys are) refl

-- there is one where they are not refused
pub keyless_some : (frame keys : Frame) → keys_fault frame keys ≡ None → 0 < length keys
keyless_some frame [] none = cc none
keyless_some frame (key ∷ keys) none = omega arith

-- and few rows
few_of : (height : ℕ) → rows_fault height ≡ None → HasRowNumbers height
few_of height none = elim (cases_Bool (nat_lt 4294967295 height)) [
  | inl many ↦ cc (rw many at none)
  | inr few ↦ omega (arith, ltb-false 4294967295 height few)
]

pub fitting_few : (frame keys : Frame) → keys_fault frame keys ≡ None → HasRowNumbers (height_of frame keys)
fitting_few frame keys none =
    let height = height_of frame keys in
    let behind = (or_none (keyless_fault keys) (option_or (shape_fault height keys) (rows_fault height)) none).1 in
    few_of height (or_none (shape_fault height keys) (rows_fault height) behind).1
