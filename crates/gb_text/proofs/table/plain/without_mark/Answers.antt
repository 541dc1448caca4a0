use Rattle.std.proofs.Common.{◌≡◌, ◌≢◌, ◌<◌, ◌≤◌, ◌⊎◌, ◌==◌, ◌∷◌, ℕ, List, [], inl, inr, length, get_or, drop, refl, arith}
use Rattle.std.proofs.lemmas.Bool.{cases_Bool, ne_eqb}
use Rattle.std.proofs.lemmas.List.{take_rest}
use Rattle.csv.specs.Reading.{strip_bom}
use Rattle.gb_text.proofs.table.plain.without_mark.Goals as goal
use Rattle.gb_text.proofs.table.plain.without_mark.Goals.{else-bytes-gt2-via-then-bytes-gt2+then-bytes+then-bytes-2+else-bytes-3, else-bytes-gt2-via-then-bytes-gt2+then-bytes+else-bytes-2, else-bytes-gt2-via-then-bytes-gt2+else-bytes, else-bytes-gt2-via-else-bytes-gt2}

marked : (bytes : List ℕ) → 2 < length bytes → get_or bytes 0 0 ≡ 239 → get_or bytes 1 0 ≡ 187 → get_or bytes 2 0 ≡ 191 → drop 3 bytes ≡ strip_bom bytes
unfolding strip_bom
marked [] long a b c = absurd (omega (arith, long))
marked (x ∷ []) long a b c = absurd (omega (arith, long))
marked (x ∷ y ∷ []) long a b c = absurd (omega (arith, long))
marked (x ∷ y ∷ z ∷ rest) long a b c = rw (a, b, c) refl

unmarked : (bytes : List ℕ) → (length bytes ≤ 2) ⊎ ((get_or bytes 0 0 ≢ 239) ⊎ ((get_or bytes 1 0 ≢ 187) ⊎ (get_or bytes 2 0 ≢ 191))) → bytes ≡ strip_bom bytes
unfolding strip_bom
unmarked [] which = refl
unmarked (x ∷ []) which = refl
unmarked (x ∷ y ∷ []) which = refl
unmarked (x ∷ y ∷ z ∷ rest) (inl short) = absurd (omega (arith, short))
unmarked (x ∷ y ∷ z ∷ rest) (inr (inl a)) = rw (ne_eqb x 239 a) refl
unmarked (x ∷ y ∷ z ∷ rest) (inr (inr (inl b))) = elim (cases_Bool (x == 239)) [ inl same ↦ rw (same, ne_eqb y 187 b) refl | inr other ↦ rw other refl ]
unmarked (x ∷ y ∷ z ∷ rest) (inr (inr (inr c))) = elim (cases_Bool (x == 239)) [
  | inl same ↦ elim (cases_Bool (y == 187)) [ inl too ↦ rw (same, too, ne_eqb z 191 c) refl | inr other ↦ rw (same, other) refl ]
  | inr other ↦ rw other refl
]

pub returns-then-bytes-3 : goal.returns-then-bytes-3
returns-then-bytes-3 c = rw (take_rest c.args.bytes.now 3) (marked c.args.bytes.now c.if-bytes-gt2.true c.if-bytes.true c.if-bytes-2.true c.if-bytes-3.true)

pub returns : goal.returns
returns c = unmarked c.args.bytes.now (elim c.else-bytes-gt2.branch [
  | else-bytes-gt2-via-then-bytes-gt2+then-bytes+then-bytes-2+else-bytes-3 w ↦ inr (inr (inr w.if-bytes-3.false))
  | else-bytes-gt2-via-then-bytes-gt2+then-bytes+else-bytes-2 w ↦ inr (inr (inl w.if-bytes-2.false))
  | else-bytes-gt2-via-then-bytes-gt2+else-bytes w ↦ inr (inl w.if-bytes.false)
  | else-bytes-gt2-via-else-bytes-gt2 w ↦ inl w.if-bytes-gt2.false
])
