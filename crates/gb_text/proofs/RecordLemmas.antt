-- The records of a text that were read one by one are the records of the text.
use Rattle.std.proofs.Common.{◌≡◌, ◌==◌, ℕ, ◌+◌, ◌<◌, ◌≤◌, zero, suc, Bool, true, false, cond, inl, inr, List, [], ◌∷◌, ◌++◌, length, refl, arith, Some, None}
use Rattle.std.proofs.lemmas.Bool.{cases_Bool, cond_both}
use Rattle.csv.specs.declared.parser.Config.{Config}
use Rattle.csv.specs.declared.parser.Terminator.{Terminator}
use Rattle.csv.specs.declared.parser.Terminator.TheVariants as term
use Rattle.csv.specs.declared.parser.State.{State}
use Rattle.csv.specs.declared.parser.State.TheVariants as st
use Rattle.csv.specs.declared.parser.Action.{Action}
use Rattle.csv.specs.declared.parser.Action.TheVariants as act
use Rattle.csv.specs.Machine.{Read, step, in_field, start_field, start_record, after_end, carriage_return, ends_at_end, is_end, fields_after, field_after, next_record}
use Rattle.csv.specs.Reading.{Reached, records, records_from, strip_bom, is_bom}

-- how many records can still come: one for each byte, and one at the end of the text
abbrev pub weight : State → List ℕ → ℕ
weight s xs = length xs + cond (ends_at_end s) 1 0

-- an action that ends a record leaves a state in which the end of the text ends none
record IsSettled (p : State × Action) : Type 0 where
  settled : is_end p.1 ≡ true → ends_at_end p.0 ≡ false

settled_if : (b : Bool) (p q : State × Action) → IsSettled p → IsSettled q → IsSettled (cond b p q)
settled_if true p q h k = h
settled_if false p q h k = k

settled_end : (t : Terminator) (c : ℕ) → ends_at_end (after_end t c) ≡ false
settled_end term.CRLF c = elim (c == carriage_return) as (λ b. ends_at_end (cond b st.AfterCr st.StartRecord) ≡ false) [ true ↦ refl | false ↦ refl ]
settled_end (term.Any t) c = refl

settled_skip : (s : State) → IsSettled (s, act.Skip)
settled_skip s = record { settled = λ h. cc }

settled_copy : (s : State) → IsSettled (s, act.Copy)
settled_copy s = record { settled = λ h. cc }

settled_next : (s : State) → IsSettled (s, act.EndField)
settled_next s = record { settled = λ h. cc }

settled_last : (t : Terminator) (c : ℕ) → IsSettled (after_end t c, act.EndRecord)
settled_last t c = record { settled = λ h. settled_end t c }

settled_field : (cfg : Config) (c : ℕ) → IsSettled (in_field cfg c)
settled_field cfg c =
    settled_if _ _ _ (settled_next st.StartField) (settled_if _ _ _ (settled_last cfg.terminator c) (settled_copy st.InField))

settled_start : (cfg : Config) (c : ℕ) → IsSettled (start_field cfg c)
settled_start cfg c = settled_if _ _ _ (settled_skip st.InQuoted) (settled_field cfg c)

settled_record : (cfg : Config) (c : ℕ) → IsSettled (start_record cfg c)
settled_record cfg c = settled_if _ _ _ (settled_skip st.StartRecord) (settled_if _ _ _ (settled_skip st.InComment) (settled_start cfg c))

settled_step : (cfg : Config) (s : State) (c : ℕ) → IsSettled (step cfg s c)
settled_step cfg st.StartRecord c = settled_record cfg c
settled_step cfg st.StartField c = settled_start cfg c
settled_step cfg st.InField c = settled_field cfg c
settled_step cfg st.InQuoted c = settled_if _ _ _ (settled_skip st.AfterQuote) (settled_if _ _ _ (settled_skip st.InEscape) (settled_copy st.InQuoted))
settled_step cfg st.InEscape c = settled_copy st.InQuoted
settled_step cfg st.AfterQuote c = settled_if _ _ _ (settled_copy st.InQuoted) (settled_field cfg c)
settled_step cfg st.InComment c = settled_if _ _ _ (settled_skip st.StartRecord) (settled_skip st.InComment)
settled_step cfg st.AfterCr c = settled_if _ _ _ (settled_skip st.StartRecord) (settled_record cfg c)

pub some_of : {A : Type 0} {a b : A} → Some a ≡ Some b → a ≡ b
some_of e = cc

light : (b : Bool) → cond b 1 0 ≤ 1
light true = omega arith
light false = omega arith

-- a record takes a byte, or is the one at the end of the text
pub weight_falls : (cfg : Config) (s : State) (fields : List (List ℕ)) (field xs : List ℕ) (p : Read) → next_record cfg s fields field xs ≡ Some p → weight p.1 p.2 < weight s xs
unfolding next_record
weight_falls cfg s fields field [] p e = elim (cases_Bool (ends_at_end s)) [
  | inl h ↦ let same = some_of (rw h at e) in rw (← same, h) (omega arith)
  | inr h ↦ let none = rw h at e in cc
]
weight_falls cfg s fields field (c ∷ rest) p e = elim (cases_Bool (is_end (step cfg s c).1)) [
  | inl h ↦ let same = some_of (rw h at e) in let low = (settled_step cfg s c).settled h in rw (← same, low) (omega arith)
  | inr h ↦
      let next = rw h at e in
      let less = weight_falls cfg (step cfg s c).0 (fields_after (step cfg s c).1 fields field) (field_after (step cfg s c).1 c field) rest p next in
      omega (arith, less, light (ends_at_end (step cfg s c).0))
]

-- the records that were read, where there is no other
pub records_all : (cfg : Config) (n : ℕ) (s : State) (xs : List ℕ) (rows : List (List (List ℕ))) (s2 : State) (ys : List ℕ) → weight s xs ≤ n
    → Reached cfg s xs rows s2 ys → next_record cfg s2 [] [] ys ≡ None → records_from cfg n s xs ≡ rows
unfolding Reached records_from
records_all cfg zero s xs [] s2 ys few r e = refl
records_all cfg (suc n) s xs [] s2 ys few r e = rw (r.0, r.1, e)
records_all cfg zero s xs (row ∷ rows) s2 ys few r e = let less = weight_falls cfg s [] [] xs r.0 r.1 in absurd (omega (arith, less, few))
records_all cfg (suc n) s xs (row ∷ rows) s2 ys few r e =
    let less = weight_falls cfg s [] [] xs r.0 r.1 in
    rw (r.1, records_all cfg n r.0.1 r.0.2 rows s2 ys (omega (arith, less, few)) r.3 e, r.2)

-- the records that were read, and some others
pub records_front : (cfg : Config) (n : ℕ) (s : State) (xs : List ℕ) (rows : List (List (List ℕ))) (s2 : State) (ys : List ℕ) → weight s xs ≤ n
    → Reached cfg s xs rows s2 ys → (more : List (List (List ℕ))) × (records_from cfg n s xs ≡ rows ++ more)
unfolding Reached records_from
records_front cfg n s xs [] s2 ys few r = (records_from cfg n s xs, refl)
records_front cfg zero s xs (row ∷ rows) s2 ys few r = let less = weight_falls cfg s [] [] xs r.0 r.1 in absurd (omega (arith, less, few))
records_front cfg (suc n) s xs (row ∷ rows) s2 ys few r =
    let less = weight_falls cfg s [] [] xs r.0 r.1 in
    let rest = records_front cfg n r.0.1 r.0.2 rows s2 ys (omega (arith, less, few)) r.3 in
    (rest.0, rw (r.1, rest.1, r.2))

-- there are no more records than the weight
pub records_few : (cfg : Config) (s : State) (xs : List ℕ) (rows : List (List (List ℕ))) (s2 : State) (ys : List ℕ) → Reached cfg s xs rows s2 ys → length rows ≤ weight s xs
unfolding Reached
records_few cfg s xs [] s2 ys r = omega arith
records_few cfg s xs (row ∷ rows) s2 ys r =
    let less = weight_falls cfg s [] [] xs r.0 r.1 in omega (arith, less, records_few cfg r.0.1 r.0.2 rows s2 ys r.3)

-- ---- a whole text

pub whole_records : (cfg : Config) (xs : List ℕ) (rows : List (List (List ℕ))) (s2 : State) (ys : List ℕ) → Reached cfg st.StartRecord xs rows s2 ys → next_record cfg s2 [] [] ys ≡ None
    → records cfg xs ≡ rows
whole_records cfg xs rows s2 ys r e = records_all cfg (length xs + 1) st.StartRecord xs rows s2 ys (omega arith) r e

pub first_records : (cfg : Config) (xs : List ℕ) (rows : List (List (List ℕ))) (s2 : State) (ys : List ℕ) → Reached cfg st.StartRecord xs rows s2 ys
    → (more : List (List (List ℕ))) × (records cfg xs ≡ rows ++ more)
first_records cfg xs rows s2 ys r = records_front cfg (length xs + 1) st.StartRecord xs rows s2 ys (omega arith) r

pub strip_bom-length : (xs : List ℕ) → length (strip_bom xs) ≤ length xs
unfolding strip_bom
strip_bom-length [] = omega arith
strip_bom-length (a ∷ []) = omega arith
strip_bom-length (a ∷ b ∷ []) = omega arith
strip_bom-length (a ∷ b ∷ c ∷ rest) =
    cond_both (is_bom a b c) rest (a ∷ b ∷ c ∷ rest) (λ ys. length ys ≤ length (a ∷ b ∷ c ∷ rest)) (λ e. omega arith) (λ e. omega arith)
