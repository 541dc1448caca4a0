-- What is known of the front of a text holds whatever more stands behind it.
use Rattle.std.proofs.Common.{◌≡◌, ℕ, ◌<◌, ◌≤◌, zero, suc, inl, inr, List, [], ◌∷◌, ◌++◌, append_assoc, length, length-append, get_or, drop, refl, sym, ◌∙◌, ap, arith, Some}
use Rattle.std.proofs.lemmas.Bool.{cases_Bool}
use Rattle.csv.specs.declared.parser.Config.{Config}
use Rattle.csv.specs.declared.parser.State.{State}
use Rattle.csv.specs.Machine.{Read, ends_at_end, field_after, fields_after, is_end, next_record, step}
use Rattle.csv.specs.Reading.{Reached, default_config, is_bom, strip_bom}
use Rattle.gb_text.specs.Building.{Building}
use Rattle.gb_text.specs.Part.{IsPart}
use Rattle.gb_text.specs.Plain.{BeginsWith, GoesOn, IsBehind}
use Rattle.gb_text.specs.Stream.{IsHeaded}
use Rattle.gb_text.proofs.RecordLemmas.{some_of}

-- ---- records

-- a record that ends before the text does is the same with more behind
pub next_longer : (cfg : Config) (s : State) (fields : List (List ℕ)) (field xs more : List ℕ) (p : Read) → next_record cfg s fields field xs ≡ Some p → 0 < length p.2
    → next_record cfg s fields field (xs ++ more) ≡ Some (p.0, p.1, p.2 ++ more)
unfolding next_record
next_longer cfg s fields field [] more p e some = elim (cases_Bool (ends_at_end s)) [
  | inl h ↦ let same = some_of (rw h at e) in let none : length p.2 ≡ 0 = ap (λ q. length q.2) (sym same) in absurd (omega (arith, some, none))
  | inr h ↦ let none = rw h at e in cc
]
next_longer cfg s fields field (c ∷ rest) more p e some = elim (cases_Bool (is_end (step cfg s c).1)) [
  | inl h ↦ let same = some_of (rw h at e) in rw (← same, h) refl
  | inr h ↦
      let next = rw h at e in
      rw h (next_longer cfg (step cfg s c).0 (fields_after (step cfg s c).1 fields field) (field_after (step cfg s c).1 c field) rest more p next some)
]

-- what is left behind a record is no longer than the text
next_shorter : (cfg : Config) (s : State) (fields : List (List ℕ)) (field xs : List ℕ) (p : Read) → next_record cfg s fields field xs ≡ Some p → length p.2 ≤ length xs
unfolding next_record
next_shorter cfg s fields field [] p e = elim (cases_Bool (ends_at_end s)) [
  | inl h ↦ let same = some_of (rw h at e) in rw (← same) (omega arith)
  | inr h ↦ let none = rw h at e in cc
]
next_shorter cfg s fields field (c ∷ rest) p e = elim (cases_Bool (is_end (step cfg s c).1)) [
  | inl h ↦ let same = some_of (rw h at e) in rw (← same) (omega arith)
  | inr h ↦
      let next = rw h at e in
      let less = next_shorter cfg (step cfg s c).0 (fields_after (step cfg s c).1 fields field) (field_after (step cfg s c).1 c field) rest p next in
      omega (arith, less)
]

reached_shorter : (cfg : Config) (s : State) (xs : List ℕ) (rows : List (List (List ℕ))) (t : State) (ys : List ℕ) → Reached cfg s xs rows t ys → length ys ≤ length xs
unfolding Reached
reached_shorter cfg s xs [] t ys r = let same = ap length r.1 in omega (arith, same)
reached_shorter cfg s xs (row ∷ rows) t ys r =
    let first = next_shorter cfg s [] [] xs r.0 r.1 in
    let rest = reached_shorter cfg r.0.1 r.0.2 rows t ys r.3 in
    omega (arith, first, rest)

pub reached_longer : (cfg : Config) (s : State) (xs more : List ℕ) (rows : List (List (List ℕ))) (t : State) (ys : List ℕ) → Reached cfg s xs rows t ys → 0 < length ys → Reached cfg s (xs ++ more) rows t (ys ++ more)
unfolding Reached
reached_longer cfg s xs more [] t ys r some = (r.0, ap (λ zs. zs ++ more) r.1)
reached_longer cfg s xs more (row ∷ rows) t ys r some =
    let rest = reached_shorter cfg r.0.1 r.0.2 rows t ys r.3 in
    let first = next_longer cfg s [] [] xs more r.0 r.1 (omega (arith, rest, some)) in
    ((r.0.0, r.0.1, r.0.2 ++ more), first, r.2, reached_longer cfg r.0.1 r.0.2 more rows t ys r.3 some)

goes_longer : (s : State) (left rest more : List ℕ) → GoesOn s left rest → GoesOn s (left ++ more) (rest ++ more)
goes_longer s left rest more g = record {
  always = λ m. rw (append_assoc left more m, append_assoc rest more m) (g.always (more ++ m));
  some = λ h. some_more left rest g.some h;
}
  where
    some_more : (xs ys : List ℕ) → (0 < length ys → 0 < length xs) → 0 < length (ys ++ more) → 0 < length (xs ++ more)
    some_more xs [] f h = omega (arith, h, length-append xs more)
    some_more xs (y ∷ ys) f h = let some = f (omega arith) in omega (arith, some, length-append xs more)

-- ---- a part of a text, and a header

-- a part behind which something stands is one of the longer text
pub part_longer : (names : List (List ℕ)) (null_word : List ℕ) (header : List (List ℕ)) (text rest more : List ℕ) (columns : List Building) → IsPart names null_word header text rest columns → 0 < length rest
    → IsPart names null_word header (text ++ more) (rest ++ more) columns
part_longer names null_word header text rest more columns p some = record {
  heads = p.heads;
  rows = p.rows;
  slots = p.slots;
  state = p.state;
  left = p.left ++ more;
  heads_are = p.heads_are;
  reached = reached_longer default_config _ text more p.rows p.state p.left p.reached (p.goes_on.some some);
  goes_on = goes_longer p.state p.left rest more p.goes_on;
  slots_are = p.slots_are;
  columns_are = p.columns_are;
}

-- what stands behind a part is no longer than the text
pub part_shorter : (names : List (List ℕ)) (null_word : List ℕ) (header : List (List ℕ)) (text rest : List ℕ) (columns : List Building) → IsPart names null_word header text rest columns → 0 < length rest → 0 < length text
part_shorter names null_word header text rest columns p some =
    let left = p.goes_on.some some in
    omega (arith, left, reached_shorter default_config _ text p.rows p.state p.left p.reached)

drop_longer : (n : ℕ) (xs more : List ℕ) → 0 < length (drop n xs) → drop n (xs ++ more) ≡ drop n xs ++ more
drop_longer zero xs more some = refl
drop_longer (suc n) [] more some = absurd (omega (arith, some))
drop_longer (suc n) (x ∷ xs) more some = drop_longer n xs more some

pub behind_longer : (text rest more : List ℕ) → IsBehind text rest → 0 < length rest → IsBehind (text ++ more) (rest ++ more)
behind_longer text rest more b some = record {
  count = b.count;
  is = let held : 0 < length (drop b.count text) = rw b.is at some in ap (λ xs. xs ++ more) b.is ∙ sym (drop_longer b.count text more held);
}

begins_longer : (fields : List (List ℕ)) (text rest more : List ℕ) → BeginsWith fields text rest → 0 < length rest → BeginsWith fields (text ++ more) (rest ++ more)
begins_longer fields text rest more b some = record {
  state = b.state;
  left = b.left ++ more;
  reads = next_longer default_config _ [] [] text more (fields, b.state, b.left) b.reads (b.goes_on.some some);
  goes_on = goes_longer b.state b.left rest more b.goes_on;
  behind = behind_longer text rest more b.behind some;
}

-- a byte order mark is known by three bytes
mark_longer : (bytes more : List ℕ) → 3 ≤ length bytes → strip_bom (bytes ++ more) ≡ strip_bom bytes ++ more
unfolding strip_bom
mark_longer [] more long = absurd (omega (arith, long))
mark_longer (a ∷ []) more long = absurd (omega (arith, long))
mark_longer (a ∷ b ∷ []) more long = absurd (omega (arith, long))
mark_longer (a ∷ b ∷ c ∷ bytes) more long = elim (cases_Bool (is_bom a b c)) [ inl h ↦ rw h refl | inr h ↦ rw h refl ]

first_kept : (xs more : List ℕ) → 0 < length xs → get_or (xs ++ more) 0 0 ≡ get_or xs 0 0
first_kept [] more some = absurd (omega (arith, some))
first_kept (x ∷ xs) more some = refl

pub headed_longer : (bytes more : List ℕ) (header : List (List ℕ)) (rest : List ℕ) → IsHeaded bytes header rest → 3 ≤ length bytes → 0 < length rest → IsHeaded (bytes ++ more) header (rest ++ more)
headed_longer bytes more header rest h long some =
    let mark = mark_longer bytes more long in
    let first = first_kept (strip_bom bytes) more h.some in
    record {
      some = rw mark (omega (arith, h.some, length-append (strip_bom bytes) more));
      feed = rw (mark, first) h.feed;
      return = rw (mark, first) h.return;
      begins = rw mark (begins_longer header (strip_bom bytes) rest more h.begins some);
    }
