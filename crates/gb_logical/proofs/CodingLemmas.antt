-- The codes of texts, by the order in which the texts first stand.
use Rattle.std.proofs.Common.{◌≡◌, ℕ, suc, ◌+◌, ◌<◌, ◌≤◌, pos, Bool, true, false, cond, ◌||◌, if◌then◌else◌, List, [], ◌∷◌, ◌++◌, length, map, position, unwrap_or, Some, refl, sym, ap, subst, ◌∙◌, arith, inl, inr, ⊎_elim}
use Rattle.std.specs.Str.{bytes_eq}
use Rattle.std.specs.List.{All, list_any, position_from}
use Rattle.std.specs.Cmp.Lexicographic.{bytes_decides}
use Rattle.std.proofs.lemmas.Bool.{cases_Bool, cases_lt}
use Rattle.std.proofs.lemmas.Bool.Decides.{Decides-int_eq}
use Rattle.std.proofs.lemmas.List.{append-nil, append_assoc, length-map, length_push, map-append}
use Rattle.std.proofs.lemmas.List.Elements.{All-nil, All-push, All-append}
use Rattle.std.proofs.lemmas.List.Folds.{list_any-append}
use Rattle.std.proofs.lemmas.Iterator.Adapters.{position_from-zero}
use Rattle.gb_defs.specs.Column.{ColumnValue, NotSorted, UsesCodes, fresh_column}
use Rattle.gb_defs.specs.ColumnType.{CategoricalOrdering, Categorical, Flat, Fits, FitsParts, text, uint32}
use Rattle.gb_defs.specs.Slot.{Slot, Slots, End, And, Nil, Num, Bytes, Items, slot_eq}
use Rattle.gb_defs.specs.Table.{category_column, coded_slot, texts_after, texts_in, with_text}
use Rattle.gb_logical.specs.CategoricalBuilder.{AreCoded}
use Rattle.gb_cols.specs.Codes.{IsCodeBelow}
use Rattle.gb_logical.specs.Categorical.{category_type, coded_as}
use Rattle.gb_table.proofs.TextLemmas.{position_pushed}

-- ---- places

module _ {X : Type 0} (p : X → Bool) where
  from_kept : (i : ℕ) (xs ys : List X) → list_any p xs ≡ true → position_from p i (xs ++ ys) ≡ position_from p i xs
  from_kept i [] ys any = cc
  from_kept i (x ∷ xs) ys any = elim (cases_Bool (p x)) [
    | inl e ↦ rw e refl
    | inr e ↦ rw e (from_kept (i + 1) xs ys (sym (ap (λ b. b || list_any p xs) e) ∙ any))
  ]

  position_kept : (xs ys : List X) → list_any p xs ≡ true → position p (xs ++ ys) ≡ position p xs
  position_kept xs ys any = position_from-zero p (xs ++ ys) ∙ from_kept 0 xs ys any ∙ sym (position_from-zero p xs)

  -- where a place is found, it is among the list
  from_inside : (i : ℕ) (xs : List X) → list_any p xs ≡ true → (k : ℕ) × (position_from p i xs ≡ Some k) × (k < i + length xs)
  from_inside i [] any = cc
  from_inside i (x ∷ xs) any = elim (cases_Bool (p x)) [
    | inl e ↦ (i, ap (λ b. cond b (Some i) (position_from p (i + 1) xs)) e, omega arith)
    | inr e ↦
        let found = from_inside (i + 1) xs (sym (ap (λ b. b || list_any p xs) e) ∙ any) in
        (found.0, ap (λ b. cond b (Some i) (position_from p (i + 1) xs)) e ∙ found.1, omega (arith, found.2))
  ]

  pub position_inside : (xs : List X) → list_any p xs ≡ true → (k : ℕ) × (position p xs ≡ Some k) × (k < length xs)
  position_inside xs any =
      let found = from_inside 0 xs any in
      (found.0, position_from-zero p xs ∙ found.1, omega (arith, found.2))

-- ---- texts that are known

abbrev pub IsKnown : List (List ℕ) → Slot → Type 0
IsKnown texts Nil = Unit {0}
IsKnown texts (Num n) = Unit {0}
IsKnown texts (Bytes bytes) = list_any (bytes_eq bytes) texts ≡ true
IsKnown texts (Items parts) = Unit {0}

same_text : (bytes : List ℕ) → bytes_eq bytes bytes ≡ true
same_text bytes = (bytes_decides bytes bytes).1 refl

old_text : (texts : List (List ℕ)) (bytes : List ℕ) → list_any (bytes_eq bytes) texts ≡ true → with_text texts (Bytes bytes) ≡ texts
old_text texts bytes e = ap (λ b. if b then texts else texts ++ bytes ∷ []) e

new_text : (texts : List (List ℕ)) (bytes : List ℕ) → list_any (bytes_eq bytes) texts ≡ false → with_text texts (Bytes bytes) ≡ texts ++ bytes ∷ []
new_text texts bytes e = ap (λ b. if b then texts else texts ++ bytes ∷ []) e

known_behind : (texts more : List (List ℕ)) (slot : Slot) → IsKnown texts slot → IsKnown (texts ++ more) slot
known_behind texts more Nil known = tt
known_behind texts more (Num n) known = tt
known_behind texts more (Bytes bytes) known = list_any-append (bytes_eq bytes) texts more ∙ ap (λ b. b || list_any (bytes_eq bytes) more) known
known_behind texts more (Items parts) known = tt

coded_behind : (texts more : List (List ℕ)) (slot : Slot) → IsKnown texts slot → coded_slot (texts ++ more) slot ≡ coded_slot texts slot
coded_behind texts more Nil known = refl
coded_behind texts more (Num n) known = refl
coded_behind texts more (Bytes bytes) known = ap (λ o. Num (pos (unwrap_or o 0))) (position_kept (bytes_eq bytes) texts more known)
coded_behind texts more (Items parts) known = refl

-- the texts after a slot are those before it, with some behind them
with_behind : (texts : List (List ℕ)) (slot : Slot) → (more : List (List ℕ)) × (with_text texts slot ≡ texts ++ more)
with_behind texts Nil = ([], sym (append-nil texts))
with_behind texts (Num n) = ([], sym (append-nil texts))
with_behind texts (Bytes bytes) = elim (cases_Bool (list_any (bytes_eq bytes) texts)) [
  | inl e ↦ ([], old_text texts bytes e ∙ sym (append-nil texts))
  | inr e ↦ (bytes ∷ [], new_text texts bytes e)
]
with_behind texts (Items parts) = ([], sym (append-nil texts))

-- a slot's own text is known after it
pub known_with : (texts : List (List ℕ)) (slot : Slot) → IsKnown (with_text texts slot) slot
known_with texts Nil = tt
known_with texts (Num n) = tt
known_with texts (Bytes bytes) = elim (cases_Bool (list_any (bytes_eq bytes) texts)) [
  | inl e ↦ ap (list_any (bytes_eq bytes)) (old_text texts bytes e) ∙ e
  | inr e ↦
      ap (list_any (bytes_eq bytes)) (new_text texts bytes e) ∙ list_any-append (bytes_eq bytes) texts (bytes ∷ [])
      ∙ ap (λ b. b || list_any (bytes_eq bytes) (bytes ∷ [])) e ∙ ap (λ b. b || false) (same_text bytes)
]
known_with texts (Items parts) = tt

pub known_after : (texts : List (List ℕ)) (slots : List Slot) (slot : Slot) → IsKnown texts slot → IsKnown (texts_after texts slots) slot
known_after texts [] slot known = known
known_after texts (s ∷ slots) slot known =
    let behind = with_behind texts s in
    known_after (with_text texts s) slots slot (subst (λ (ts : List (List ℕ)). IsKnown ts slot) (sym behind.1) (known_behind texts behind.0 slot known))

coded_after : (texts : List (List ℕ)) (slots : List Slot) (slot : Slot) → IsKnown texts slot → coded_slot (texts_after texts slots) slot ≡ coded_slot texts slot
coded_after texts [] slot known = refl
coded_after texts (s ∷ slots) slot known =
    let behind = with_behind texts s in
    let still = subst (λ (ts : List (List ℕ)). IsKnown ts slot) (sym behind.1) (known_behind texts behind.0 slot known) in
    coded_after (with_text texts s) slots slot still ∙ ap (λ (ts : List (List ℕ)). coded_slot ts slot) behind.1 ∙ coded_behind texts behind.0 slot known

-- ---- more slots

pub after_more : (texts : List (List ℕ)) (xs ys : List Slot) → texts_after texts (xs ++ ys) ≡ texts_after (texts_after texts xs) ys
after_more texts [] ys = refl
after_more texts (x ∷ xs) ys = after_more (with_text texts x) xs ys

with_few : (texts : List (List ℕ)) (slot : Slot) → length (with_text texts slot) ≤ length texts + 1
with_few texts Nil = omega arith
with_few texts (Num n) = omega arith
with_few texts (Bytes bytes) = elim (cases_Bool (list_any (bytes_eq bytes) texts)) [
  | inl e ↦ rw (old_text texts bytes e) (omega arith)
  | inr e ↦ rw (new_text texts bytes e, length_push texts bytes) (omega arith)
]
with_few texts (Items parts) = omega arith

-- each slot brings one text at most
pub after_few : (texts : List (List ℕ)) (slots : List Slot) → length (texts_after texts slots) ≤ length texts + length slots
after_few texts [] = omega arith
after_few texts (slot ∷ slots) = omega (arith, with_few texts slot, after_few (with_text texts slot) slots)

coded_kept : (texts : List (List ℕ)) (xs ys : List Slot) → map (coded_slot (texts_after (texts_after texts xs) ys)) xs ≡ map (coded_slot (texts_after texts xs)) xs
coded_kept texts [] ys = refl
coded_kept texts (x ∷ xs) ys =
    let known = known_with texts x in
    let one = with_text texts x in
    let later = coded_after one (xs ++ ys) x known in
    let whole = ap (λ (ts : List (List ℕ)). coded_slot ts x) (sym (after_more one xs ys)) ∙ later ∙ sym (coded_after one xs x known) in
    ap (λ s. s ∷ map (coded_slot (texts_after (texts_after one xs) ys)) xs) whole ∙ ap (λ ss. coded_slot (texts_after one xs) x ∷ ss) (coded_kept one xs ys)

pub none_coded : (known : List (List ℕ)) (before : List Slot) → AreCoded known before [] known before
none_coded known before = record { texts_are = refl; codes_are = sym (append-nil before) }

pub coded_more : {known : List (List ℕ)} {before slots : List Slot} {texts : List (List ℕ)} {codes : List Slot} → AreCoded known before slots texts codes → (more : List Slot) (texts' : List (List ℕ)) (codes' : List Slot) →
    texts' ≡ texts_after texts more → codes' ≡ codes ++ map (coded_slot texts') more → AreCoded known before (slots ++ more) texts' codes'
coded_more {known} {before} {slots} {texts} {codes} coded more texts' codes' t c =
    let both : texts' ≡ texts_after (texts_after known slots) more = t ∙ ap (λ (ts : List (List ℕ)). texts_after ts more) coded.texts_are in
    let kept : map (coded_slot texts') slots ≡ map (coded_slot texts) slots =
    ap (λ (ts : List (List ℕ)). map (coded_slot ts) slots) both ∙ coded_kept known slots more ∙ ap (λ (ts : List (List ℕ)). map (coded_slot ts) slots) (sym coded.texts_are) in
    record {
      texts_are = both ∙ sym (after_more known slots more);
      codes_are =
          c ∙ ap (λ ss. ss ++ map (coded_slot texts') more) (coded.codes_are ∙ ap (λ ss. before ++ ss) (sym kept))
          ∙ append_assoc before (map (coded_slot texts') slots) (map (coded_slot texts') more)
          ∙ ap (λ ss. before ++ ss) (sym (map-append (coded_slot texts') slots more));
    }

-- ---- which codes stand there

pub no_parts : (k : ℕ) (parts : Slots) → FitsParts text k parts → ⊥
no_parts k End fits = fits
no_parts k (And s ss) fits = no_parts (suc k) ss fits.1

below_known : (texts : List (List ℕ)) (slot : Slot) → Fits text slot → IsKnown texts slot → IsCodeBelow (length texts) (coded_slot texts slot)
below_known texts Nil fits known = tt
below_known texts (Num n) fits known = absurd fits
below_known texts (Bytes bytes) fits known =
    let found = position_inside (bytes_eq bytes) texts known in
    (found.0, ap (λ o. pos (unwrap_or o 0)) found.1, found.2)
below_known texts (Items parts) fits known = absurd (no_parts 0 parts fits)

pub first_of : (P : Slot → Type 0) (slot : Slot) (slots : List Slot) → All P (slot ∷ slots) → P slot
first_of P slot slots all = all 0 slot (omega arith)

pub rest_of : (P : Slot → Type 0) (slot : Slot) (slots : List Slot) → All P (slot ∷ slots) → All P slots
rest_of P slot slots all = λ k d lt. all (suc k) d (omega (arith, lt))

-- each code is that of a text
pub codes_below : (texts : List (List ℕ)) (slots : List Slot) → All (Fits text) slots → All (IsCodeBelow (length (texts_after texts slots))) (map (coded_slot (texts_after texts slots)) slots)
codes_below texts [] fits = All-nil (IsCodeBelow (length texts))
codes_below texts (slot ∷ slots) fits =
    let all = texts_after (with_text texts slot) slots in
    let here = below_known all slot (first_of (Fits text) slot slots fits) (known_after (with_text texts slot) slots slot (known_with texts slot)) in
    All-append (IsCodeBelow (length all)) (coded_slot all slot ∷ []) (map (coded_slot all) slots) (All-push (IsCodeBelow (length all)) [] (coded_slot all slot) (All-nil (IsCodeBelow (length all))) here)
    (codes_below (with_text texts slot) slots (rest_of (Fits text) slot slots fits))

-- a slot that brings a text is given the code of it
brings : (texts : List (List ℕ)) (slot : Slot) (c : ℕ) → length texts ≤ c → c < length (with_text texts slot) → coded_slot (with_text texts slot) slot ≡ Num (pos c)
brings texts Nil c le lt = absurd (omega arith)
brings texts (Num n) c le lt = absurd (omega arith)
brings texts (Bytes bytes) c le lt = elim (cases_Bool (list_any (bytes_eq bytes) texts)) [
  | inl e ↦ absurd (omega (arith, le, lt, ap length (old_text texts bytes e)))
  | inr e ↦
      let last : c ≡ length texts = omega (arith, le, lt, ap length (new_text texts bytes e), length_push texts bytes) in
      ap (λ (ts : List (List ℕ)). Num (pos (unwrap_or (position (bytes_eq bytes) ts) 0))) (new_text texts bytes e)
      ∙ ap (λ o. Num (pos (unwrap_or o 0))) (position_pushed (bytes_eq bytes) texts bytes e (same_text bytes)) ∙ ap (λ n. Num (pos n)) (sym last)
]
brings texts (Items parts) c le lt = absurd (omega arith)

same_code : (c : ℕ) (slot : Slot) → slot ≡ Num (pos c) → slot_eq (Num (pos c)) slot ≡ true
same_code c slot e = ap (slot_eq (Num (pos c))) e ∙ (Decides-int_eq (pos c) (pos c)).1 refl

or_true : (a b : Bool) → b ≡ true → a || b ≡ true
or_true true b e = refl
or_true false b e = e

used_after : (texts : List (List ℕ)) (slots : List Slot) (c : ℕ) → length texts ≤ c → c < length (texts_after texts slots) → list_any (slot_eq (Num (pos c))) (map (coded_slot (texts_after texts slots)) slots) ≡ true
used_after texts [] c le lt = absurd (omega arith)
used_after texts (slot ∷ slots) c le lt =
    let one = with_text texts slot in
    let all = texts_after one slots in
    ⊎_elim
    (λ low.
    ap (λ b. b || list_any (slot_eq (Num (pos c))) (map (coded_slot all) slots))
    (same_code c (coded_slot all slot) (coded_after one slots slot (known_with texts slot) ∙ brings texts slot c le low)))
    (λ high. or_true (slot_eq (Num (pos c)) (coded_slot all slot)) _ (used_after one slots c high lt))
    (cases_lt c (length one))

-- every text has its code among the codes
pub codes_used : (slots : List Slot) → UsesCodes (Some (texts_in slots)) (map (coded_slot (texts_in slots)) slots)
codes_used slots c lt = used_after [] slots c (omega arith) lt

-- ---- the column of a table's texts

module _ {slots : List Slot} {texts : List (List ℕ)} {codes : List Slot} (coded : AreCoded [] [] slots texts codes) where
  codes_here : codes ≡ map (coded_slot (texts_in slots)) slots
  codes_here = coded.codes_are ∙ ap (λ (ts : List (List ℕ)). map (coded_slot ts) slots) coded.texts_are

  pub all_below : All (Fits text) slots → All (IsCodeBelow (length texts)) codes
  all_below fits = rw (codes_here, coded.texts_are) (codes_below [] slots fits)

  pub all_used : UsesCodes (Some texts) codes
  all_used = rw (codes_here, coded.texts_are) (codes_used slots)

  abbrev made : List ℕ → CategoricalOrdering → List (List ℕ) → List Slot → ℕ → ColumnValue
  made name ordering ts ss n = record { name = name; dtype = Flat (Categorical (Some ts) ordering); slots = ss; chunks = n ∷ []; sorted = NotSorted; all_used = true }

  -- the codes as a column of their texts
  pub coded_column : (name : List ℕ) (ordering : CategoricalOrdering) → coded_as (Flat (category_type false texts ordering)) true (fresh_column name uint32 codes) ≡ category_column name ordering slots
  coded_column name ordering =
      ap (λ ts. made name ordering ts codes (length codes)) coded.texts_are ∙ ap (λ ss. made name ordering (texts_in slots) ss (length ss)) codes_here
      ∙ ap (λ n. made name ordering (texts_in slots) (map (coded_slot (texts_in slots)) slots) n) (length-map slots (coded_slot (texts_in slots)))
