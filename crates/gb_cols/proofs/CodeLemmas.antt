-- Marks of the codes that occur, from the place of a first one on.
use Rattle.std.proofs.Common.{◌≡◌, ℕ, ◌+◌, ◌-◌, ◌<◌, ◌≤◌, pos, Bool, true, false, ◌||◌, List, [], ◌∷◌, ◌++◌, length, get_or, set, replicate, take, refl, sym, ap, subst, ◌∙◌, arith, true≢false, ◌↔◌, IsTrue, inl, inr}
use Rattle.std.proofs.Math.Bool.{or_assoc, or-false}
use Rattle.std.specs.List.{All, list_any}
use Rattle.std.proofs.lemmas.Bool.{cases_Bool, cases_lt}
use Rattle.std.proofs.lemmas.Bool.Decides.{Decides-int_eq}
use Rattle.std.proofs.lemmas.List.{get_or-replicate, get_or-set_other, get_or-set_same, get_or-take, length-replicate, length-set, length-take-le}
use Rattle.std.proofs.lemmas.List.Elements.{All-from_get_or, All-get_or}
use Rattle.std.proofs.lemmas.List.Folds.{list_any-append}
use Rattle.gb_defs.specs.Slot.{Slot, Nil, Num, slot_eq}
use Rattle.gb_cols.specs.Codes.{HasMarked, HoldsFrom, is_held}

pub none_marked : (first : ℕ) (marks : List Bool) → HasMarked first [] marks marks
none_marked first marks = record { long = refl; marks = λ c lt. sym (or-false (get_or marks c false)) }

pub null_marked : (first : ℕ) (marks : List Bool) → HasMarked first (Nil ∷ []) marks marks
null_marked first marks = record { long = refl; marks = λ c lt. sym (or-false (get_or marks c false)) }

or_true : (a : Bool) → a || true ≡ true
or_true true = refl
or_true false = refl

pos_same : {c code : ℕ} → pos c ≡ pos code → c ≡ code
pos_same e = cc

same_code : (a b : ℕ) → slot_eq (Num (pos a)) (Num (pos b)) ≡ true → a ≡ b
same_code a b e = pos_same ((Decides-int_eq (pos a) (pos b)).0 e)

same_held : (a b : ℕ) → a ≡ b → slot_eq (Num (pos a)) (Num (pos b)) ≡ true
same_held a b e = (Decides-int_eq (pos a) (pos b)).1 (ap (λ n. pos n) e)

-- a code with a place
pub code_marked : (first : ℕ) (marks : List Bool) (code : ℕ) → first ≤ code → code - first < length marks → HasMarked first (Num (pos code) ∷ []) marks (set marks (code - first) true)
code_marked first marks code above inside = record {
  long = length-set marks (code - first) true;
  marks =
      λ c lt. elim (cases_Bool (slot_eq (Num (pos (first + c))) (Num (pos code)))) [
        | inl e ↦
            let same : c ≡ code - first = omega (arith, same_code (first + c) code e) in
            ap (λ k. get_or (set marks (code - first) true) k false) same ∙ get_or-set_same marks (code - first) true false inside
            ∙ sym (ap (λ b. get_or marks c false || (b || false)) e ∙ or_true (get_or marks c false))
        | inr e ↦
            let apart : c ≡ code - first → ⊥ = λ same. true≢false (sym (same_held (first + c) code (omega (arith, same, above))) ∙ e) in
            get_or-set_other marks (code - first) c true false apart
            ∙ sym (ap (λ b. get_or marks c false || (b || false)) e ∙ or-false (get_or marks c false))
      ];
}

-- a code with none
pub code_beside : (first : ℕ) (marks : List Bool) (code : ℕ) → ((place : ℕ) → place < length marks → first + place ≡ code → ⊥) → HasMarked first (Num (pos code) ∷ []) marks marks
code_beside first marks code away = record {
  long = refl;
  marks =
      λ c lt. elim (cases_Bool (slot_eq (Num (pos (first + c))) (Num (pos code)))) [
        | inl e ↦ absurd (away c lt (same_code (first + c) code e))
        | inr e ↦ sym (ap (λ b. get_or marks c false || (b || false)) e ∙ or-false (get_or marks c false))
      ];
}

pub marked_more : {first : ℕ} {xs : List Slot} {old mid : List Bool} → HasMarked first xs old mid → (ys : List Slot) (new : List Bool) → HasMarked first ys mid new → HasMarked first (xs ++ ys) old new
marked_more {first} {xs} {old} {mid} before ys new behind = record {
  long = behind.long ∙ before.long;
  marks =
      λ c lt.
      behind.marks c (omega (arith, lt, before.long)) ∙ ap (λ b. b || is_held (first + c) ys) (before.marks c lt)
      ∙ or_assoc (get_or old c false) (is_held (first + c) xs) (is_held (first + c) ys)
      ∙ ap (λ b. get_or old c false || b) (sym (list_any-append (slot_eq (Num (pos (first + c)))) xs ys));
}

-- marks that began with none tell, up to a place, whether so many numbers are held
pub marks_tell : (first count n : ℕ) (slots : List Slot) (marks : List Bool) (told : Bool) → count ≤ n → HasMarked first slots (replicate n false) marks → (IsTrue told ↔ All (λ mark. mark ≡ true) (take count marks)) → IsTrue told ↔ HoldsFrom first count slots
marks_tell first count n slots marks told fits marked tells =
    let many = length-replicate n false in
    let long : length (take count marks) ≡ count = length-take-le count marks (omega (arith, fits, many, marked.long)) in
    let mark : (c : ℕ) → c < count → get_or (take count marks) c false ≡ is_held (first + c) slots =
    λ c lt.
    get_or-take count marks c false lt ∙ marked.marks c (omega (arith, lt, fits, many))
    ∙ ap (λ b. b || is_held (first + c) slots) (get_or-replicate n c false false (omega (arith, lt, fits))) in (
      λ h c lt. sym (mark c lt) ∙ All-get_or (λ mark. mark ≡ true) (take count marks) c false (omega (arith, lt, long)) (tells.0 h),
      λ held. tells.1 (All-from_get_or (λ mark. mark ≡ true) (take count marks) false (λ c lt. let inside : c < count = omega (arith, lt, long) in mark c inside ∙ held c inside)),
    )

-- numbers below a window, and those of it
pub held_more : (first count next n : ℕ) (slots : List Slot) → ((code : ℕ) → code < first → code < n → is_held code slots ≡ true) → HoldsFrom first count slots → ((code : ℕ) → first ≤ code → code < next → code < n → code < first + count) → (code : ℕ) → code < next → code < n → is_held code slots ≡ true
held_more first count next n slots before window within code lt below = elim (cases_lt code first) [
  | inl early ↦ before code early below
  | inr late ↦
      let place : code - first < count = omega (arith, late, within code late lt below) in
      subst (λ (k : ℕ). is_held k slots ≡ true) (omega (arith, late)) (window (code - first) place)
]
