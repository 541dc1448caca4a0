-- What notes hold of a line, and of two.
use Rattle.std.proofs.Common.{◌≡◌, ℕ, ◌≤◌, ◌+◌, ◌++◌, Bool, true, false, inl, inr, List, Option, Some, None, option_map, length, take, sym, ap, subst, ◌∙◌, arith, append_assoc, length-append}
use Rattle.std.proofs.lemmas.Bool.{cases_Bool, cases_lt}
use Rattle.std.proofs.lemmas.List.{take-append-le}
use Rattle.std.proofs.Math.Seq.{take-append-add}
use Rattle.gb_base.specs.Device.{Rose}
use Rattle.gb_text.specs.Moved.{HasWritten, Holds, HoldsPart}

pub noted : (text : List ℕ) (told : Bool) (before after : Option (List ℕ)) (faults faults_after : ℕ) → (told ≡ true → Holds text before after)
    → (told ≡ false → Rose faults faults_after) → (told ≡ false → HoldsPart text before after) → HasWritten text before after faults faults_after
noted text told before after faults faults_after whole failed part = elim (cases_Bool told) [ inl t ↦ inl (whole t) | inr f ↦ inr (failed f, part f) ]

-- a count that rose between rose over all
pub rose_between : (a b c d : ℕ) → a ≤ b → Rose b c → b ≤ c → c ≤ d → Rose a d
rose_between a b c d first (inl lt) more last = inl (omega (arith, first, lt, last))
rose_between a b c d first (inr all) more last = elim (cases_lt a b) [
  | inl lt ↦ inl (omega (arith, lt, more, last))
  | inr same ↦ inr (omega (arith, same, all))
]

-- a line that was not taken whole is a part of more
pub part_of_more : (text more : List ℕ) (before after : Option (List ℕ)) → HoldsPart text before after → HoldsPart (text ++ more) before after
part_of_more text more before after h = record {
  count = h.count;
  less = omega (arith, h.less, length-append text more);
  part = h.part ∙ ap (λ t. option_map (λ held. held ++ t) before) (sym (take-append-le h.count text more (omega (arith, h.less))));
}

-- a line, and another behind it as far as it was taken
pub two_lines : (first second : List ℕ) (before middle after : Option (List ℕ)) → Holds first before middle → Holds second middle after → Holds (first ++ second) before after
two_lines first second None middle after h k = k ∙ ap (option_map (λ held. held ++ second)) h
two_lines first second (Some b) middle after h k = k ∙ ap (option_map (λ held. held ++ second)) h ∙ ap (λ t. Some t) (append_assoc b first second)

pub line_and_part : (first second : List ℕ) (before middle after : Option (List ℕ)) → Holds first before middle → HoldsPart second middle after → HoldsPart (first ++ second) before after
line_and_part first second before middle after h k = record {
  count = length first + k.count;
  less = omega (arith, k.less, length-append first second);
  part = two_lines first (take k.count second) before middle after h k.part ∙ ap (λ t. option_map (λ held. held ++ t) before) (sym (take-append-add first second k.count));
}

-- a line, and another behind it where it was taken whole
pub both_noted : (first second : List ℕ) (told : Bool) (before middle after : Option (List ℕ)) (a b c : ℕ) → (told ≡ true → Holds first before middle) → (told ≡ false → Rose a b)
    → (told ≡ false → HoldsPart first before middle) → a ≤ b → (told ≡ true → HasWritten second middle after b c) → (told ≡ false → after ≡ middle) → b ≤ c → HasWritten (first ++ second) before after a c
both_noted first second told before middle after a b c whole failed part kept behind nothing on = elim (cases_Bool told) [
  | inl t ↦ elim (behind t) [
    | inl all ↦ inl (two_lines first second before middle after (whole t) all)
    | inr some ↦ inr (rose_between a b c c kept some.0 on (omega arith), line_and_part first second before middle after (whole t) some.1)
  ]
  | inr f ↦ inr (rose_between a a b c (omega arith) (failed f) kept on, part_of_more first second before after (subst (λ (m : Option (List ℕ)). HoldsPart first before m) (sym (nothing f)) (part f)))
]
