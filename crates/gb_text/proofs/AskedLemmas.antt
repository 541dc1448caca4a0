-- A frame cut to the columns that are asked for is a frame.
use Rattle.std.proofs.Common.{◌≡◌, ◌==◌, ℕ, Bool, true, false, cond, inl, inr, List, [], ◌∷◌, length, refl, sym, ◌∙◌, ap, Option, Some, None}
use Rattle.std.specs.List.{list_any}
use Rattle.std.specs.Str.{bytes_eq}
use Rattle.std.specs.Cmp.Lexicographic.{bytes_decides}
use Rattle.std.proofs.lemmas.Bool.{cases_Bool, eqb-true, eq-eqb}
use Rattle.gb_defs.specs.Column.{ColumnValue, Frame, IsFrame, all_have_length, find_column, frame_height, names_of, repeated_after}
use Rattle.gb_text.specs.Asked.{is_asked, kept}

-- ---- columns by their names

module _ (names : List (List ℕ)) where
  find_step : (c : ColumnValue) (cs : Frame) (name : List ℕ) (b : Bool) → is_asked names name ≡ true → is_asked names c.name ≡ b → find_column (kept names cs) name ≡ find_column cs name
      → find_column (kept names (c ∷ cs)) name ≡ find_column (c ∷ cs) name
  find_step c cs name true asked e h = rw (e, h) refl
  find_step c cs name false asked e h = elim (cases_Bool (bytes_eq c.name name)) [
    | inl same ↦ let bad : true ≡ false = sym asked ∙ ap (is_asked names) (sym ((bytes_decides c.name name).0 same)) ∙ e in cc
    | inr other ↦ rw (e, other) h
  ]

  pub find_kept : (frame : Frame) (name : List ℕ) → is_asked names name ≡ true → find_column (kept names frame) name ≡ find_column frame name
  find_kept [] name asked = refl
  find_kept (c ∷ cs) name asked = find_step c cs name (is_asked names c.name) asked refl (find_kept cs name asked)

-- ---- what is kept is a frame

pub aligned_tail : (n : ℕ) (c : ColumnValue) (cs : Frame) → all_have_length n (c ∷ cs) ≡ true → (length c.slots ≡ n) × (all_have_length n cs ≡ true)
aligned_tail n c cs e = elim (cases_Bool (length c.slots == n)) [
  | inl h ↦ let rest = rw h at e in (eqb-true (length c.slots) n h, rest)
  | inr h ↦ let bad = rw h at e in cc
]

aligned_at : (n : ℕ) (frame : Frame) → all_have_length n frame ≡ true → all_have_length (frame_height frame) frame ≡ true
aligned_at n [] all = refl
aligned_at n (c ∷ cs) all = ap (λ k. all_have_length k (c ∷ cs)) (aligned_tail n c cs all).0 ∙ all

seen_tail : (name : List ℕ) (seen : List (List ℕ)) (rest : Option (List ℕ)) → cond (list_any (bytes_eq name) seen) (Some name) rest ≡ None → (list_any (bytes_eq name) seen ≡ false) × (rest ≡ None)
seen_tail name seen rest e = elim (cases_Bool (list_any (bytes_eq name) seen)) [
  | inl h ↦ let bad = rw h at e in cc
  | inr h ↦ (h, rw h at e)
]

-- a name among the first names is among the others
pub record IsAmong (known seen : List (List ℕ)) : Type 0 where
  pub found : (name : List ℕ) → list_any (bytes_eq name) known ≡ true → list_any (bytes_eq name) seen ≡ true

among_both : (name : List ℕ) (known seen : List (List ℕ)) → IsAmong known seen → IsAmong (name ∷ known) (name ∷ seen)
among_both name known seen s = record {
  found = λ other h. elim (cases_Bool (bytes_eq other name)) [
    | inl same ↦ rw same refl
    | inr differs ↦ rw differs (s.found other (rw differs at h))
  ];
}

among_more : (name : List ℕ) (known seen : List (List ℕ)) → IsAmong known seen → IsAmong known (name ∷ seen)
among_more name known seen s = record {
  found = λ other h. elim (cases_Bool (bytes_eq other name)) [
    | inl same ↦ rw same refl
    | inr differs ↦ rw differs (s.found other h)
  ];
}

unknown : (name : List ℕ) (known seen : List (List ℕ)) → IsAmong known seen → list_any (bytes_eq name) seen ≡ false → list_any (bytes_eq name) known ≡ false
unknown name known seen s none = elim (cases_Bool (list_any (bytes_eq name) known)) [
  | inl h ↦ let bad : true ≡ false = sym (s.found name h) ∙ none in cc
  | inr h ↦ h
]

module _ (names : List (List ℕ)) where
  distinct_kept : (known seen : List (List ℕ)) (frame : Frame) → IsAmong known seen → repeated_after seen (names_of frame) ≡ None → repeated_after known (names_of (kept names frame)) ≡ None
  distinct_kept known seen [] s e = refl
  distinct_kept known seen (c ∷ cs) s e =
      let p = seen_tail c.name seen (repeated_after (c.name ∷ seen) (names_of cs)) e in
      elim (cases_Bool (is_asked names c.name)) [
        | inl h ↦ rw (h, unknown c.name known seen s p.0) (distinct_kept (c.name ∷ known) (c.name ∷ seen) cs (among_both c.name known seen s) p.1)
        | inr h ↦ rw h (distinct_kept known (c.name ∷ seen) cs (among_more c.name known seen s) p.1)
      ]

  pub aligned_kept : (n : ℕ) (frame : Frame) → all_have_length n frame ≡ true → all_have_length n (kept names frame) ≡ true
  aligned_kept n [] all = refl
  aligned_kept n (c ∷ cs) all =
      let p = aligned_tail n c cs all in
      elim (cases_Bool (is_asked names c.name)) [
        | inl h ↦ rw (h, eq-eqb (length c.slots) n p.0) (aligned_kept n cs p.1)
        | inr h ↦ rw h (aligned_kept n cs p.1)
      ]

  pub kept_is_frame : (frame : Frame) → IsFrame frame → IsFrame (kept names frame)
  kept_is_frame frame f = record {
    distinct = distinct_kept [] [] frame (record { found = λ name h. h }) f.distinct;
    aligned = aligned_at (frame_height frame) (kept names frame) (aligned_kept (frame_height frame) frame f.aligned);
  }
