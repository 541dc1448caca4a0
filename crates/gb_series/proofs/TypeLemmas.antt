-- Types that are compared: by what they are, and by their codes.
use Rattle.std.proofs.Common.{arith, ◌+◌, ◌<◌, ◌∷◌, map, drop, length, get_or, ◌≡◌, ◌==◌, ◌↔◌, IsTrue, ℕ, Bool, true, false, cond, List, refl, sym, ◌∙◌, ap, eq-eqb, eqb-true}
use base.Stored.{Gv, gnil, gnum, gcons}
use Rattle.gb_defs.specs.ColumnType.{ColumnType, Flat, ListOf, ArrayOf, StructOf, type_code}
use Rattle.gb_series.specs.Append.{code_eq, type_eq}
use Rattle.gb_flat_series.specs.FlatSeries.{IsFlat}
use Rattle.gb_series.specs.Variant.{type_variant}
use Rattle.gb_base.specs.DataType.{fields_of}
use Rattle.gb_defs.specs.Column.{ColumnValue, Frame}
use Rattle.gb_series.specs.Structs.{field_part, struct_type}
use Rattle.gb_series.proofs.FrameLemmas.{both_true, stored_more}
use Rattle.gb_series.proofs.StructLemmas.{struct_fields}

-- ---- variants

pub flat_variant : (t : ColumnType) → IsFlat t → type_variant t ≡ 0
flat_variant (Flat t) flat = refl
flat_variant (ListOf t) flat = absurd flat
flat_variant (ArrayOf t width) flat = absurd flat
flat_variant (StructOf fs) flat = absurd flat

-- a type is flat where its variant is the flat one
pub flat_or_not : (b : Bool) (n : ℕ) (t : ColumnType) → type_variant t ≡ n → (n == 0) ≡ b → IsTrue b ↔ IsFlat t
flat_or_not b n (Flat t) is flat = ((λ yes. tt), (λ here. sym flat ∙ ap (λ k. k == 0) (sym is)))
flat_or_not b n (ListOf t) is flat = ((λ yes. let never : false ≡ true = ap (λ k. k == 0) is ∙ flat ∙ yes in cc), (λ here. absurd here))
flat_or_not b n (ArrayOf t width) is flat = ((λ yes. let never : false ≡ true = ap (λ k. k == 0) is ∙ flat ∙ yes in cc), (λ here. absurd here))
flat_or_not b n (StructOf fs) is flat = ((λ yes. let never : false ≡ true = ap (λ k. k == 0) is ∙ flat ∙ yes in cc), (λ here. absurd here))

pub no_flat_lists : (t : ColumnType) → IsFlat t → type_variant t ≡ 1 → ⊥
no_flat_lists t flat is = omega (arith, flat_variant t flat, is)

pub no_flat_arrays : (t : ColumnType) → IsFlat t → type_variant t ≡ 2 → ⊥
no_flat_arrays t flat is = omega (arith, flat_variant t flat, is)

pub no_flat_structs : (t : ColumnType) → IsFlat t → type_variant t ≡ 3 → ⊥
no_flat_structs t flat is = omega (arith, flat_variant t flat, is)

-- columns of two variants have two types
pub other_variant : (m n : ℕ) (t u : ColumnType) → type_variant t ≡ m → type_variant u ≡ n → (m == n) ≡ false → IsTrue false ↔ (t ≡ u)
other_variant m n t u at_t at_u other = ((λ no. cc), (λ e. sym other ∙ eq-eqb m n (sym at_t ∙ ap type_variant e ∙ at_u)))

-- ---- nested types

list_part : (a b : ColumnType) → ListOf a ≡ ListOf b → a ≡ b
list_part a b e = cc

pub lists_same : (b : Bool) (t u x y : ColumnType) → t ≡ ListOf x → u ≡ ListOf y → IsTrue b ↔ (x ≡ y) → IsTrue b ↔ (t ≡ u)
lists_same b t u x y is_t is_u test =
    ((λ yes. is_t ∙ ap (λ k. ListOf k) (test.0 yes) ∙ sym is_u), (λ e. test.1 (list_part x y (sym is_t ∙ e ∙ is_u))))

array_items : (a b : ColumnType) (n m : ℕ) → ArrayOf a n ≡ ArrayOf b m → a ≡ b
array_items a b n m e = cc

array_widths : (a b : ColumnType) (n m : ℕ) → ArrayOf a n ≡ ArrayOf b m → n ≡ m
array_widths a b n m e = cc

pub arrays_same : (b : Bool) (t u x y : ColumnType) (n m : ℕ) → t ≡ ArrayOf x n → u ≡ ArrayOf y m → n ≡ m → IsTrue b ↔ (x ≡ y) → IsTrue b ↔ (t ≡ u)
arrays_same b t u x y n m is_t is_u wide test =
    ((λ yes. is_t ∙ ap (λ k. ArrayOf k n) (test.0 yes) ∙ ap (λ k. ArrayOf y k) wide ∙ sym is_u), (λ e. test.1 (array_items x y n m (sym is_t ∙ e ∙ is_u))))

pub arrays_differ : (t u x y : ColumnType) (n m : ℕ) → t ≡ ArrayOf x n → u ≡ ArrayOf y m → (n ≡ m → ⊥) → IsTrue false ↔ (t ≡ u)
arrays_differ t u x y n m is_t is_u other = ((λ no. cc), (λ e. absurd (other (array_widths x y n m (sym is_t ∙ e ∙ is_u)))))

pub structs_same : (b : Bool) (t u : ColumnType) (fs gs : Frame) → struct_type fs ≡ t → struct_type gs ≡ u → IsTrue b ↔ (map field_part fs ≡ map field_part gs) → IsTrue b ↔ (t ≡ u)
structs_same b t u fs gs is_t is_u test =
    ((λ yes. sym is_t ∙ ap (λ ps. StructOf (fields_of ps)) (test.0 yes) ∙ is_u), (λ e. test.1 (struct_fields fs gs (is_t ∙ e ∙ sym is_u))))

-- ---- fields, one by one

module _ {S : Type 0} (value : S → ColumnValue) where
  abbrev parts_from : List S → ℕ → List (List ℕ × ColumnType)
  parts_from xs i = map field_part (map value (drop i xs))

  module _ (xs ys : List S) (i : ℕ) (x y : S) (lt_x : i < length xs) (lt_y : i < length ys) (read_x : x ≡ get_or xs i x) (read_y : y ≡ get_or ys i y) where
    left : parts_from xs i ≡ field_part (value x) ∷ parts_from xs (i + 1)
    left = ap (map field_part) (stored_more value xs i x lt_x read_x)

    right : parts_from ys i ≡ field_part (value y) ∷ parts_from ys (i + 1)
    right = ap (map field_part) (stored_more value ys i y lt_y read_y)

    first_part : (p q : List ℕ × ColumnType) (ps qs : List (List ℕ × ColumnType)) → p ∷ ps ≡ q ∷ qs → p ≡ q
    first_part p q ps qs e = cc

    later_parts : (p q : List ℕ × ColumnType) (ps qs : List (List ℕ × ColumnType)) → p ∷ ps ≡ q ∷ qs → ps ≡ qs
    later_parts p q ps qs e = cc

    -- fields that are alike here are alike where the rest is
    pub fields_next : field_part (value x) ≡ field_part (value y) → (parts_from xs i ≡ parts_from ys i) ↔ (parts_from xs (i + 1) ≡ parts_from ys (i + 1))
    fields_next same = (
      (λ e. later_parts (field_part (value x)) (field_part (value y)) (parts_from xs (i + 1)) (parts_from ys (i + 1)) (sym left ∙ e ∙ right)),
      (λ e. left ∙ ap (λ p. p ∷ parts_from xs (i + 1)) same ∙ ap (λ ps. field_part (value y) ∷ ps) e ∙ sym right),
    )

    pub fields_here : parts_from xs i ≡ parts_from ys i → field_part (value x) ≡ field_part (value y)
    fields_here e = first_part (field_part (value x)) (field_part (value y)) (parts_from xs (i + 1)) (parts_from ys (i + 1)) (sym left ∙ e ∙ right)

-- ---- types by their codes

code_back : (a b : Gv) → code_eq a b ≡ true → a ≡ b
code_back gnil gnil e = refl
code_back gnil (gnum n) e = cc
code_back gnil (gcons c d) e = cc
code_back (gnum m) gnil e = cc
code_back (gnum m) (gnum n) e = ap (λ k. gnum k) (eqb-true m n e)
code_back (gnum m) (gcons c d) e = cc
code_back (gcons a b) gnil e = cc
code_back (gcons a b) (gnum n) e = cc
code_back (gcons a b) (gcons c d) e =
    let parts = both_true (code_eq a c) (code_eq b d) e in
    ap (λ k. gcons k b) (code_back a c parts.0) ∙ ap (λ k. gcons c k) (code_back b d parts.1)

code_self : (a : Gv) → code_eq a a ≡ true
code_self gnil = refl
code_self (gnum n) = eq-eqb n n refl
code_self (gcons a b) = ap (λ same. cond same (code_eq b b) false) (code_self a) ∙ code_self b

pub type_back : (t u : ColumnType) → type_eq t u ≡ true → t ≡ u
unfolding type_eq
type_back t u e = type_code.inj t u (code_back (type_code.code t) (type_code.code u) e)

pub type_self : (t u : ColumnType) → t ≡ u → type_eq t u ≡ true
unfolding type_eq
type_self t u e = ap (λ v. code_eq (type_code.code t) (type_code.code v)) (sym e) ∙ code_self (type_code.code t)

-- what a test of two types has told
pub type_test : (b : Bool) (t u : ColumnType) → IsTrue b ↔ (t ≡ u) → type_eq t u ≡ b
type_test true t u test = type_self t u (test.0 refl)
type_test false t u test = by (type_eq t u) refl where
  by : (c : Bool) → type_eq t u ≡ c → type_eq t u ≡ false
  by true e = let never : false ≡ true = test.1 (type_back t u e) in cc
  by false e = e
