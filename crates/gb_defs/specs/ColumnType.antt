-- The types of columns, as a tree, and which slots fit a type. The words of types in a table's header
-- are in `TypeWord`.
use Rattle.std.specs.Prelude.{◌≡◌, ◌⊎◌, ℕ, zero, suc, ◌<◌, ◌==◌, pos, ℤ, List, length, Option, None, refl, if◌then◌else◌, IfSome, FitsSigned, IsUtf8}
use Rattle.std.specs.Int.{Width, w8, w16, w32, w64, w128, FitsUnsigned}
use Rattle.std.specs.Coded.{Coded, code_by, coded×, coded_ℕ, coded_list, coded_option}
use Rattle.std.proofs.Common.{ap, ◌∙◌}
use base.Stored.{Gv, gnil, gnum, gcons}
use Rattle.gb_defs.specs.Slot.{Slot, Slots, Nil, Num, Bytes, Items, End, And}

pub data TimeUnit : Type 0 where
  Nanoseconds : TimeUnit
  Microseconds : TimeUnit
  Milliseconds : TimeUnit

-- whether a category is compared by its code or by its text
pub data CategoricalOrdering : Type 0 where
  Physical : CategoricalOrdering
  Lexical : CategoricalOrdering

-- the types with no part. A category type has its texts by code, where they are known
pub data FlatType : Type 0 where
  Null : FlatType
  Boolean : FlatType
  Unsigned : Width → FlatType
  Signed : Width → FlatType
  Decimal : Option ℕ → Option ℕ → FlatType
  Date : FlatType
  Time : FlatType
  Datetime : TimeUnit → FlatType
  Duration : TimeUnit → FlatType
  String : FlatType
  Binary : FlatType
  BinaryOffset : FlatType
  Categorical : Option (List (List ℕ)) → CategoricalOrdering → FlatType
  Enum : Option (List (List ℕ)) → CategoricalOrdering → FlatType

mutual
  pub data ColumnType : Type 0 where
    Flat : FlatType → ColumnType
    ListOf : ColumnType → ColumnType
    ArrayOf : ColumnType → ℕ → ColumnType
    StructOf : Fields → ColumnType

  -- named parts, in order
  pub data Fields : Type 0 where
    NoFields : Fields
    Field : List ℕ → ColumnType → Fields → Fields

abbrev pub int64 : ColumnType
int64 = Flat (Signed w64)

abbrev pub uint32 : ColumnType
uint32 = Flat (Unsigned w32)

abbrev pub text : ColumnType
text = Flat String

abbrev pub field_count : Fields → ℕ
field_count NoFields = 0
field_count (Field name t fs) = suc (field_count fs)

abbrev pub field_type : Fields → ℕ → ColumnType
field_type NoFields k = Flat Null
field_type (Field name t fs) zero = t
field_type (Field name t fs) (suc k) = field_type fs k

-- the type of the k-th part of a slot of this type
abbrev pub part_type : ColumnType → ℕ → ColumnType
part_type (Flat t) k = Flat Null
part_type (ListOf t) k = t
part_type (ArrayOf t width) k = t
part_type (StructOf fs) k = field_type fs k

-- whether a slot of this type may have so many parts
abbrev pub FitsCount : ColumnType → ℕ → Type 0
FitsCount (Flat t) n = ⊥
FitsCount (ListOf t) n = Unit {0}
FitsCount (ArrayOf t width) n = n ≡ width
FitsCount (StructOf fs) n = n ≡ field_count fs

-- the code of a category is a number of 32 bits, and one of the codes of its texts
abbrev pub FitsCode : Option (List (List ℕ)) → ℤ → Type 0
FitsCode texts n = FitsUnsigned w32 n × IfSome texts (λ ts. (c : ℕ) × (n ≡ pos c) × (c < length ts))

abbrev pub FitsNumber : FlatType → ℤ → Type 0
FitsNumber Null n = ⊥
FitsNumber Boolean n = (n ≡ pos 0) ⊎ (n ≡ pos 1)
FitsNumber (Unsigned w) n = FitsUnsigned w n
FitsNumber (Signed w) n = FitsSigned w n
FitsNumber (Decimal precision scale) n = FitsSigned w128 n
FitsNumber Date n = FitsSigned w32 n
FitsNumber Time n = FitsSigned w64 n
FitsNumber (Datetime unit) n = FitsSigned w64 n
FitsNumber (Duration unit) n = FitsSigned w64 n
FitsNumber String n = ⊥
FitsNumber Binary n = ⊥
FitsNumber BinaryOffset n = ⊥
FitsNumber (Categorical texts ordering) n = FitsCode texts n
FitsNumber (Enum texts ordering) n = FitsCode texts n

abbrev pub FitsBytes : FlatType → List ℕ → Type 0
FitsBytes String bs = IsUtf8 bs
FitsBytes Binary bs = Unit {0}
FitsBytes BinaryOffset bs = Unit {0}
FitsBytes _ bs = ⊥

abbrev pub FitsFlat : ColumnType → (FlatType → Type 0) → Type 0
FitsFlat (Flat t) P = P t
FitsFlat (ListOf t) P = ⊥
FitsFlat (ArrayOf t width) P = ⊥
FitsFlat (StructOf fs) P = ⊥

-- a null fits every type
abbrev mutual
  pub Fits : ColumnType → Slot → Type 0
  Fits t Nil = Unit {0}
  Fits t (Num n) = FitsFlat t (λ f. FitsNumber f n)
  Fits t (Bytes bs) = FitsFlat t (λ f. FitsBytes f bs)
  Fits t (Items ss) = FitsParts t 0 ss

  -- the parts from the k-th on
  pub FitsParts : ColumnType → ℕ → Slots → Type 0
  FitsParts t k End = FitsCount t k
  FitsParts t k (And s ss) = Fits (part_type t k) s × FitsParts t (suc k) ss

-- ---- a code of types

abbrev width_number : Width → ℕ
width_number w8 = 8
width_number w16 = 16
width_number w32 = 32
width_number w64 = 64
width_number w128 = 128

abbrev width_from : ℕ → Width
width_from n = if n == 8 then w8 else if n == 16 then w16 else if n == 32 then w32 else if n == 64 then w64 else w128

abbrev unit_number : TimeUnit → ℕ
unit_number Nanoseconds = 0
unit_number Microseconds = 1
unit_number Milliseconds = 2

abbrev unit_from : ℕ → TimeUnit
unit_from n = if n == 0 then Nanoseconds else if n == 1 then Microseconds else Milliseconds

abbrev ordering_number : CategoricalOrdering → ℕ
ordering_number Physical = 0
ordering_number Lexical = 1

abbrev ordering_from : ℕ → CategoricalOrdering
ordering_from n = if n == 0 then Physical else Lexical

-- which type, a number of it, two numbers that may be missing, and texts
abbrev FlatParts : Type 0
FlatParts = ℕ × (ℕ × ((Option ℕ × Option ℕ) × Option (List (List ℕ))))

abbrev flat_parts : FlatType → FlatParts
flat_parts Null = (0, (0, ((None, None), None)))
flat_parts Boolean = (1, (0, ((None, None), None)))
flat_parts (Unsigned w) = (2, (width_number w, ((None, None), None)))
flat_parts (Signed w) = (3, (width_number w, ((None, None), None)))
flat_parts (Decimal precision scale) = (4, (0, ((precision, scale), None)))
flat_parts Date = (5, (0, ((None, None), None)))
flat_parts Time = (6, (0, ((None, None), None)))
flat_parts (Datetime unit) = (7, (unit_number unit, ((None, None), None)))
flat_parts (Duration unit) = (8, (unit_number unit, ((None, None), None)))
flat_parts String = (9, (0, ((None, None), None)))
flat_parts Binary = (10, (0, ((None, None), None)))
flat_parts BinaryOffset = (11, (0, ((None, None), None)))
flat_parts (Categorical texts ordering) = (12, (ordering_number ordering, ((None, None), texts)))
flat_parts (Enum texts ordering) = (13, (ordering_number ordering, ((None, None), texts)))

abbrev flat_chosen : ℕ → ℕ → Option ℕ → Option ℕ → Option (List (List ℕ)) → FlatType
flat_chosen which n precision scale texts =
    if which == 0 then Null else if which == 1 then Boolean else if which == 2 then Unsigned (width_from n) else if which == 3 then Signed (width_from n)
    else if which == 4 then Decimal precision scale else if which == 5 then Date else if which == 6 then Time
    else if which == 7 then Datetime (unit_from n) else if which == 8 then Duration (unit_from n)
    else if which == 9 then String else if which == 10 then Binary else if which == 11 then BinaryOffset
    else if which == 12 then Categorical texts (ordering_from n) else Enum texts (ordering_from n)

abbrev flat_joined : FlatParts → FlatType
flat_joined p = flat_chosen p.0 p.1.0 p.1.1.0.0 p.1.1.0.1 p.1.1.1

width_back : (w : Width) → width_from (width_number w) ≡ w
width_back w8 = refl
width_back w16 = refl
width_back w32 = refl
width_back w64 = refl
width_back w128 = refl

unit_back : (u : TimeUnit) → unit_from (unit_number u) ≡ u
unit_back Nanoseconds = refl
unit_back Microseconds = refl
unit_back Milliseconds = refl

ordering_back : (o : CategoricalOrdering) → ordering_from (ordering_number o) ≡ o
ordering_back Physical = refl
ordering_back Lexical = refl

pub flat_back : (t : FlatType) → flat_joined (flat_parts t) ≡ t
flat_back Null = refl
flat_back Boolean = refl
flat_back (Unsigned w) = ap (λ v. Unsigned v) (width_back w)
flat_back (Signed w) = ap (λ v. Signed v) (width_back w)
flat_back (Decimal precision scale) = refl
flat_back Date = refl
flat_back Time = refl
flat_back (Datetime unit) = ap (λ u. Datetime u) (unit_back unit)
flat_back (Duration unit) = ap (λ u. Duration u) (unit_back unit)
flat_back String = refl
flat_back Binary = refl
flat_back BinaryOffset = refl
flat_back (Categorical texts ordering) = ap (λ o. Categorical texts o) (ordering_back ordering)
flat_back (Enum texts ordering) = ap (λ o. Enum texts o) (ordering_back ordering)

abbrev pub flat_code : Coded FlatType
flat_code =
    code_by FlatParts (coded× coded_ℕ (coded× coded_ℕ (coded× (coded× (coded_option coded_ℕ) (coded_option coded_ℕ)) (coded_option (coded_list (coded_list coded_ℕ)))))) flat_parts flat_joined flat_back

abbrev mutual
  pub type_gv : ColumnType → Gv
  type_gv (Flat t) = gcons (gnum 0) (flat_code.code t)
  type_gv (ListOf t) = gcons (gnum 1) (type_gv t)
  type_gv (ArrayOf t width) = gcons (gnum 2) (gcons (gnum width) (type_gv t))
  type_gv (StructOf fs) = gcons (gnum 3) (fields_gv fs)

  pub fields_gv : Fields → Gv
  fields_gv NoFields = gnil
  fields_gv (Field name t fs) = gcons ((coded_list coded_ℕ).code name) (gcons (type_gv t) (fields_gv fs))

mutual
  pub type_gv_inj : (a b : ColumnType) → type_gv a ≡ type_gv b → a ≡ b
  type_gv_inj (Flat a) (Flat b) e = let c : flat_code.code a ≡ flat_code.code b = cc in ap (λ t. Flat t) (flat_code.inj a b c)
  type_gv_inj (Flat a) (ListOf b) e = cc
  type_gv_inj (Flat a) (ArrayOf b n) e = cc
  type_gv_inj (Flat a) (StructOf b) e = cc
  type_gv_inj (ListOf a) (Flat b) e = cc
  type_gv_inj (ListOf a) (ListOf b) e = let c : type_gv a ≡ type_gv b = cc in ap (λ t. ListOf t) (type_gv_inj a b c)
  type_gv_inj (ListOf a) (ArrayOf b n) e = cc
  type_gv_inj (ListOf a) (StructOf b) e = cc
  type_gv_inj (ArrayOf a m) (Flat b) e = cc
  type_gv_inj (ArrayOf a m) (ListOf b) e = cc
  type_gv_inj (ArrayOf a m) (ArrayOf b n) e =
      let c : type_gv a ≡ type_gv b = cc in let d : m ≡ n = cc in ap (λ t. ArrayOf t m) (type_gv_inj a b c) ∙ ap (λ k. ArrayOf b k) d
  type_gv_inj (ArrayOf a m) (StructOf b) e = cc
  type_gv_inj (StructOf a) (Flat b) e = cc
  type_gv_inj (StructOf a) (ListOf b) e = cc
  type_gv_inj (StructOf a) (ArrayOf b n) e = cc
  type_gv_inj (StructOf a) (StructOf b) e = let c : fields_gv a ≡ fields_gv b = cc in ap (λ fs. StructOf fs) (fields_gv_inj a b c)

  pub fields_gv_inj : (a b : Fields) → fields_gv a ≡ fields_gv b → a ≡ b
  fields_gv_inj NoFields NoFields e = refl
  fields_gv_inj NoFields (Field n t fs) e = cc
  fields_gv_inj (Field n t fs) NoFields e = cc
  fields_gv_inj (Field n t fs) (Field m u gs) e =
      let c : (coded_list coded_ℕ).code n ≡ (coded_list coded_ℕ).code m = cc in
      let d : type_gv t ≡ type_gv u = cc in
      let r : fields_gv fs ≡ fields_gv gs = cc in
      ap (λ k. Field k t fs) ((coded_list coded_ℕ).inj n m c) ∙ ap (λ v. Field m v fs) (type_gv_inj t u d) ∙ ap (λ hs. Field m u hs) (fields_gv_inj fs gs r)

abbrev pub type_code : Coded ColumnType
type_code = record { code = type_gv; inj = type_gv_inj }
