-- Columns of nulls, by their type.
use Rattle.std.proofs.Common.{◌≡◌, ◌∙◌, ◌+◌, ◌<◌, ◌≤◌, ◌++◌, ◌&&◌, [], ◌∷◌, ℕ, zero, suc, Bool, List, Option, None, Some, is_none, Vec, Global, arith, false, true, length, get_or, map, replicate, ap, refl, rules, sym}
use Rattle.std.specs.Option.{option_or}
use Rattle.std.proofs.lemmas.List.{length-replicate, replicate-append-replicate}
use Rattle.std.specs.List.{AllByRecursion}
use Rattle.std.proofs.lemmas.List.Elements.{All-from_recursion}
use Rattle.std.specs.declared.boxed.Box.{Box}
use Rattle.gb_base.specs.declared.field.Field.{Field}
use Rattle.gb_base.specs.declared.data_type.DataType as dtype
use Rattle.gb_base.specs.PlSmallStr.{name_of}
use Rattle.gb_base.specs.declared.data_type.DataType.{DataType, Row_of-Field, end_of-Field, more_of-Field, items-the_row-Field, the_lemmas}
use Rattle.gb_base.specs.DataType.{fields_of, part_of, type_of}
use Rattle.gb_cols.specs.Column.{pushed}
use Rattle.gb_defs.specs.Column.{ColumnValue, Frame, NotSorted, all_have_length, first_repeated, fresh_column, names_of}
use Rattle.gb_defs.specs.ColumnType.{ColumnType, StructOf}
use Rattle.gb_defs.specs.Fault.{duplicate_of, misaligned_fault}
use Rattle.gb_defs.specs.Slot.{Slot, Nil}
use Rattle.gb_series.specs.Depth.{depth, fields_depth}
use Rattle.gb_series.specs.Structs.{field_part, struct_fault, struct_type}
use Rattle.gb_series.specs.Nulls.{ArePartsOfNulls, HasNulls, empty_part, has_nulls, have_nulls, row_names}

-- ---- nulls of what holds others

list_nulls : (inner : Box DataType Global) → has_nulls (dtype.List inner) ≡ has_nulls inner.value
list_nulls inner = search (rules, the_lemmas)

array_nulls : (inner : Box DataType Global) (width : ℕ) → has_nulls (dtype.Array inner width) ≡ has_nulls inner.value
array_nulls inner width = search (rules, the_lemmas)

pub nulls_in_lists : (inner : Box DataType Global) → HasNulls (dtype.List inner) → HasNulls inner.value
nulls_in_lists inner has = sym (list_nulls inner) ∙ has

pub lists_have_nulls : (inner : Box DataType Global) → HasNulls inner.value → HasNulls (dtype.List inner)
lists_have_nulls inner has = list_nulls inner ∙ has

pub arrays_have_nulls : (inner : Box DataType Global) (width : ℕ) → HasNulls inner.value → HasNulls (dtype.Array inner width)
arrays_have_nulls inner width has = array_nulls inner width ∙ has

pub nulls_in_arrays : (inner : Box DataType Global) (width : ℕ) → HasNulls (dtype.Array inner width) → HasNulls inner.value
nulls_in_arrays inner width has = sym (array_nulls inner width) ∙ has

abbrev parts_have_nulls : List Field → Bool
parts_have_nulls [] = true
parts_have_nulls (f ∷ fs) = has_nulls f.dtype && parts_have_nulls fs

names_listed : (count : _) (row : Row_of-Field count) → row_names row ≡ map (λ f. name_of f.name) (items-the_row-Field count row)
names_listed _ end_of-Field = refl
names_listed _ (more_of-Field name inner row) = ap (λ ns. name_of name ∷ ns) (names_listed _ row)

nulls_listed : (count : _) (row : Row_of-Field count) → have_nulls row ≡ parts_have_nulls (items-the_row-Field count row)
nulls_listed _ end_of-Field = refl
nulls_listed _ (more_of-Field name inner row) = ap (λ b. has_nulls inner && b) (nulls_listed _ row)

abbrev struct_has_nulls : List Field → Bool
struct_has_nulls fields = is_none (first_repeated (map (λ f. name_of f.name) fields)) && parts_have_nulls fields

row_listed : (count : _) (row : Row_of-Field count) → (is_none (first_repeated (row_names row)) && have_nulls row) ≡ struct_has_nulls (items-the_row-Field count row)
row_listed count row =
    ap (λ ns. is_none (first_repeated ns) && have_nulls row) (names_listed count row)
    ∙ ap (λ b. is_none (first_repeated (map (λ f. name_of f.name) (items-the_row-Field count row))) && b) (nulls_listed count row)

struct_nulls : (fields : Vec Field Global) → has_nulls (dtype.Struct fields) ≡ struct_has_nulls fields.items
struct_nulls fields = search (rules, the_lemmas, row_listed)

both : (a b : Bool) → (a && b) ≡ true → (a ≡ true) × (b ≡ true)
both true b e = (refl, e)
both false b e = (e, let never : false ≡ true = e in cc)

each_has : (fields : List Field) → parts_have_nulls fields ≡ true → AllByRecursion (λ f. HasNulls f.dtype) fields
each_has [] e = tt
each_has (f ∷ fs) e = let parts = both (has_nulls f.dtype) (parts_have_nulls fs) e in (parts.0, each_has fs parts.1)

no_first : {A : Type 0} (o : Option A) → is_none o ≡ true → o ≡ None
no_first None e = refl
no_first (Some x) e = let never : false ≡ true = e in cc

parts_of : (fields : List Field) → struct_has_nulls fields ≡ true → ArePartsOfNulls fields
parts_of fields e =
    let parts = both (is_none (first_repeated (map (λ f. name_of f.name) fields))) (parts_have_nulls fields) e in record {
      distinct = no_first (first_repeated (map (λ f. name_of f.name) fields)) parts.0;
      nulls = All-from_recursion (λ f. HasNulls f.dtype) fields (each_has fields parts.1);
    }

pub nulls_in_structs : (fields : Vec Field Global) → HasNulls (dtype.Struct fields) → ArePartsOfNulls fields.items
nulls_in_structs fields has = parts_of fields.items (sym (struct_nulls fields) ∙ has)

-- ---- columns with no slots, and nulls behind them

abbrev one_chunk : List ℕ → ColumnType → List Slot → ℕ → ColumnValue
one_chunk name t slots n = record { name = name; dtype = t; slots = slots; chunks = n ∷ []; sorted = NotSorted; all_used = false }

pub fresh_pushed : (name : List ℕ) (t : ColumnType) (i : ℕ) → pushed (fresh_column name t (replicate i Nil)) Nil ≡ fresh_column name t (replicate (i + 1) Nil)
fresh_pushed name t i =
    let count : length (replicate i Nil) + 1 ≡ length (replicate (i + 1) Nil) = omega (arith, length-replicate i Nil, length-replicate (i + 1) Nil) in
    let more : replicate i Nil ++ Nil ∷ [] ≡ replicate (i + 1) Nil = replicate-append-replicate i 1 Nil in
    ap (one_chunk name t (replicate i Nil ++ Nil ∷ [])) count ∙ ap (λ (ss : List Slot). one_chunk name t ss (length (replicate (i + 1) Nil))) more

parts_same : (fields : List Field) → map field_part (map empty_part fields) ≡ map part_of fields
parts_same [] = refl
parts_same (f ∷ fs) = ap (λ ps. part_of f ∷ ps) (parts_same fs)

names_same : (fields : List Field) → names_of (map empty_part fields) ≡ map (λ f. name_of f.name) fields
names_same [] = refl
names_same (f ∷ fs) = ap (λ ns. name_of f.name ∷ ns) (names_same fs)

none_long : (fields : List Field) → all_have_length 0 (map empty_part fields) ≡ true
none_long [] = refl
none_long (f ∷ fs) = none_long fs

-- empty parts make structs, of the type that is asked for
pub parts_typed : (made : Frame) (fields : List Field) → made ≡ map empty_part fields → struct_type made ≡ StructOf (fields_of (map part_of fields))
parts_typed made fields is = ap struct_type is ∙ ap (λ ps. StructOf (fields_of ps)) (parts_same fields)

pub parts_sound : (made : Frame) (fields : List Field) → made ≡ map empty_part fields → ArePartsOfNulls fields → struct_fault 0 made ≡ None
parts_sound made fields is parts =
    let distinct : first_repeated (names_of (map empty_part fields)) ≡ None = ap first_repeated (names_same fields) ∙ parts.distinct in
    ap (struct_fault 0) is
    ∙ ap (λ first. option_or (duplicate_of first) (misaligned_fault (map empty_part fields) (all_have_length 0 (map empty_part fields)))) distinct
    ∙ ap (misaligned_fault (map empty_part fields)) (none_long fields) ∙ aligned (map empty_part fields)
  where
    aligned : (frame : Frame) → misaligned_fault frame true ≡ None
    aligned [] = refl
    aligned (c ∷ cs) = refl

-- the type of a part is no deeper than those of all
pub part_depth : (fields : List Field) (i : ℕ) (f : Field) → i < length fields → f ≡ get_or fields i f → depth (type_of f.dtype) ≤ fields_depth (fields_of (map part_of fields))
part_depth [] i f lt read = absurd (omega (arith, lt))
part_depth (g ∷ gs) zero f lt read = omega (arith, ap (λ (x : Field). depth (type_of x.dtype)) read)
part_depth (g ∷ gs) (suc i) f lt read = omega (arith, part_depth gs i f (omega (arith, lt)) read)
