-- The contexts of a struct's fields, one more.
use Rattle.std.proofs.Common.{◌≡◌, ◌∙◌, ◌+◌, ◌<◌, ◌≤◌, ℕ, List, [], ◌∷◌, ◌++◌, Option, length, map, take, get_or, refl, ap, subst, sym}
use Rattle.std.proofs.lemmas.List.{map-append, take_all, take_more}
use Rattle.gb_base.specs.DataType.{fields_of, part_of, type_of}
use Rattle.gb_base.specs.declared.field.Field.{Field}
use Rattle.gb_defs.specs.ColumnType.{ColumnType}
use Rattle.gb_rows.specs.Context.{AreContextsOf, IsContextOf}
use Rattle.gb_rows.specs.declared.context.RowEncodingContext.{RowEncodingContext}

contexts_more : (parts : List (List ℕ × ColumnType)) (part : List ℕ × ColumnType) (made : List (Option RowEncodingContext)) (one : Option RowEncodingContext)
    → AreContextsOf (fields_of parts) made → IsContextOf part.1 one → AreContextsOf (fields_of (parts ++ part ∷ [])) (made ++ one ∷ [])
contexts_more [] part made one h k = rw h (k, refl)
contexts_more (p ∷ parts) part [] one h k = absurd h
contexts_more (p ∷ parts) part (m ∷ made) one h k = (h.0, contexts_more parts part made one h.1 k)

pub field_more : (fields : List Field) (i : ℕ) (field : Field) (made new : List (Option RowEncodingContext)) (one : Option RowEncodingContext) → i < length fields → field ≡ get_or fields i field
    → AreContextsOf (fields_of (map part_of (take i fields))) made → IsContextOf (type_of field.dtype) one → new ≡ made ++ one ∷ []
    → AreContextsOf (fields_of (map part_of (take (i + 1) fields))) new
field_more fields i field made new one lt is sofar here more =
    let parts = ap (map part_of) (take_more fields i field lt ∙ ap (λ f. take i fields ++ f ∷ []) (sym is)) ∙ map-append part_of (take i fields) (field ∷ []) in
    subst (λ l. AreContextsOf (fields_of (map part_of (take (i + 1) fields))) l) (sym more)
    (subst (λ ps. AreContextsOf (fields_of ps) (made ++ one ∷ [])) (sym parts) (contexts_more (map part_of (take i fields)) (part_of field) made one sofar here))

-- all of them
pub fields_done : (fields : List Field) (i : ℕ) (made : List (Option RowEncodingContext)) → length fields ≤ i → AreContextsOf (fields_of (map part_of (take i fields))) made → AreContextsOf (fields_of (map part_of fields)) made
fields_done fields i made done h = subst (λ l. AreContextsOf (fields_of (map part_of l)) made) (take_all i fields done) h
