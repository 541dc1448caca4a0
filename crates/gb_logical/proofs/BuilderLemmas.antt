-- Codes and the texts that they stand for.
use Rattle.std.proofs.Common.{false, true, None, Option, IfSome, Bor, ◌≡◌, ℕ, pos, List, [], ◌∷◌, ◌++◌, map, get_or, position, unwrap_or, refl, sym, ap, ap₂, subst, ◌∙◌, true, Some}
use Rattle.std.specs.Str.{IsUtf8, bytes_eq, is_utf8}
use Rattle.std.proofs.lemmas.Str.{is_utf8-from_IsUtf8}
use Rattle.gb_defs.specs.Cell.{cell_slot}
use Rattle.gb_values.specs.Array.{text_slot}
use Rattle.std.specs.List.{All}
use Rattle.std.specs.Cmp.Lexicographic.{bytes_decides}
use Rattle.std.proofs.lemmas.List.Elements.{All-append, All-nil, All-push}
use Rattle.std.proofs.lemmas.List.Quantifiers.{position-Some}
use Rattle.gb_defs.specs.CellText.{code_text}
use Rattle.gb_defs.specs.Column.{fresh_column}
use Rattle.gb_cols.specs.Column.{pushed}
use Rattle.std.proofs.lemmas.List.{length-append}
use Rattle.gb_defs.specs.ColumnType.{Categorical, CategoricalOrdering, ColumnType, Fits, Flat, text}
use Rattle.gb_defs.specs.Slot.{Slot, Nil, Num, Bytes, Items}
use Rattle.gb_defs.specs.Table.{coded_slot, texts_after, with_text}
use Rattle.gb_logical.specs.CategoricalBuilder.{AreCoded, AreSoFar, decoded_slot}
use Rattle.gb_logical.proofs.CodingLemmas.{IsKnown, coded_more, first_of, known_after, known_with, no_parts, none_coded, position_inside, rest_of}

-- the code of a text that is known stands for it
decoded_one : (texts : List (List ℕ)) (slot : Slot) → Fits text slot → IsKnown texts slot → decoded_slot texts (coded_slot texts slot) ≡ slot
decoded_one texts Nil fits known = refl
decoded_one texts (Num n) fits known = absurd fits
decoded_one texts (Bytes bytes) fits known =
    let found = position_inside (bytes_eq bytes) texts known in
    let here = position-Some (bytes_eq bytes) texts found.0 [] found.1 in
    let same : get_or texts found.0 [] ≡ bytes = sym ((bytes_decides bytes (get_or texts found.0 [])).0 here.1) in
    ap (λ o. Bytes (code_text (Some texts) (pos (unwrap_or o 0)))) found.1 ∙ ap (λ bs. Bytes bs) same
decoded_one texts (Items parts) fits known = absurd (no_parts 0 parts fits)

decoded_all : (texts : List (List ℕ)) (slots : List Slot) → All (Fits text) slots → map (decoded_slot (texts_after texts slots)) (map (coded_slot (texts_after texts slots)) slots) ≡ slots
decoded_all texts [] fits = refl
decoded_all texts (slot ∷ slots) fits =
    let one = with_text texts slot in
    let all = texts_after one slots in
    ap₂ (λ (s : Slot) (ss : List Slot). s ∷ ss) (decoded_one all slot (first_of (Fits text) slot slots fits) (known_after one slots slot (known_with texts slot)))
    (decoded_all one slots (rest_of (Fits text) slot slots fits))

pub none_so_far : AreSoFar [] []
none_so_far = record { coded = none_coded [] []; fitting = All-nil (Fits text) }

-- more texts, with their codes
module _ {texts : List (List ℕ)} {codes : List Slot} (so_far : AreSoFar texts codes) (more : List Slot) (fits : All (Fits text) more) (texts' : List (List ℕ)) (codes' : List Slot)
    (t : texts' ≡ texts_after texts more) (c : codes' ≡ codes ++ map (coded_slot texts') more) where
  before : List Slot
  before = map (decoded_slot texts) codes

  coded_all : AreCoded [] [] (before ++ more) texts' codes'
  unfolding before
  coded_all = coded_more so_far.coded more texts' codes' t c

  fits_all : All (Fits text) (before ++ more)
  unfolding before
  fits_all = All-append (Fits text) (map (decoded_slot texts) codes) more so_far.fitting fits

  pub decoded_more : map (decoded_slot texts') codes' ≡ map (decoded_slot texts) codes ++ more
  unfolding before
  decoded_more =
      let slots = map (decoded_slot texts) codes ++ more in
      ap (map (decoded_slot texts')) coded_all.codes_are
      ∙ ap (λ (ts : List (List ℕ)). map (decoded_slot ts) (map (coded_slot ts) slots)) coded_all.texts_are
      ∙ decoded_all [] slots fits_all

  pub so_far_more : AreSoFar texts' codes'
  unfolding before
  so_far_more = record {
    coded = subst (λ (ss : List Slot). AreCoded [] [] ss texts' codes') (sym decoded_more) coded_all;
    fitting = subst (All (Fits text)) (sym decoded_more) fits_all;
  }

-- ---- a cell

-- a push to a column in one chunk
pub pushed_fresh : (name : List ℕ) (t : ColumnType) (slots : List Slot) (slot : Slot) → pushed (fresh_column name t slots) slot ≡ fresh_column name t (slots ++ slot ∷ [])
pushed_fresh name t slots slot = rw (length-append slots (slot ∷ []))

pub fits_one : (o : Option (Bor (List ℕ))) → IfSome o (λ t. IsUtf8 t.now) → All (Fits text) (text_slot o ∷ [])
fits_one None utf8 = All-push (Fits text) [] Nil (All-nil (Fits text)) tt
fits_one (Some bytes) utf8 = All-push (Fits text) [] (Bytes bytes.now) (All-nil (Fits text)) utf8

module _ (null_word cell : List ℕ) (ordering : CategoricalOrdering) where
  abbrev category : ColumnType
  category = Flat (Categorical None ordering)

  pub null_cell : bytes_eq cell null_word ≡ true → cell_slot null_word category cell ≡ Some Nil
  unfolding cell_slot
  null_cell same = rw same refl

  pub text_cell : bytes_eq cell null_word ≡ false → IsUtf8 cell → cell_slot null_word category cell ≡ Some (Bytes cell)
  unfolding cell_slot
  text_cell other utf8 = rw (other, is_utf8-from_IsUtf8 cell utf8) refl

  pub no_cell : bytes_eq cell null_word ≡ false → is_utf8 cell ≡ false → cell_slot null_word category cell ≡ None
  unfolding cell_slot
  no_cell other bad = rw (other, bad) refl
