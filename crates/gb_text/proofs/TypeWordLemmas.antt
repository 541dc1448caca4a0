-- The words of the parts of a struct, one part more.
use Rattle.std.proofs.Common.{◌≡◌, ℕ, List, [], ◌∷◌, ◌++◌, sym, ◌∙◌, ap, append_assoc, codes}
use Rattle.std.proofs.lemmas.List.{append-nil}
use Rattle.gb_base.specs.DataType.{fields_of}
use Rattle.gb_defs.specs.ColumnType.{ColumnType}
use Rattle.gb_defs.specs.TypeWord.{more_words, type_word}

pub more_push : (parts : List (List ℕ × ColumnType)) (part : List ℕ × ColumnType) → more_words (fields_of (parts ++ part ∷ [])) ≡ more_words (fields_of parts) ++ (codes "," ++ type_word part.1)
more_push [] part = ap (λ word. codes "," ++ word) (append-nil (type_word part.1))
more_push (front ∷ parts) part =
    let more = more_words (fields_of parts) in
    let word = codes "," ++ type_word part.1 in
    ap (λ words. codes "," ++ (type_word front.1 ++ words)) (more_push parts part) ∙ ap (λ words. codes "," ++ words) (sym (append_assoc (type_word front.1) more word))
