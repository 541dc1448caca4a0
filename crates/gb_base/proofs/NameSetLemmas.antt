-- A set of names that is kept in their order, seen as a list of names.
use Rattle.std.proofs.Common.{◌≡◌, ℕ, Bool, true, false, cond, ◌||◌, List, [], ◌∷◌, ap₂, refl, ◌∙◌, map, Bor}
use Rattle.std.specs.Cmp.Lexicographic.{slice_cmp}
use Rattle.std.specs.List.{list_any}
use Rattle.std.specs.Ordering.{is_eq, nat_cmp}
use Rattle.std.specs.Str.{bytes_eq}
use Rattle.std.proofs.lemmas.Map.Text.{is_eq-slice_cmp}

-- the names of keys
abbrev pub names_in : List (Bor (List ℕ)) → List (List ℕ)
names_in keys = map (λ key. key.now) keys

pub has_name : (name : List ℕ) (keys : List (Bor (List ℕ))) → list_any (λ key. is_eq (slice_cmp nat_cmp name key.now)) keys ≡ list_any (bytes_eq name) (names_in keys)
has_name name [] = refl
has_name name (key ∷ keys) = ap₂ (λ (a b : Bool). a || b) (is_eq-slice_cmp name key.now) (has_name name keys)

or_else : (a b : Bool) → cond a true b ≡ (a || b)
or_else true b = refl
or_else false b = refl

-- what is held once a name is put in
pub has_more : (name other : List ℕ) (keys : List (Bor (List ℕ))) → cond (is_eq (slice_cmp nat_cmp name other)) true (list_any (λ key. is_eq (slice_cmp nat_cmp other key.now)) keys)
    ≡ (bytes_eq name other || list_any (bytes_eq other) (names_in keys))
has_more name other keys =
    or_else (is_eq (slice_cmp nat_cmp name other)) _ ∙ ap₂ (λ (a b : Bool). a || b) (is_eq-slice_cmp name other) (has_name other keys)
