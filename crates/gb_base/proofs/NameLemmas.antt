-- The first name that stood before, by a set of the names so far.
use Rattle.std.proofs.Common.{◌≡◌, ℕ, ◌+◌, ◌<◌, Bool, true, false, not, cond, ◌||◌, List, [], ◌∷◌, drop, get_or, length, map, Some, refl, sym, ◌∙◌, ap}
use Rattle.std.specs.Str.{bytes_eq}
use Rattle.std.specs.List.{list_any}
use Rattle.std.specs.Cmp.{both_ways}
use Rattle.std.specs.Cmp.Lexicographic.{bytes_decides}
use Rattle.std.proofs.lemmas.List.{drop_more}
use Rattle.gb_defs.specs.Column.{first_repeated, repeated_after}

-- the search among all names has come to the rest, and the set has the names before
pub record HasSeen (all rest set : List (List ℕ)) : Type 0 where
  pub names : List (List ℕ)
  pub same : first_repeated all ≡ repeated_after names rest
  pub has : (name : List ℕ) → list_any (bytes_eq name) set ≡ list_any (bytes_eq name) names

-- what is left of a list from a place on
pub listed_more : {S X : Type 0} (f : S → X) (xs : List S) (i : ℕ) (x : S) → i < length xs → x ≡ get_or xs i x → map f (drop i xs) ≡ f x ∷ map f (drop (i + 1) xs)
listed_more f xs i x lt read = ap (map f) (drop_more xs i x lt) ∙ ap (λ y. f y ∷ map f (drop (i + 1) xs)) (sym read)

-- what `insert` answers tells whether the name was there
pub held : (b new : Bool) → new ≡ not b → new ≡ false → b ≡ true
held true new e f = refl
held false new e f = cc

pub unheld : (b new : Bool) → new ≡ not b → new ≡ true → b ≡ false
unheld true new e f = cc
unheld false new e f = refl

pub bytes_eq_symm : (xs ys : List ℕ) → bytes_eq xs ys ≡ bytes_eq ys xs
bytes_eq_symm xs ys =
    both_ways (bytes_eq xs ys) (bytes_eq ys xs) (λ e. (bytes_decides ys xs).1 (sym ((bytes_decides xs ys).0 e))) (λ e. (bytes_decides xs ys).1 (sym ((bytes_decides ys xs).0 e)))

-- the set has one name more
abbrev pub HasOneMore : List ℕ → List (List ℕ) → List (List ℕ) → Type 0
HasOneMore name old new = (other : List ℕ) → list_any (bytes_eq other) new ≡ (bytes_eq name other || list_any (bytes_eq other) old)

pub none_seen : (all : List (List ℕ)) → HasSeen all all []
none_seen all = record { names = []; same = refl; has = λ name. refl }

module _ {all rest set : List (List ℕ)} (name : List ℕ) (s : HasSeen all (name ∷ rest) set) where
  pub seen_found : list_any (bytes_eq name) set ≡ true → Some name ≡ first_repeated all
  seen_found e = sym (s.same ∙ ap (λ b. cond b (Some name) (repeated_after (name ∷ s.names) rest)) (sym (s.has name) ∙ e))

  pub seen_more : (new : List (List ℕ)) → list_any (bytes_eq name) set ≡ false → HasOneMore name set new → HasSeen all rest new
  seen_more new e more = record {
    names = name ∷ s.names;
    same = s.same ∙ ap (λ b. cond b (Some name) (repeated_after (name ∷ s.names) rest)) (sym (s.has name) ∙ e);
    has = λ other. more other ∙ ap (λ b. b || list_any (bytes_eq other) set) (bytes_eq_symm name other) ∙ ap (λ b. bytes_eq other name || b) (s.has other);
  }

-- the set and the rest are the names of a list
abbrev pub HasAllBut : List (List ℕ) → List (List ℕ) → List (List ℕ) → Type 0
HasAllBut all rest set = (other : List ℕ) → list_any (bytes_eq other) all ≡ (list_any (bytes_eq other) set || list_any (bytes_eq other) rest)

or_moved : (a b c : Bool) → (a || (b || c)) ≡ ((b || a) || c)
or_moved true true c = refl
or_moved true false c = refl
or_moved false true c = refl
or_moved false false c = refl

or_false : (a : Bool) → (a || false) ≡ a
or_false true = refl
or_false false = refl

pub all_but_more : (all rest set new : List (List ℕ)) (name : List ℕ) → HasAllBut all (name ∷ rest) set → HasOneMore name set new → HasAllBut all rest new
all_but_more all rest set new name has more = λ other.
    has other ∙ ap (λ b. list_any (bytes_eq other) set || (b || list_any (bytes_eq other) rest)) (bytes_eq_symm other name)
    ∙ or_moved (list_any (bytes_eq other) set) (bytes_eq name other) (list_any (bytes_eq other) rest) ∙ ap (λ b. b || list_any (bytes_eq other) rest) (sym (more other))

pub all_in : (all set : List (List ℕ)) → HasAllBut all [] set → (other : List ℕ) → list_any (bytes_eq other) set ≡ list_any (bytes_eq other) all
all_in all set has other = sym (has other ∙ or_false (list_any (bytes_eq other) set))
