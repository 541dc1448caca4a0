-- Lists of texts that differ, and where a text stands among them, also by names that have the texts.
use Rattle.std.proofs.Common.{Bor, IsTrue, nat_eq, eq-eqb, eqb-true, ◌≡◌, ℕ, suc, ◌+◌, ◌<◌, Bool, false, cond, if◌then◌else◌, List, [], ◌∷◌, ◌++◌, length, take, drop, get_or, map, position, Some, refl, sym, ap, ap₂, subst, ◌∙◌}
use Rattle.std.specs.Str.{bytes_eq}
use Rattle.std.specs.List.{AllByRecursion, IsDistinct, list_any, position_from}
use Rattle.std.specs.Cmp.{IsEquivalence, both_ways}
use Rattle.std.specs.Cmp.Lexicographic.{bytes_decides, nat_list_eq_equiv}
use Rattle.std.proofs.lemmas.Iterator.Adapters.{position_from-zero}
use Rattle.std.proofs.Math.Seq.{drop-cons}
use Rattle.std.proofs.lemmas.List.{length-map, map-append, take-append-drop, take_more}
use Rattle.std.proofs.lemmas.Map.Made.{IsDistinct-from_count, distinct_count-from_IsDistinct, hash_set_len-from_list}
use Rattle.std.specs.HashSet.{HashSet, IsFromIterResult}
use Rattle.gb_base.specs.declared.small_str.PlSmallStr.{PlSmallStr}
use Rattle.gb_base.specs.PlSmallStr.{name_of}

pub bytes_eq_symm : (xs ys : List ℕ) → bytes_eq xs ys ≡ bytes_eq ys xs
bytes_eq_symm xs ys =
    both_ways (bytes_eq xs ys) (bytes_eq ys xs) (λ e. (bytes_decides ys xs).1 (sym ((bytes_decides xs ys).0 e))) (λ e. (bytes_decides xs ys).1 (sym ((bytes_decides ys xs).0 e)))

-- ---- distinct lists

module _ {K X : Type 0} (f : K → X) (e : X → X → Bool) where
  apart : (x : K) (ys : List K) → AllByRecursion (λ y. e (f x) (f y) ≡ false) ys → AllByRecursion (λ y. e (f x) y ≡ false) (map f ys)
  apart x [] h = tt
  apart x (y ∷ ys) h = (h.0, apart x ys h.1)

  together : (x : K) (ys : List K) → AllByRecursion (λ y. e (f x) y ≡ false) (map f ys) → AllByRecursion (λ y. e (f x) (f y) ≡ false) ys
  together x [] h = tt
  together x (y ∷ ys) h = (h.0, together x ys h.1)

  pub distinct_mapped : (xs : List K) → IsDistinct (λ x y. e (f x) (f y)) xs → IsDistinct e (map f xs)
  unfolding IsDistinct
  distinct_mapped [] h = tt
  distinct_mapped (x ∷ xs) h = (apart x xs h.0, distinct_mapped xs h.1)

  pub distinct_before : (xs : List K) → IsDistinct e (map f xs) → IsDistinct (λ x y. e (f x) (f y)) xs
  unfolding IsDistinct
  distinct_before [] h = tt
  distinct_before (x ∷ xs) h = (together x xs h.0, distinct_before xs h.1)

module _ {K : Type 0} (e : K → K → Bool) (flips : (x y : K) → e x y ≡ e y x) where
  among : (k : K) (ks : List K) (x : K) (xs : List K) → AllByRecursion (λ y. e k y ≡ false) (ks ++ x ∷ xs) → e k x ≡ false
  among k [] x xs h = h.0
  among k (j ∷ ks) x xs h = among k ks x xs h.1

  -- what comes behind others that differ from it is none of them
  pub none_before : (ks : List K) (x : K) (xs : List K) → IsDistinct e (ks ++ x ∷ xs) → list_any (e x) ks ≡ false
  unfolding IsDistinct
  none_before [] x xs h = refl
  none_before (k ∷ ks) x xs h = rw (flips x k, among k ks x xs h.0) (none_before ks x xs h.1)

-- ---- places

module _ {K X : Type 0} (f : K → X) (p : X → Bool) where
  from_mapped : (i : ℕ) (xs : List K) → position_from (λ x. p (f x)) i xs ≡ position_from p i (map f xs)
  from_mapped i [] = refl
  from_mapped i (x ∷ xs) = ap (λ o. cond (p (f x)) (Some i) o) (from_mapped (i + 1) xs)

  pub position_mapped : (xs : List K) → position (λ x. p (f x)) xs ≡ position p (map f xs)
  position_mapped xs = position_from-zero (λ x. p (f x)) xs ∙ from_mapped 0 xs ∙ sym (position_from-zero p (map f xs))

-- ---- names, by their texts

-- a count tells whether names have texts that differ
abbrev pub CountTells : ℕ → List PlSmallStr → Type 0
CountTells count names = (IsTrue (nat_eq count (length names)) → IsDistinct bytes_eq (map name_of names)) × (IsDistinct bytes_eq (map name_of names) → IsTrue (nat_eq count (length names)))

-- the set of names has as many as there are, exactly where their texts differ
module _ {S : Type 0} (names : List (Bor PlSmallStr)) (set : HashSet (Bor PlSmallStr) S) where
  laws : IsEquivalence (λ (a b : Bor PlSmallStr). bytes_eq (name_of a.now) (name_of b.now))
  laws = record {
    refl = λ a. nat_list_eq_equiv.refl (name_of a.now);
    symm = λ a b. nat_list_eq_equiv.symm (name_of a.now) (name_of b.now);
    congr = λ a b d. nat_list_eq_equiv.congr (name_of a.now) (name_of b.now) (name_of d.now);
  }

  texts : (as' : List (Bor PlSmallStr)) → map name_of (map (λ (a : Bor PlSmallStr). a.now) as') ≡ map (λ (a : Bor PlSmallStr). name_of a.now) as'
  texts [] = refl
  texts (a ∷ as') = ap (λ rest. name_of a.now ∷ rest) (texts as')

  pub names_counted : IsFromIterResult (λ (a b : Bor PlSmallStr). bytes_eq (name_of a.now) (name_of b.now)) names set → CountTells (length set.keys) (map (λ (a : Bor PlSmallStr). a.now) names)
  names_counted made =
      let counted = hash_set_len-from_list laws names set made in
      let long = length-map names (λ (a : Bor PlSmallStr). a.now) in
      let twice = texts names in (
        λ h. rw twice (distinct_mapped (λ (a : Bor PlSmallStr). name_of a.now) bytes_eq names (IsDistinct-from_count laws names (sym counted ∙ eqb-true _ _ h ∙ long))),
        λ h. eq-eqb _ _ (counted ∙ distinct_count-from_IsDistinct laws names (distinct_before (λ (a : Bor PlSmallStr). name_of a.now) bytes_eq names (rw twice at h)) ∙ sym long),
      )

-- the text of the next name behind those before it, which differ from it
pub text_more : (names : List PlSmallStr) (i : ℕ) (name : PlSmallStr) (old new : List (List ℕ)) (text : List ℕ) → IsDistinct bytes_eq (map name_of names) → i < length names → name ≡ get_or names i name → text ≡ name_of name →
    old ≡ map name_of (take i names) → new ≡ (if list_any (bytes_eq text) old then old else old ++ text ∷ []) → new ≡ map name_of (take (i + 1) names)
text_more names i name old new text differ lt read same before put =
    let rest = map name_of (drop (suc i) names) in
    let cut : names ≡ take i names ++ name ∷ drop (suc i) names =
    sym (take-append-drop i names) ∙ ap (λ ns. take i names ++ ns) (drop-cons names i name lt ∙ ap (λ n. n ∷ drop (suc i) names) (sym read)) in
    let texts : map name_of names ≡ map name_of (take i names) ++ name_of name ∷ rest = ap (map name_of) cut ∙ map-append name_of (take i names) (name ∷ drop (suc i) names) in
    let all : map name_of names ≡ old ++ text ∷ rest = texts ∙ ap₂ (λ (ts : List (List ℕ)) (t : List ℕ). ts ++ t ∷ rest) (sym before) (sym same) in
    let none : list_any (bytes_eq text) old ≡ false = none_before bytes_eq bytes_eq_symm old text rest (subst (λ (ts : List (List ℕ)). IsDistinct bytes_eq ts) all differ) in
    let longer : map name_of (take (i + 1) names) ≡ map name_of (take i names) ++ name_of name ∷ [] =
    ap (map name_of) (take_more names i name lt ∙ ap (λ n. take i names ++ n ∷ []) (sym read)) ∙ map-append name_of (take i names) (name ∷ []) in
    put ∙ ap (λ b. if b then old else old ++ text ∷ []) none ∙ ap₂ (λ (ts : List (List ℕ)) (t : List ℕ). ts ++ t ∷ []) before same ∙ sym longer
