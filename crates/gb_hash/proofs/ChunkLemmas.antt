-- Texts in chunks: where each chunk ends, and the text at a place.
use Rattle.std.proofs.Common.{◌≡◌, ℕ, zero, suc, ◌+◌, ◌-◌, ◌<◌, ◌≤◌, List, [], ◌∷◌, ◌++◌, length, get_or, take, refl, sym, ◌∙◌, ap, arith, subst, Bool, true, false, leb, leb-true, leb-false, ltb, ltb-true, ltb-false}
use Rattle.std.specs.Borrow.{Bor}
use Rattle.std.specs.List.{flat_map}
use Rattle.std.specs.Fn.{Called, ComputesKey, Mut}
use Rattle.std.specs.List.Sorted.{IsNonDecreasingBy, IsPartitionPoint, IsPartitionedBy}
use Rattle.std.proofs.lemmas.List.Concat.{get_or-flat_map}
use Rattle.std.proofs.lemmas.List.Sorted.{IsPartitionPoint-from_clause, IsPartitionedBy-leb}
use Rattle.std.proofs.lemmas.Grind.{flat_map-append}
use Rattle.std.proofs.lemmas.List.{append-nil, length-append, length_push, take_more, take_all, take-append-le, get_or_append_left, get_or_at, get_or_default}
use Rattle.gb_values.specs.Array.{start_of}
use Rattle.gb_hash.specs.Chunks.{AreEnds, HasEndBehind, IsChunkAt, texts_in}

abbrev pub Chunks : Type 0
Chunks = List (Bor (List (List ℕ)))

-- how many texts the first chunks have
abbrev upto : Chunks → ℕ → ℕ
upto chunks k = length (texts_in (take k chunks))

upto_rises : (chunks : Chunks) (i j : ℕ) → i ≤ j → upto chunks i ≤ upto chunks j
upto_rises chunks zero j le = omega arith
upto_rises [] (suc i) j le = omega arith
upto_rises (c ∷ cs) (suc i) zero le = absurd (omega (arith, le))
upto_rises (c ∷ cs) (suc i) (suc j) le =
    omega (arith, length-append c.now (texts_in (take i cs)), length-append c.now (texts_in (take j cs)), upto_rises cs i j (omega (arith, le)))

upto_more : (chunks : Chunks) (k : ℕ) (d : Bor (List (List ℕ))) → k < length chunks → upto chunks (suc k) ≡ upto chunks k + length (get_or chunks k d).now
upto_more [] k d lt = absurd (omega (arith, lt))
upto_more (c ∷ cs) zero d lt =
    let one : upto (c ∷ cs) (suc zero) ≡ length c.now = ap length (append-nil c.now) in
    let none : upto (c ∷ cs) zero ≡ 0 = refl in
    omega (arith, one, none)
upto_more (c ∷ cs) (suc k) d lt =
    let rest = upto_more cs k d (omega (arith, lt)) in
    omega (arith, length-append c.now (texts_in (take k cs)), length-append c.now (texts_in (take (suc k) cs)), rest)

upto_all : (chunks : Chunks) → upto chunks (length chunks) ≡ length (texts_in chunks)
upto_all chunks = ap (λ cs. length (texts_in cs)) (take_all (length chunks) chunks (omega arith))

-- where a chunk ends, whatever stands for none
end_at : (chunks : Chunks) (ends : List ℕ) → AreEnds chunks ends → (k d : ℕ) → k < length chunks → get_or ends k d ≡ upto chunks (suc k)
end_at chunks ends are k d lt = get_or_default ends k d 0 (omega (arith, lt, are.one_each)) ∙ are.at k lt

-- the ends rise
pub ends_rise : (chunks : Chunks) (ends : List ℕ) → AreEnds chunks ends → IsNonDecreasingBy (λ end. end) ends
ends_rise chunks ends are i j d le lt =
    let a = end_at chunks ends are i d (omega (arith, le, lt, are.one_each)) in
    let b = end_at chunks ends are j d (omega (arith, lt, are.one_each)) in
    omega (arith, a, b, upto_rises chunks (suc i) (suc j) (omega (arith, le)))

start_is : (chunks : Chunks) (ends : List ℕ) → AreEnds chunks ends → (k : ℕ) → k ≤ length chunks → start_of 0 ends k ≡ upto chunks k
start_is chunks ends are zero le = refl
start_is chunks ends are (suc k) le = are.at k (omega (arith, le))

-- the last end is how many texts there are
pub last_end : (chunks : Chunks) (ends : List ℕ) → AreEnds chunks ends → (k : ℕ) → length ends ≡ suc k → get_or ends k 0 ≡ length (texts_in chunks)
last_end chunks ends are k long =
    let n : suc k ≡ length chunks = omega (arith, long, are.one_each) in
    are.at k (omega (arith, n)) ∙ ap (upto chunks) n ∙ upto_all chunks

-- some chunk ends behind a place among all texts
pub end_behind : (chunks : Chunks) (ends : List ℕ) (texts : List (List ℕ)) (i : ℕ) → AreEnds chunks ends → texts_in chunks ≡ texts → i < length texts → HasEndBehind ends i
end_behind chunks ends texts i are is low = by_length (length ends) refl
  where
    by_length : (n : ℕ) → length ends ≡ n → HasEndBehind ends i
    by_length zero long =
        let none : upto chunks (length chunks) ≡ 0 = ap (upto chunks) (sym are.one_each ∙ long) in
        absurd (omega (arith, none, upto_all chunks, ap length is, low))
    by_length (suc k) long =
        let last : length ends - 1 ≡ k = omega (arith, long) in
        record {
          some = omega (arith, long);
          behind = omega (arith, ap (λ n. get_or ends n 0) last, last_end chunks ends are k long, ap length is, low);
        }

from_at : (ends : List ℕ) (i at : ℕ) → at ≤ length ends → IsPartitionPoint (λ end. leb end i ≡ true) (λ end. leb end i ≡ false) ends at → start_of 0 ends at ≤ i
from_at ends i zero bound point = omega arith
from_at ends i (suc k) bound point = leb-true _ i (point.0 k 0 (omega arith) (omega arith))

within_at : (ends : List ℕ) (i at : ℕ) → HasEndBehind ends i → at ≤ length ends → IsPartitionPoint (λ end. leb end i ≡ true) (λ end. leb end i ≡ false) ends at → (b : Bool) → ltb at (length ends) ≡ b → at < length ends
within_at ends i at has bound point true e = ltb-true at (length ends) e
within_at ends i at has bound point false e =
    let last : length ends - 1 < at = omega (arith, bound, ltb-false at (length ends) e, has.some) in
    absurd (omega (arith, has.behind, leb-true _ i (point.0 (length ends - 1) 0 (omega arith) last)))

-- a search for the first chunk that ends behind a place finds the chunk that it stands in
chunk_at : (ends : List ℕ) (i at : ℕ) → HasEndBehind ends i → at ≤ length ends → IsPartitionPoint (λ end. leb end i ≡ true) (λ end. leb end i ≡ false) ends at → IsChunkAt ends i at
chunk_at ends i at has bound point =
    let within = within_at ends i at has bound point (ltb at (length ends)) refl in
    record {
      within = within;
      from = from_at ends i at bound point;
      before = leb-false (get_or ends at 0) i (point.1 at 0 (omega arith) within);
    }

-- the same by what a binary search says of a test whether a chunk ends at most there
pub found_chunk : {F : Type 0} {g : Mut F (Bor ℕ × Unit {0}) Bool} {f : F} (ends : List ℕ) (i at : ℕ) → IsNonDecreasingBy (λ end. end) ends → HasEndBehind ends i
    → at ≤ length ends → ((q : ℕ → Bool) → ComputesKey g q f → IsPartitionedBy q ends → IsPartitionPoint (λ end. q end ≡ true) (λ end. q end ≡ false) ends at)
    → ((a : Bor ℕ × Unit {0}) (r : Bool) (f' : F) → Called g f a r f' → (r ≡ leb a.0.now i) × (f' ≡ f)) → IsChunkAt ends i at
found_chunk ends i at rising has bound clause called =
    let parted = IsPartitionedBy-leb (λ end. end) ends i rising in
    chunk_at ends i at has bound (IsPartitionPoint-from_clause (λ end. leb end i) ends at clause parted called)

-- the chunk that a place stands in, and its text
pub record IsChunkOf (chunks : Chunks) (ends : List ℕ) (texts : List (List ℕ)) (i at : ℕ) : Type 0 where
  pub within : at < length chunks
  pub from : start_of 0 ends at ≤ i
  pub inside : (d : Bor (List (List ℕ))) → i - start_of 0 ends at < length (get_or chunks at d).now
  pub same : (d : Bor (List (List ℕ))) → get_or (get_or chunks at d).now (i - start_of 0 ends at) [] ≡ get_or texts i []

pub chunk_of : (chunks : Chunks) (ends : List ℕ) (texts : List (List ℕ)) (i at : ℕ) → AreEnds chunks ends → texts_in chunks ≡ texts → IsChunkAt ends i at → IsChunkOf chunks ends texts i at
chunk_of chunks ends texts i at are texts_are here =
    let within : at < length chunks = omega (arith, here.within, are.one_each) in
    let is = start_is chunks ends are at (omega (arith, within)) in
    let inside : (d : Bor (List (List ℕ))) → i - start_of 0 ends at < length (get_or chunks at d).now =
    λ d. omega (arith, here.before, are.at at within, upto_more chunks at d within, is, here.from) in
    record {
      within = within;
      from = here.from;
      inside = inside;
      same = λ d.
          let place : upto chunks at + (i - start_of 0 ends at) ≡ i = omega (arith, is, here.from) in
          sym (ap (λ k. get_or (texts_in chunks) k []) (sym place) ∙ get_or-flat_map (λ c. c.now) chunks at (i - start_of 0 ends at) d [] within (inside d)) ∙ ap (λ ts. get_or ts i []) texts_are;
    }

pub texts_more : (chunks : Chunks) (chunk : Bor (List (List ℕ))) → texts_in (chunks ++ chunk ∷ []) ≡ texts_in chunks ++ chunk.now
texts_more chunks chunk = flat_map-append (λ c. c.now) chunks (chunk ∷ []) ∙ ap (λ ts. texts_in chunks ++ ts) (append-nil chunk.now)

-- where each chunk ends once there is one more
end_more : (chunks : Chunks) (chunk : Bor (List (List ℕ))) (ends : List ℕ) (end : ℕ) → AreEnds chunks ends
    → end ≡ length (texts_in chunks) + length chunk.now → (k : ℕ) → k < length chunks + 1 → (b : Bool) → ltb k (length chunks) ≡ b
    → get_or (ends ++ end ∷ []) k 0 ≡ upto (chunks ++ chunk ∷ []) (suc k)
end_more chunks chunk ends end are is k lt true e =
    let low = ltb-true k (length chunks) e in
    get_or_append_left ends (end ∷ []) 0 k (omega (arith, low, are.one_each)) ∙ are.at k low
    ∙ sym (ap (λ cs. length (texts_in cs)) (take-append-le (suc k) chunks (chunk ∷ []) (omega (arith, low))))
end_more chunks chunk ends end are is k lt false e =
    let last : k ≡ length ends = omega (arith, lt, ltb-false k (length chunks) e, are.one_each) in
    let whole : suc k ≡ length (chunks ++ chunk ∷ []) = omega (arith, last, are.one_each, length_push chunks chunk) in
    ap (λ n. get_or (ends ++ end ∷ []) n 0) last ∙ get_or_at ends end [] 0 (length ends) refl ∙ is
    ∙ sym (length-append (texts_in chunks) chunk.now) ∙ ap length (sym (texts_more chunks chunk))
    ∙ sym (upto_all (chunks ++ chunk ∷ [])) ∙ ap (upto (chunks ++ chunk ∷ [])) (sym whole)

-- a chunk more behind the others
pub ends_more : (chunks : Chunks) (chunk : Bor (List (List ℕ))) (ends : List ℕ) (end : ℕ) → AreEnds chunks ends
    → end ≡ length (texts_in chunks) + length chunk.now → AreEnds (chunks ++ chunk ∷ []) (ends ++ end ∷ [])
ends_more chunks chunk ends end are is =
    let long = length_push chunks chunk in
    let longer = length_push ends end in
    record {
      one_each = omega (arith, long, longer, are.one_each);
      at = λ k lt. end_more chunks chunk ends end are is k (omega (arith, lt, long)) (ltb k (length chunks)) refl;
    }
