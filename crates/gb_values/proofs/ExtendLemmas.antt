-- Pieces of other bytes behind the pieces of some bytes: the bytes come at once, and the ends are shifted.
use Rattle.std.proofs.Common.{◌≡◌, ◌≤◌, ◌<◌, ◌-◌, ◌+◌, ℕ, zero, suc, List, [], ◌∷◌, ◌++◌, take, drop, length, map, refl, ◌∙◌, ap, arith}
use Rattle.std.specs.List.{All, AllByRecursion}
use Rattle.std.proofs.lemmas.List.Elements.{All-from_recursion}
use Rattle.std.proofs.Math.Seq.{drop-append-add}
use Rattle.std.proofs.lemmas.List.{drop-drop, drop-take, length-append, length-drop, length-take, take-take}
use Rattle.gb_values.specs.Array.{Rises, pieces_from, start_of}
use Rattle.gb_values.proofs.PieceLemmas.{piece_more, rises_first}

-- ---- some of the ends

-- where a place is zero or not, the start of the rest
start_more : (s end : ℕ) (ends : List ℕ) (i : ℕ) → start_of s (end ∷ ends) (suc i) ≡ start_of end ends i
start_more s end ends zero = refl
start_more s end ends (suc i) = refl

pub pieces_some : (s : ℕ) (ends bytes : List ℕ) (start count : ℕ) → start ≤ length ends →
    pieces_from (start_of s ends start) (take count (drop start ends)) bytes ≡ take count (drop start (pieces_from s ends bytes))
pieces_some s ends bytes zero zero le = refl
pieces_some s [] bytes zero (suc count) le = refl
pieces_some s (end ∷ ends) bytes zero (suc count) le = ap (λ pieces. take (end - s) (drop s bytes) ∷ pieces) (pieces_some end ends bytes zero count (omega arith))
pieces_some s [] bytes (suc start) count le = absurd (omega arith)
pieces_some s (end ∷ ends) bytes (suc start) count le =
    ap (λ from. pieces_from from (take count (drop start ends)) bytes) (start_more s end ends start) ∙ pieces_some end ends bytes start count (omega arith)

pub rises_some : (s : ℕ) (ends : List ℕ) (last start count : ℕ) → Rises s ends last → start + count ≤ length ends →
    Rises (start_of s ends start) (take count (drop start ends)) (start_of s ends (start + count))
rises_some s ends last zero zero rises le = refl
rises_some s [] last zero (suc count) rises le = absurd (omega arith)
rises_some s (end ∷ ends) last zero (suc count) rises le =
    let e : 0 + suc count ≡ suc (0 + count) = omega arith in
    (rises.0, rw (e, start_more s end ends (0 + count)) (rises_some end ends last zero count rises.1 (omega arith)))
rises_some s [] last (suc start) count rises le = absurd (omega arith)
rises_some s (end ∷ ends) last (suc start) count rises le =
    let e : suc start + count ≡ suc (start + count) = omega arith in
    rw (e, start_more s end ends start, start_more s end ends (start + count)) (rises_some end ends last start count rises.1 (omega arith))

pub start_below : (s : ℕ) (ends : List ℕ) (last i : ℕ) → Rises s ends last → i ≤ length ends → start_of s ends i ≤ last
start_below s ends last zero rises le = rises_first s ends last rises
start_below s [] last (suc i) rises le = absurd (omega arith)
start_below s (end ∷ ends) last (suc i) rises le = rw (start_more s end ends i) (start_below end ends last i rises.1 (omega arith))

-- ---- ends behind others

pub rises_append : (s : ℕ) (ends more : List ℕ) (middle last : ℕ) → Rises s ends middle → Rises middle more last → Rises s (ends ++ more) last
rises_append s [] more middle last front back = rw front back
rises_append s (end ∷ ends) more middle last front back = (front.0, rises_append end ends more middle last front.1 back)

pub pieces_append : (s : ℕ) (ends more bytes extra : List ℕ) → Rises s ends (length bytes) →
    pieces_from s (ends ++ more) (bytes ++ extra) ≡ pieces_from s ends bytes ++ pieces_from (length bytes) more (bytes ++ extra)
pieces_append s [] more bytes extra rises = ap (λ from. pieces_from from more (bytes ++ extra)) rises
pieces_append s (end ∷ ends) more bytes extra rises =
    ap (λ piece. piece ∷ pieces_from end (ends ++ more) (bytes ++ extra)) (piece_more s end bytes extra rises.0 (rises_first end ends (length bytes) rises.1))
    ∙ ap (λ pieces. take (end - s) (drop s bytes) ∷ pieces) (pieces_append end ends more bytes extra rises.1)

-- ---- ends as far behind a base as they are behind a start

abbrev pub shifted : ℕ → ℕ → List ℕ → List ℕ
shifted base from ends = map (λ end. base + (end - from)) ends

pub rises_shifted : (base from s : ℕ) (ends : List ℕ) (last : ℕ) → from ≤ s → Rises s ends last → Rises (base + (s - from)) (shifted base from ends) (base + (last - from))
rises_shifted base from s [] last le rises = ap (λ n. base + (n - from)) rises
rises_shifted base from s (end ∷ ends) last le rises =
    let up : s ≤ end = rises.0 in (omega arith, rises_shifted base from end ends last (omega arith) rises.1)

-- the shifted ends are below a limit
rises_fit : (base from limit s : ℕ) (ends : List ℕ) (last : ℕ) → from ≤ s → Rises s ends last → base + (last - from) < limit → AllByRecursion (λ end. (from ≤ end) × (base + (end - from) < limit)) ends
rises_fit base from limit s [] last low rises few = tt
rises_fit base from limit s (end ∷ ends) last low rises few =
    let up : s ≤ end = rises.0 in
    let high : end ≤ last = rises_first end ends last rises.1 in ((omega arith, omega arith), rises_fit base from limit end ends last (omega arith) rises.1 few)

module _ (bytes others : List ℕ) (from to : ℕ) where
  abbrev extra : List ℕ
  extra = take (to - from) (drop from others)

  piece_shifted : (s end : ℕ) → from ≤ s → s ≤ end → end ≤ to →
      take ((length bytes + (end - from)) - (length bytes + (s - from))) (drop (length bytes + (s - from)) (bytes ++ extra)) ≡ take (end - s) (drop s others)
  piece_shifted s end low up high =
      let long : (length bytes + (end - from)) - (length bytes + (s - from)) ≡ end - s = omega arith in
      let all : to - from ≡ (s - from) + (to - s) = omega arith in
      let at : from + (s - from) ≡ s = omega arith in
      ap (λ n. take n (drop (length bytes + (s - from)) (bytes ++ extra))) long
      ∙ ap (take (end - s))
      (drop-append-add bytes extra (s - from) ∙ ap (λ n. drop (s - from) (take n (drop from others))) all ∙ drop-take (s - from) (to - s) (drop from others))
      ∙ take-take (end - s) (to - s) (drop (s - from) (drop from others)) (omega arith)
      ∙ ap (take (end - s)) (drop-drop (s - from) from others ∙ ap (λ n. drop n others) at)

  pub pieces_shifted : (s : ℕ) (ends : List ℕ) → from ≤ s → Rises s ends to →
      pieces_from (length bytes + (s - from)) (shifted (length bytes) from ends) (bytes ++ extra) ≡ pieces_from s ends others
  pieces_shifted s [] low rises = refl
  pieces_shifted s (end ∷ ends) low rises =
      let up : s ≤ end = rises.0 in
      let high : end ≤ to = rises_first end ends to rises.1 in
      ap (λ piece. piece ∷ pieces_from (length bytes + (end - from)) (shifted (length bytes) from ends) (bytes ++ extra)) (piece_shifted s end low up high)
      ∙ ap (λ pieces. take (end - s) (drop s others) ∷ pieces) (pieces_shifted end ends (omega arith) rises.1)

-- ---- some pieces of other bytes behind all pieces of some

module _ (bytes ends others theirs : List ℕ) (start count : ℕ) (own : Rises 0 ends (length bytes)) (rises : Rises 0 theirs (length others)) (le : start + count ≤ length theirs) where
  abbrev from : ℕ
  from = start_of 0 theirs start

  abbrev to : ℕ
  to = start_of 0 theirs (start + count)

  abbrev some : List ℕ
  some = take count (drop start theirs)

  abbrev more_bytes : List ℕ
  more_bytes = take (to - from) (drop from others)

  some_rise : Rises from some to
  some_rise = rises_some 0 theirs (length others) start count rises le

  pub to_inside : to ≤ length others
  to_inside = start_below 0 theirs (length others) (start + count) rises le

  pub from_below : from ≤ to
  from_below = rises_first from some to some_rise

  pub extended_length : length (bytes ++ more_bytes) ≡ length bytes + (to - from)
  extended_length = omega (arith, length-append bytes more_bytes, length-take (to - from) (drop from others), length-drop from others, to_inside, from_below)

  pub ends_fit : (limit : ℕ) → length bytes + (to - from) < limit → All (λ end. (from ≤ end) × (length bytes + (end - from) < limit)) some
  ends_fit limit few = All-from_recursion (λ end. (from ≤ end) × (length bytes + (end - from) < limit)) some (rises_fit (length bytes) from limit from some to (omega arith) some_rise few)

  pub extended_rises : Rises 0 (ends ++ shifted (length bytes) from some) (length (bytes ++ more_bytes))
  extended_rises =
      let base : length bytes + (from - from) ≡ length bytes = omega arith in
      let more : Rises (length bytes) (shifted (length bytes) from some) (length bytes + (to - from)) = rw base at (rises_shifted (length bytes) from from some to (omega arith) some_rise) in
      rw extended_length (rises_append 0 ends (shifted (length bytes) from some) (length bytes) (length bytes + (to - from)) own more)

  pub extended_pieces : pieces_from 0 (ends ++ shifted (length bytes) from some) (bytes ++ more_bytes) ≡ pieces_from 0 ends bytes ++ take count (drop start (pieces_from 0 theirs others))
  extended_pieces =
      let base : length bytes ≡ length bytes + (from - from) = omega arith in
      pieces_append 0 ends (shifted (length bytes) from some) bytes more_bytes own
      ∙ ap (λ pieces. pieces_from 0 ends bytes ++ pieces)
      (ap (λ n. pieces_from n (shifted (length bytes) from some) (bytes ++ more_bytes)) base ∙ pieces_shifted bytes others from to from some (omega arith) some_rise
      ∙ pieces_some 0 theirs others start count (omega arith))

all_some : {A : Type 0} (P : A → Type 0) (start count : ℕ) (xs : List A) → AllByRecursion P xs → AllByRecursion P (take count (drop start xs))
all_some P zero zero xs all = tt
all_some P zero (suc count) [] all = tt
all_some P zero (suc count) (x ∷ xs) all = (all.0, all_some P zero count xs all.1)
all_some P (suc start) zero [] all = tt
all_some P (suc start) (suc count) [] all = tt
all_some P (suc start) count (x ∷ xs) all = all_some P start count xs all.1

-- what holds of each piece of both holds of each of the pieces
pub all_extended : {A : Type 0} (P : A → Type 0) (xs ys : List A) (start count : ℕ) → AllByRecursion P xs → AllByRecursion P ys → AllByRecursion P (xs ++ take count (drop start ys))
all_extended P [] ys start count all others = all_some P start count ys others
all_extended P (x ∷ xs) ys start count all others = (all.0, all_extended P xs ys start count all.1 others)
