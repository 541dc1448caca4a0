-- The pieces that places cut from a list of bytes.
use Rattle.std.proofs.Common.{◌≡◌, ◌≤◌, ◌<◌, ◌+◌, ◌-◌, ℕ, zero, suc, Bool, true, List, [], ◌∷◌, ◌++◌, take, drop, length, refl, sym, ◌∙◌, ap, ap₂, arith, get_or, subst}
use Rattle.std.specs.Cmp.{both_ways}
use Rattle.std.specs.Cmp.Lexicographic.{bytes_decides, pointwise}
use Rattle.std.specs.List.{AllByRecursion}
use Rattle.std.specs.Str.{bytes_eq}
use Rattle.std.proofs.lemmas.List.{drop-append-le, drop-drop, length-append, length-drop, length-take-le, take-append-drop, take-append-le, take_all}
use Rattle.std.proofs.lemmas.Slice.Eq.{slice_eq-Decides}
use Rattle.gb_table.specs.Pieces.{ArePieces, Rises, pieces_from, start_of}

pub pieces_length : (start : ℕ) (ends bytes : List ℕ) → length (pieces_from start ends bytes) ≡ length ends
pieces_length start [] bytes = refl
pieces_length start (end ∷ ends) bytes = ap suc (pieces_length end ends bytes)

-- ---- the piece at a place

start_next : (end : ℕ) (ends : List ℕ) (i : ℕ) → start_of end ends i ≡ get_or (end ∷ ends) i 0
start_next end ends zero = refl
start_next end ends (suc i) = refl

piece_at : (start : ℕ) (ends bytes : List ℕ) (i : ℕ) → i < length ends →
    get_or (pieces_from start ends bytes) i [] ≡ take (get_or ends i 0 - start_of start ends i) (drop (start_of start ends i) bytes)
piece_at start [] bytes i lt = absurd (omega arith)
piece_at start (end ∷ ends) bytes zero lt = refl
piece_at start (end ∷ ends) bytes (suc i) lt =
    piece_at end ends bytes i (omega arith) ∙ ap (λ s. take (get_or ends i 0 - s) (drop s bytes)) (start_next end ends i)

pub rises_first : (start : ℕ) (ends : List ℕ) (last : ℕ) → Rises start ends last → start ≤ last
rises_first start [] last h = omega (arith, h)
rises_first start (end ∷ ends) last h = omega (arith, h.0, rises_first end ends last h.1)

piece_low : (start : ℕ) (ends : List ℕ) (last i : ℕ) → Rises start ends last → i < length ends → start_of start ends i ≤ get_or ends i 0
piece_low start [] last i h lt = absurd (omega arith)
piece_low start (end ∷ ends) last zero h lt = h.0
piece_low start (end ∷ ends) last (suc i) h lt = rw (sym (start_next end ends i)) (piece_low end ends last i h.1 (omega arith))

piece_high : (start : ℕ) (ends : List ℕ) (last i : ℕ) → Rises start ends last → i < length ends → get_or ends i 0 ≤ last
piece_high start [] last i h lt = absurd (omega arith)
piece_high start (end ∷ ends) last zero h lt = rises_first end ends last h.1
piece_high start (end ∷ ends) last (suc i) h lt = piece_high end ends last i h.1 (omega arith)

all_at : {A : Type 0} (P : A → Type 0) (xs : List A) (i : ℕ) (d : A) → AllByRecursion P xs → i < length xs → P (get_or xs i d)
all_at P [] i d h lt = absurd (omega arith)
all_at P (x ∷ xs) zero d h lt = h.0
all_at P (x ∷ xs) (suc i) d h lt = all_at P xs i d h.1 (omega arith)

all_push : {A : Type 0} (P : A → Type 0) (xs : List A) (x : A) → AllByRecursion P xs → P x → AllByRecursion P (xs ++ x ∷ [])
all_push P [] x h p = (p, tt)
all_push P (y ∷ ys) x h p = (h.0, all_push P ys x h.1 p)

module _ {P : List ℕ → Type 0} {bytes ends : List ℕ} (are : ArePieces P bytes ends) (i : ℕ) (lt : i < length ends) where
  pub value_low : start_of 0 ends i ≤ get_or ends i 0
  value_low = piece_low 0 ends (length bytes) i are.rises lt

  pub value_high : get_or ends i 0 ≤ length bytes
  value_high = piece_high 0 ends (length bytes) i are.rises lt

  in_pieces : i < length (pieces_from 0 ends bytes)
  in_pieces = omega (arith, lt, pieces_length 0 ends bytes)

  pub value_is : take (get_or ends i 0 - start_of 0 ends i) (drop (start_of 0 ends i) bytes) ≡ get_or (pieces_from 0 ends bytes) i []
  value_is = sym (piece_at 0 ends bytes i lt)

  pub value_fits : P (take (get_or ends i 0 - start_of 0 ends i) (drop (start_of 0 ends i) bytes))
  value_fits = subst (λ (piece : List ℕ). P piece) (piece_at 0 ends bytes i lt) (all_at (P) (pieces_from 0 ends bytes) i [] are.fitting in_pieces)

-- ---- one more

rises_push : (start : ℕ) (ends : List ℕ) (last next : ℕ) → Rises start ends last → last ≤ next → Rises start (ends ++ next ∷ []) next
rises_push start [] last next h le = (omega (arith, h, le), refl)
rises_push start (end ∷ ends) last next h le = (h.0, rises_push end ends last next h.1 le)

pub piece_more : (start end : ℕ) (bytes more : List ℕ) → start ≤ end → end ≤ length bytes → take (end - start) (drop start (bytes ++ more)) ≡ take (end - start) (drop start bytes)
piece_more start end bytes more low high =
    let at : start ≤ length bytes = omega arith in
    let fits : end - start ≤ length (drop start bytes) = omega (arith, length-drop start bytes) in
    ap (take (end - start)) (drop-append-le start bytes more at) ∙ take-append-le (end - start) (drop start bytes) more fits

drop_front : (xs ys : List ℕ) → drop (length xs) (xs ++ ys) ≡ ys
drop_front [] ys = refl
drop_front (x ∷ xs) ys = drop_front xs ys

pieces_push : (start : ℕ) (ends bytes more : List ℕ) → Rises start ends (length bytes) →
    pieces_from start (ends ++ length (bytes ++ more) ∷ []) (bytes ++ more) ≡ pieces_from start ends bytes ++ more ∷ []
pieces_push start [] bytes more h =
    let all : length more ≤ length (bytes ++ more) - start = omega (arith, h, length-append bytes more) in
    let rest : drop start (bytes ++ more) ≡ more = ap (λ n. drop n (bytes ++ more)) h ∙ drop_front bytes more in
    ap (λ piece. piece ∷ []) (ap (take (length (bytes ++ more) - start)) rest ∙ take_all (length (bytes ++ more) - start) more all)
pieces_push start (end ∷ ends) bytes more h =
    ap (λ piece. piece ∷ pieces_from end (ends ++ length (bytes ++ more) ∷ []) (bytes ++ more)) (piece_more start end bytes more h.0 (rises_first end ends (length bytes) h.1))
    ∙ ap (λ pieces. take (end - start) (drop start bytes) ∷ pieces) (pieces_push end ends bytes more h.1)

module _ {P : List ℕ → Type 0} {bytes ends : List ℕ} (are : ArePieces P bytes ends) where
  pub value_pushed : (more : List ℕ) → pieces_from 0 (ends ++ length (bytes ++ more) ∷ []) (bytes ++ more) ≡ pieces_from 0 ends bytes ++ more ∷ []
  value_pushed more = pieces_push 0 ends bytes more are.rises

  pub value_pushed_are : (more : List ℕ) → P more → ArePieces P (bytes ++ more) (ends ++ length (bytes ++ more) ∷ [])
  value_pushed_are more fits = record {
    rises = rises_push 0 ends (length bytes) (length (bytes ++ more)) are.rises (omega (arith, length-append bytes more));
    fitting = rw (value_pushed more) (all_push (P) (pieces_from 0 ends bytes) more are.fitting fits);
  }

-- ---- the same pieces are cut from the same bytes at the same places

drop_whole : (xs : List ℕ) → drop (length xs) xs ≡ []
drop_whole [] = refl
drop_whole (x ∷ xs) = drop_whole xs

piece_length : (start end : ℕ) (bytes : List ℕ) → start ≤ end → end ≤ length bytes → length (take (end - start) (drop start bytes)) ≡ end - start
piece_length start end bytes low high = length-take-le (end - start) (drop start bytes) (omega (arith, length-drop start bytes))

same_from : (start : ℕ) (ends ends' bytes bytes' : List ℕ) → Rises start ends (length bytes) → Rises start ends' (length bytes') → pieces_from start ends bytes ≡ pieces_from start ends' bytes' →
    (ends ≡ ends') × (drop start bytes ≡ drop start bytes')
same_from start [] [] bytes bytes' h k e = (refl, ap (λ n. drop n bytes) h ∙ drop_whole bytes ∙ sym (ap (λ n. drop n bytes') k ∙ drop_whole bytes'))
same_from start [] (end' ∷ ends') bytes bytes' h k e = cc
same_from start (end ∷ ends) [] bytes bytes' h k e = cc
same_from start (end ∷ ends) (end' ∷ ends') bytes bytes' h k e =
    let first : take (end - start) (drop start bytes) ≡ take (end' - start) (drop start bytes') = cc in
    let rest : pieces_from end ends bytes ≡ pieces_from end' ends' bytes' = cc in
    let high : end ≤ length bytes = rises_first end ends (length bytes) h.1 in
    let high' : end' ≤ length bytes' = rises_first end' ends' (length bytes') k.1 in
    let long : end - start ≡ end' - start = sym (piece_length start end bytes h.0 high) ∙ ap length first ∙ piece_length start end' bytes' k.0 high' in
    let at : end ≡ end' = omega (arith, h.0, k.0, long) in
    let later = same_from end ends ends' bytes bytes' h.1 (subst (λ n. Rises n ends' (length bytes')) (sym at) k.1) (rest ∙ ap (λ n. pieces_from n ends' bytes') (sym at)) in
    let back : end ≡ start + (end - start) = omega (arith, h.0) in
    let behind : drop (end - start) (drop start bytes) ≡ drop (end' - start) (drop start bytes') =
    drop-drop (end - start) start bytes ∙ ap (λ n. drop n bytes) (sym back) ∙ later.1 ∙ ap (λ n. drop n bytes') back ∙ sym (drop-drop (end - start) start bytes') ∙ ap (λ n. drop n (drop start bytes')) long in (
      ap₂ (λ (n : ℕ) (ns : List ℕ). n ∷ ns) at later.0,
      sym (take-append-drop (end - start) (drop start bytes)) ∙ ap₂ (λ (f r : List ℕ). f ++ r) first behind ∙ take-append-drop (end' - start) (drop start bytes'),
    )

-- bytes and places tell pieces apart
pub pieces_same : (ends ends' bytes bytes' : List ℕ) → Rises 0 ends (length bytes) → Rises 0 ends' (length bytes') → pieces_from 0 ends bytes ≡ pieces_from 0 ends' bytes' → (ends ≡ ends') × (bytes ≡ bytes')
pieces_same ends ends' bytes bytes' h k e = same_from 0 ends ends' bytes bytes' h k e

-- where it is told whether bytes and places are the same
pub same_told : {P : List ℕ → Type 0} {ends ends' bytes bytes' : List ℕ} → ArePieces P bytes ends → ArePieces P bytes' ends' → (r : Bool) → (r ≡ true → (ends ≡ ends') × (bytes ≡ bytes')) → (ends ≡ ends' → bytes ≡ bytes' → r ≡ true) →
    r ≡ pointwise bytes_eq (pieces_from 0 ends bytes) (pieces_from 0 ends' bytes')
same_told {P} {ends} {ends'} {bytes} {bytes'} are are' r yields from =
    let decides = slice_eq-Decides bytes_decides (pieces_from 0 ends bytes) (pieces_from 0 ends' bytes') (pointwise bytes_eq (pieces_from 0 ends bytes) (pieces_from 0 ends' bytes')) refl in
    both_ways r (pointwise bytes_eq (pieces_from 0 ends bytes) (pieces_from 0 ends' bytes'))
    (λ t. decides.1 (ap₂ (pieces_from 0) (yields t).0 (yields t).1))
    (λ t. let same = pieces_same ends ends' bytes bytes' are.rises are'.rises (decides.0 t) in from same.0 same.1)
