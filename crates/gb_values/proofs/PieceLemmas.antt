-- Values of bytes in a row: the pieces that places cut from bytes.
use Rattle.std.proofs.Common.{◌≡◌, ◌≤◌, ◌<◌, ◌-◌, ℕ, zero, suc, List, [], ◌∷◌, ◌++◌, take, drop, length, map, refl, sym, ◌∙◌, ap, arith, get_or, subst, Option, Some, None, option_map}
use Rattle.std.specs.List.{All, AllByRecursion}
use Rattle.std.proofs.lemmas.List.Elements.{All-from_recursion}
use Rattle.gb_defs.specs.ColumnType.{FlatType, Flat, Fits, FitsBytes}
use Rattle.std.proofs.lemmas.List.{drop-append-le, length-append, length-drop, map-append, take-append-le, take_all}
use Rattle.gb_defs.specs.Slot.{Slot, Bytes}
use Rattle.gb_values.specs.Array.{ArePieces, Rises, pieces_from, start_of}

abbrev slot_of : List ℕ → Slot
slot_of piece = Bytes piece

pub pieces_length : (start : ℕ) (ends bytes : List ℕ) → length (pieces_from start ends bytes) ≡ length ends
pieces_length start [] bytes = refl
pieces_length start (end ∷ ends) bytes = ap suc (pieces_length end ends bytes)

-- ---- the piece at a place

start_next : (end : ℕ) (ends : List ℕ) (i : ℕ) → start_of end ends i ≡ get_or (end ∷ ends) i 0
start_next end ends zero = refl
start_next end ends (suc i) = refl

piece_at : (start : ℕ) (ends bytes : List ℕ) (i : ℕ) → i < length ends →
    get_or (pieces_from start ends bytes) i [] ≡ take (get_or ends i 0 - start_of start ends i) (drop (start_of start ends i) bytes)
piece_at start [] bytes i lt = absurd (omega arith)
piece_at start (end ∷ ends) bytes zero lt = refl
piece_at start (end ∷ ends) bytes (suc i) lt =
    piece_at end ends bytes i (omega arith) ∙ ap (λ s. take (get_or ends i 0 - s) (drop s bytes)) (start_next end ends i)

pub rises_first : (start : ℕ) (ends : List ℕ) (last : ℕ) → Rises start ends last → start ≤ last
rises_first start [] last h = omega (arith, h)
rises_first start (end ∷ ends) last h = omega (arith, h.0, rises_first end ends last h.1)

piece_low : (start : ℕ) (ends : List ℕ) (last i : ℕ) → Rises start ends last → i < length ends → start_of start ends i ≤ get_or ends i 0
piece_low start [] last i h lt = absurd (omega arith)
piece_low start (end ∷ ends) last zero h lt = h.0
piece_low start (end ∷ ends) last (suc i) h lt = rw (sym (start_next end ends i)) (piece_low end ends last i h.1 (omega arith))

piece_high : (start : ℕ) (ends : List ℕ) (last i : ℕ) → Rises start ends last → i < length ends → get_or ends i 0 ≤ last
piece_high start [] last i h lt = absurd (omega arith)
piece_high start (end ∷ ends) last zero h lt = rises_first end ends last h.1
piece_high start (end ∷ ends) last (suc i) h lt = piece_high end ends last i h.1 (omega arith)

all_at : {A : Type 0} (P : A → Type 0) (xs : List A) (i : ℕ) (d : A) → AllByRecursion P xs → i < length xs → P (get_or xs i d)
all_at P [] i d h lt = absurd (omega arith)
all_at P (x ∷ xs) zero d h lt = h.0
all_at P (x ∷ xs) (suc i) d h lt = all_at P xs i d h.1 (omega arith)

all_push : {A : Type 0} (P : A → Type 0) (xs : List A) (x : A) → AllByRecursion P xs → P x → AllByRecursion P (xs ++ x ∷ [])
all_push P [] x h p = (p, tt)
all_push P (y ∷ ys) x h p = (h.0, all_push P ys x h.1 p)

module _ {t : FlatType} {bytes ends : List ℕ} (are : ArePieces t bytes ends) (i : ℕ) (lt : i < length ends) where
  pub value_low : start_of 0 ends i ≤ get_or ends i 0
  value_low = piece_low 0 ends (length bytes) i are.rises lt

  pub value_high : get_or ends i 0 ≤ length bytes
  value_high = piece_high 0 ends (length bytes) i are.rises lt

  in_pieces : i < length (pieces_from 0 ends bytes)
  in_pieces = omega (arith, lt, pieces_length 0 ends bytes)

  pub value_is : take (get_or ends i 0 - start_of 0 ends i) (drop (start_of 0 ends i) bytes) ≡ get_or (pieces_from 0 ends bytes) i []
  value_is = sym (piece_at 0 ends bytes i lt)

  pub value_fits : FitsBytes t (take (get_or ends i 0 - start_of 0 ends i) (drop (start_of 0 ends i) bytes))
  value_fits = subst (λ (piece : List ℕ). FitsBytes t piece) (piece_at 0 ends bytes i lt) (all_at (FitsBytes t) (pieces_from 0 ends bytes) i [] are.fitting in_pieces)

-- ---- one more

rises_push : (start : ℕ) (ends : List ℕ) (last next : ℕ) → Rises start ends last → last ≤ next → Rises start (ends ++ next ∷ []) next
rises_push start [] last next h le = (omega (arith, h, le), refl)
rises_push start (end ∷ ends) last next h le = (h.0, rises_push end ends last next h.1 le)

pub piece_more : (start end : ℕ) (bytes more : List ℕ) → start ≤ end → end ≤ length bytes → take (end - start) (drop start (bytes ++ more)) ≡ take (end - start) (drop start bytes)
piece_more start end bytes more low high =
    let at : start ≤ length bytes = omega arith in
    let fits : end - start ≤ length (drop start bytes) = omega (arith, length-drop start bytes) in
    ap (take (end - start)) (drop-append-le start bytes more at) ∙ take-append-le (end - start) (drop start bytes) more fits

drop_front : (xs ys : List ℕ) → drop (length xs) (xs ++ ys) ≡ ys
drop_front [] ys = refl
drop_front (x ∷ xs) ys = drop_front xs ys

pieces_push : (start : ℕ) (ends bytes more : List ℕ) → Rises start ends (length bytes) →
    pieces_from start (ends ++ length (bytes ++ more) ∷ []) (bytes ++ more) ≡ pieces_from start ends bytes ++ more ∷ []
pieces_push start [] bytes more h =
    let all : length more ≤ length (bytes ++ more) - start = omega (arith, h, length-append bytes more) in
    let rest : drop start (bytes ++ more) ≡ more = ap (λ n. drop n (bytes ++ more)) h ∙ drop_front bytes more in
    ap (λ piece. piece ∷ []) (ap (take (length (bytes ++ more) - start)) rest ∙ take_all (length (bytes ++ more) - start) more all)
pieces_push start (end ∷ ends) bytes more h =
    ap (λ piece. piece ∷ pieces_from end (ends ++ length (bytes ++ more) ∷ []) (bytes ++ more)) (piece_more start end bytes more h.0 (rises_first end ends (length bytes) h.1))
    ∙ ap (λ pieces. take (end - start) (drop start bytes) ∷ pieces) (pieces_push end ends bytes more h.1)

module _ {t : FlatType} {bytes ends : List ℕ} (are : ArePieces t bytes ends) where
  pub value_pushed : (more : List ℕ) → pieces_from 0 (ends ++ length (bytes ++ more) ∷ []) (bytes ++ more) ≡ pieces_from 0 ends bytes ++ more ∷ []
  value_pushed more = pieces_push 0 ends bytes more are.rises

  pub value_pushed_are : (more : List ℕ) → FitsBytes t more → ArePieces t (bytes ++ more) (ends ++ length (bytes ++ more) ∷ [])
  value_pushed_are more fits = record {
    rises = rises_push 0 ends (length bytes) (length (bytes ++ more)) are.rises (omega (arith, length-append bytes more));
    fitting = rw (value_pushed more) (all_push (FitsBytes t) (pieces_from 0 ends bytes) more are.fitting fits);
  }

  -- the same for bytes that may have been read
  pub read_pushed : (read : Option (List ℕ)) (grown : List ℕ) → Some grown ≡ option_map (λ more. bytes ++ more) read →
      Some (map slot_of (pieces_from 0 (ends ++ length grown ∷ []) grown)) ≡ option_map (λ slot. map slot_of (pieces_from 0 ends bytes) ++ slot ∷ []) (option_map slot_of read)
  read_pushed None grown e = cc
  read_pushed (Some more) grown e =
      let is : grown ≡ bytes ++ more = cc in
      rw is (ap (λ pieces. Some (map slot_of pieces)) (value_pushed more) ∙ ap (λ slots. Some slots) (map-append slot_of (pieces_from 0 ends bytes) (more ∷ [])))

  pub read_pushed_are : (read : Option (List ℕ)) (grown : List ℕ) → Some grown ≡ option_map (λ more. bytes ++ more) read → ((more : List ℕ) → read ≡ Some more → FitsBytes t more) →
      ArePieces t grown (ends ++ length grown ∷ [])
  read_pushed_are None grown e fits = cc
  read_pushed_are (Some more) grown e fits = let is : grown ≡ bytes ++ more = cc in rw is (value_pushed_are more (fits more refl))

  pieces_fit : (pieces : List (List ℕ)) → AllByRecursion (FitsBytes t) pieces → AllByRecursion (Fits (Flat t)) (map slot_of pieces)
  pieces_fit [] all = tt
  pieces_fit (piece ∷ pieces) all = (all.0, pieces_fit pieces all.1)

  pub values_fit : All (Fits (Flat t)) (map slot_of (pieces_from 0 ends bytes))
  values_fit = All-from_recursion (Fits (Flat t)) (map slot_of (pieces_from 0 ends bytes)) (pieces_fit (pieces_from 0 ends bytes) are.fitting)
