-- The pieces that ends cut from a list.
use Rattle.std.proofs.Common.{◌≡◌, ℕ, zero, suc, ◌+◌, ◌-◌, ◌<◌, ◌≤◌, List, [], ◌∷◌, ◌++◌, length, map, take, drop, get_or, refl, sym, ◌∙◌, ap, arith, subst}
use Rattle.std.specs.List.{All, AllByRecursion, flat_map, range_with_len}
use Rattle.std.proofs.lemmas.List.{append_assoc, drop-append-le, drop-map, drop-take, drop_more, take-append-drop, length-append, length-drop, length-take, map_more, take-append-le, take-map, take_all, take_more}
use Rattle.std.proofs.lemmas.Grind.{flat_map-append}
use Rattle.std.proofs.lemmas.List.{append-nil}
use Rattle.std.proofs.lemmas.List.Elements.{All-from_recursion}
use Rattle.std.proofs.Math.Seq.{drop-append-add, drop-nil}
use Rattle.gb_defs.specs.Slices.{between}
use Rattle.gb_values.specs.Array.{Rises, start_of}
use Rattle.gb_series.specs.Rows.{AreItems, pieces_to, places_at}

module _ {A : Type 0} where
  pub pieces_length : (start : ℕ) (ends : List ℕ) (items : List A) → length (pieces_to start ends items) ≡ length ends
  pieces_length start [] items = refl
  pieces_length start (end ∷ ends) items = ap suc (pieces_length end ends items)

pub rises_first : (start : ℕ) (ends : List ℕ) (last : ℕ) → Rises start ends last → start ≤ last
rises_first start [] last h = omega (arith, h)
rises_first start (end ∷ ends) last h = omega (arith, h.0, rises_first end ends last h.1)

start_next : (end : ℕ) (ends : List ℕ) (i : ℕ) → start_of end ends i ≡ get_or (end ∷ ends) i 0
start_next end ends zero = refl
start_next end ends (suc i) = refl

piece_at_from : {A : Type 0} (start : ℕ) (ends : List ℕ) (items : List A) (i : ℕ) → i < length ends → get_or (pieces_to start ends items) i [] ≡ between (start_of start ends i) (get_or ends i 0) items
piece_at_from start [] items i lt = absurd (omega (arith, lt))
piece_at_from start (end ∷ ends) items zero lt = refl
piece_at_from start (end ∷ ends) items (suc i) lt =
    piece_at_from end ends items i (omega (arith, lt)) ∙ ap (λ s. between s (get_or ends i 0) items) (start_next end ends i)

-- the piece at a place
pub piece_at : {A : Type 0} (ends : List ℕ) (items : List A) (i : ℕ) → i < length ends → get_or (pieces_to 0 ends items) i [] ≡ between (start_of 0 ends i) (get_or ends i 0) items
piece_at ends items i lt = piece_at_from 0 ends items i lt

low_from : (start : ℕ) (ends : List ℕ) (last i : ℕ) → Rises start ends last → i < length ends → start_of start ends i ≤ get_or ends i 0
low_from start [] last i h lt = absurd (omega (arith, lt))
low_from start (end ∷ ends) last zero h lt = h.0
low_from start (end ∷ ends) last (suc i) h lt = rw (sym (start_next end ends i)) (low_from end ends last i h.1 (omega (arith, lt)))

high_from : (start : ℕ) (ends : List ℕ) (last i : ℕ) → Rises start ends last → i < length ends → get_or ends i 0 ≤ last
high_from start [] last i h lt = absurd (omega (arith, lt))
high_from start (end ∷ ends) last zero h lt = rises_first end ends last h.1
high_from start (end ∷ ends) last (suc i) h lt = high_from end ends last i h.1 (omega (arith, lt))

pub piece_low : (ends : List ℕ) (last i : ℕ) → Rises 0 ends last → i < length ends → start_of 0 ends i ≤ get_or ends i 0
piece_low ends last i rises lt = low_from 0 ends last i rises lt

pub piece_high : (ends : List ℕ) (last i : ℕ) → Rises 0 ends last → i < length ends → get_or ends i 0 ≤ last
piece_high ends last i rises lt = high_from 0 ends last i rises lt

-- one number more behind those from a number on
pub range_more : (a n : ℕ) → range_with_len a (n + 1) ≡ range_with_len a n ++ (a + n) ∷ []
range_more a zero = let here : a ≡ a + 0 = omega arith in ap (λ m. m ∷ []) here
range_more a (suc n) =
    let more : suc n + 1 ≡ suc (n + 1) = omega arith in
    let last : (a + 1) + n ≡ a + suc n = omega arith in
    ap (range_with_len a) more ∙ ap (λ ns. a ∷ ns) (range_more (a + 1) n ∙ ap (λ m. range_with_len (a + 1) n ++ m ∷ []) last)

-- the same behind other places
pub place_more : (before : List ℕ) (start place : ℕ) → start ≤ place → (before ++ range_with_len start (place - start)) ++ place ∷ [] ≡ before ++ range_with_len start (place + 1 - start)
place_more before start place le =
    let count : place + 1 - start ≡ (place - start) + 1 = omega (arith, le) in
    let last : start + (place - start) ≡ place = omega (arith, le) in
    append_assoc before (range_with_len start (place - start)) (place ∷ [])
    ∙ ap (λ ns. before ++ ns) (sym (ap (range_with_len start) count ∙ range_more start (place - start) ∙ ap (λ m. range_with_len start (place - start) ++ m ∷ []) last))

-- ---- other ends behind

pub rises_join : (start : ℕ) (ends more : List ℕ) (middle last : ℕ) → Rises start ends middle → Rises middle more last → Rises start (ends ++ more) last
rises_join start [] more middle last h k = subst (λ (s : ℕ). Rises s more last) (sym h) k
rises_join start (end ∷ ends) more middle last h k = (h.0, rises_join end ends more middle last h.1 k)

rises_moved : (start by : ℕ) (ends : List ℕ) (last : ℕ) → Rises start ends last → Rises (by + start) (map (λ end. by + end) ends) (by + last)
rises_moved start by [] last h = ap (λ n. by + n) h
rises_moved start by (end ∷ ends) last h = (omega (arith, h.0), rises_moved end by ends last h.1)

-- the ends of some items, and behind them those of others
pub rises_both : (ends more : List ℕ) (count others : ℕ) → Rises 0 ends count → Rises 0 more others → Rises 0 (ends ++ map (λ end. count + end) more) (count + others)
rises_both ends more count others h k =
    let zero_more : count + 0 ≡ count = omega arith in
    rises_join 0 ends (map (λ end. count + end) more) count (count + others) h
    (subst (λ (s : ℕ). Rises s (map (λ end. count + end) more) (count + others)) zero_more (rises_moved 0 count more others k))

module _ {A : Type 0} where
  front_piece : (start end : ℕ) (items more : List A) → start ≤ end → end ≤ length items → between start end (items ++ more) ≡ between start end items
  front_piece start end items more low high =
      let at : start ≤ length items = omega (arith, low, high) in
      let fits : end - start ≤ length (drop start items) = omega (arith, length-drop start items, high) in
      ap (take (end - start)) (drop-append-le start items more at) ∙ take-append-le (end - start) (drop start items) more fits

  front_pieces : (start : ℕ) (ends : List ℕ) (items more : List A) (last : ℕ) → Rises start ends last → last ≤ length items → pieces_to start ends (items ++ more) ≡ pieces_to start ends items
  front_pieces start [] items more last h le = refl
  front_pieces start (end ∷ ends) items more last h le =
      let high : end ≤ length items = omega (arith, rises_first end ends last h.1, le) in
      ap (λ piece. piece ∷ pieces_to end ends (items ++ more)) (front_piece start end items more h.0 high)
      ∙ ap (λ pieces. between start end items ∷ pieces) (front_pieces end ends items more last h.1 le)

  pub pieces_join : (start : ℕ) (ends more : List ℕ) (middle : ℕ) (items : List A) → Rises start ends middle → pieces_to start (ends ++ more) items ≡ pieces_to start ends items ++ pieces_to middle more items
  pieces_join start [] more middle items h = ap (λ s. pieces_to s more items) h
  pieces_join start (end ∷ ends) more middle items h = ap (λ pieces. between start end items ∷ pieces) (pieces_join end ends more middle items h.1)

  back_piece : (start end : ℕ) (items more : List A) → between (length items + start) (length items + end) (items ++ more) ≡ between start end more
  back_piece start end items more =
      let count : (length items + end) - (length items + start) ≡ end - start = omega arith in
      ap (λ n. take n (drop (length items + start) (items ++ more))) count ∙ ap (take (end - start)) (drop-append-add items more start)

  back_pieces : (start : ℕ) (ends : List ℕ) (items more : List A) → pieces_to (length items + start) (map (λ end. length items + end) ends) (items ++ more) ≡ pieces_to start ends more
  back_pieces start [] items more = refl
  back_pieces start (end ∷ ends) items more =
      ap (λ piece. piece ∷ pieces_to (length items + end) (map (λ e. length items + e) ends) (items ++ more)) (back_piece start end items more)
      ∙ ap (λ pieces. between start end more ∷ pieces) (back_pieces end ends items more)

  -- the pieces of some items, and behind them those of others
  pub pieces_both : (ends more : List ℕ) (items others : List A) → Rises 0 ends (length items) →
      pieces_to 0 (ends ++ map (λ end. length items + end) more) (items ++ others) ≡ pieces_to 0 ends items ++ pieces_to 0 more others
  pieces_both ends more items others h =
      let zero_more : length items ≡ length items + 0 = omega arith in
      pieces_join 0 ends (map (λ end. length items + end) more) (length items) (items ++ others) h
      ∙ ap (λ pieces. pieces ++ pieces_to (length items) (map (λ end. length items + end) more) (items ++ others)) (front_pieces 0 ends items others (length items) h (omega arith))
      ∙ ap (λ s. pieces_to 0 ends items ++ pieces_to s (map (λ end. length items + end) more) (items ++ others)) zero_more
      ∙ ap (λ pieces. pieces_to 0 ends items ++ pieces) (back_pieces 0 more items others)

-- the place to which the ends rise is the last of them
pub rises_end : (start : ℕ) (ends : List ℕ) (last : ℕ) → Rises start ends last → start_of start ends (length ends) ≡ last
rises_end start [] last h = h
rises_end start (end ∷ ends) last h = sym (start_next end ends (length ends)) ∙ rises_end end ends last h.1

-- the pieces are those of the first items
pub pieces_front : {A : Type 0} (start : ℕ) (ends : List ℕ) (last : ℕ) (items : List A) → Rises start ends last → last ≤ length items → pieces_to start ends items ≡ pieces_to start ends (take last items)
pieces_front start ends last items rises within =
    let long : last ≤ length (take last items) = omega (arith, within, length-take last items) in
    ap (pieces_to start ends) (sym (take-append-drop last items)) ∙ front_pieces start ends (take last items) (drop last items) last rises long

-- ---- one piece more

pub whole_piece : {A : Type 0} (items : List A) → between 0 (length items) items ≡ items
whole_piece items = let e : length items - 0 ≡ length items = omega arith in ap (λ n. take n items) e ∙ take_all (length items) items (omega arith)

module _ {A : Type 0} (ends : List ℕ) (items more : List A) (rises : Rises 0 ends (length items)) where
  one_end : ends ++ length (items ++ more) ∷ [] ≡ ends ++ map (λ end. length items + end) (length more ∷ [])
  one_end = ap (λ n. ends ++ n ∷ []) (length-append items more)

  pub piece_pushed : pieces_to 0 (ends ++ length (items ++ more) ∷ []) (items ++ more) ≡ pieces_to 0 ends items ++ more ∷ []
  piece_pushed =
      ap (λ es. pieces_to 0 es (items ++ more)) one_end ∙ pieces_both ends (length more ∷ []) items more rises ∙ ap (λ piece. pieces_to 0 ends items ++ piece ∷ []) (whole_piece more)

  pub rises_pushed : Rises 0 (ends ++ length (items ++ more) ∷ []) (length (items ++ more))
  rises_pushed =
      subst (λ (n : ℕ). Rises 0 (ends ++ length (items ++ more) ∷ []) n) (sym (length-append items more))
      (subst (λ (es : List ℕ). Rises 0 es (length items + length more)) (sym one_end) (rises_both ends (length more ∷ []) (length items) (length more) rises (omega arith, refl)))

-- the items of one row more
pub items_more : (ends rows : List ℕ) (at : ℕ) (found found' places places' : List ℕ) → at < length rows → AreItems ends (take at rows) found places →
    places' ≡ places ++ places_at ends (get_or rows at 0) → found' ≡ found ++ length places' ∷ [] → AreItems ends (take (at + 1) rows) found' places'
items_more ends rows at found found' places places' lt are more end =
    let row = places_at ends (get_or rows at 0) in
    let taken : take (at + 1) rows ≡ take at rows ++ get_or rows at 0 ∷ [] = take_more rows at 0 lt in
    let all : flat_map (places_at ends) (take (at + 1) rows) ≡ flat_map (places_at ends) (take at rows) ++ row =
    ap (flat_map (places_at ends)) taken ∙ flat_map-append (places_at ends) (take at rows) (get_or rows at 0 ∷ []) ∙ ap (λ ns. flat_map (places_at ends) (take at rows) ++ ns) (append-nil row) in
    let each : map (places_at ends) (take (at + 1) rows) ≡ map (places_at ends) (take at rows) ++ row ∷ [] = map_more (places_at ends) rows at 0 lt in
    let found_is : found' ≡ found ++ length (places ++ row) ∷ [] = end ∙ ap (λ ps. found ++ length ps ∷ []) more in record {
      placed = more ∙ ap (λ ps. ps ++ row) are.placed ∙ sym all;
      pieced =
          ap (pieces_to 0 found') more ∙ ap (λ es. pieces_to 0 es (places ++ row)) found_is ∙ piece_pushed found places row are.rises
          ∙ ap (λ pieces. pieces ++ row ∷ []) are.pieced ∙ sym each;
      rises =
          subst (λ (ps : List ℕ). Rises 0 found' (length ps)) (sym more)
          (subst (λ (es : List ℕ). Rises 0 es (length (places ++ row))) (sym found_is) (rises_pushed found places row are.rises));
    }

-- ---- pieces of what is read by place

module _ {A B : Type 0} (f : A → B) where
  between_mapped : (start end : ℕ) (items : List A) → between start end (map f items) ≡ map f (between start end items)
  between_mapped start end items = ap (take (end - start)) (drop-map f start items) ∙ take-map f (end - start) (drop start items)

  pub pieces_mapped : (start : ℕ) (ends : List ℕ) (items : List A) → pieces_to start ends (map f items) ≡ map (map f) (pieces_to start ends items)
  pieces_mapped start [] items = refl
  pieces_mapped start (end ∷ ends) items =
      ap (λ piece. piece ∷ pieces_to end ends (map f items)) (between_mapped start end items)
      ∙ ap (λ pieces. map f (between start end items) ∷ pieces) (pieces_mapped end ends items)

module _ {A : Type 0} (d : A) (items : List A) where
  -- what places that follow each other hold
  read_range : (start count : ℕ) → start + count ≤ length items → map (λ place. get_or items place d) (range_with_len start count) ≡ take count (drop start items)
  read_range start zero le = sym (take_none (drop start items))
    where
      take_none : (xs : List A) → take 0 xs ≡ []
      take_none [] = refl
      take_none (x ∷ xs) = refl
  read_range start (suc count) le =
      let lt : start < length items = omega (arith, le) in
      let le' : (start + 1) + count ≤ length items = omega (arith, le) in
      ap (λ xs. get_or items start d ∷ xs) (read_range (start + 1) count le') ∙ sym (ap (take (suc count)) (drop_more items start d lt))

  pub read_piece : (ends : List ℕ) (last row : ℕ) → Rises 0 ends last → last ≤ length items → row < length ends → map (λ place. get_or items place d) (places_at ends row) ≡ get_or (pieces_to 0 ends items) row []
  read_piece ends last row rises within lt =
      let low = piece_low ends last row rises lt in
      let high = piece_high ends last row rises lt in
      read_range (start_of 0 ends row) (get_or ends row 0 - start_of 0 ends row) (omega (arith, low, high, within)) ∙ sym (piece_at ends items row lt)

  pub read_pieces : (ends rows : List ℕ) (last : ℕ) → Rises 0 ends last → last ≤ length items → AllByRecursion (λ row. row < length ends) rows →
      map (map (λ place. get_or items place d)) (map (places_at ends) rows) ≡ map (λ row. get_or (pieces_to 0 ends items) row []) rows
  read_pieces ends [] last rises within all = refl
  read_pieces ends (row ∷ rows) last rises within all =
      ap (λ piece. piece ∷ map (map (λ place. get_or items place d)) (map (places_at ends) rows)) (read_piece ends last row rises within all.0)
      ∙ ap (λ pieces. get_or (pieces_to 0 ends items) row [] ∷ pieces) (read_pieces ends rows last rises within all.1)

range_below : (start count limit : ℕ) → start + count ≤ limit → AllByRecursion (λ place. place < limit) (range_with_len start count)
range_below start zero limit le = tt
range_below start (suc count) limit le = (omega (arith, le), range_below (start + 1) count limit (omega (arith, le)))

all_joined : {A : Type 0} (P : A → Type 0) (xs ys : List A) → AllByRecursion P xs → AllByRecursion P ys → AllByRecursion P (xs ++ ys)
all_joined P [] ys a b = b
all_joined P (x ∷ xs) ys a b = (a.0, all_joined P xs ys a.1 b)

-- the places of the rows' items are below their count
pub places_below : (ends rows : List ℕ) (count : ℕ) → Rises 0 ends count → AllByRecursion (λ row. row < length ends) rows → AllByRecursion (λ place. place < count) (flat_map (places_at ends) rows)
places_below ends [] count rises all = tt
places_below ends (row ∷ rows) count rises all =
    let low = piece_low ends count row rises all.0 in
    let high = piece_high ends count row rises all.0 in
    let joined : flat_map (places_at ends) (row ∷ rows) ≡ places_at ends row ++ flat_map (places_at ends) rows = refl in
    subst (λ (ps : List ℕ). AllByRecursion (λ place. place < count) ps) (sym joined)
    (all_joined (λ place. place < count) (places_at ends row) (flat_map (places_at ends) rows) (range_below (start_of 0 ends row) (get_or ends row 0 - start_of 0 ends row) count (omega (arith, low, high))) (places_below ends rows count rises all.1))

-- ---- some pieces from a place on

start_end : (start : ℕ) (ends : List ℕ) (k : ℕ) → start_of start ends (suc k) ≡ get_or ends k 0
start_end start ends k = refl

module _ {A : Type 0} where
  pub pieces_take : (n start : ℕ) (ends : List ℕ) (items : List A) → take n (pieces_to start ends items) ≡ pieces_to start (take n ends) items
  pieces_take zero start [] items = refl
  pieces_take zero start (end ∷ ends) items = refl
  pieces_take (suc n) start [] items = refl
  pieces_take (suc n) start (end ∷ ends) items = ap (λ pieces. between start end items ∷ pieces) (pieces_take n end ends items)

  pieces_drop : (n start : ℕ) (ends : List ℕ) (items : List A) → n ≤ length ends → drop n (pieces_to start ends items) ≡ pieces_to (start_of start ends n) (drop n ends) items
  pieces_drop zero start [] items le = refl
  pieces_drop zero start (end ∷ ends) items le = refl
  pieces_drop (suc n) start [] items le = absurd (omega (arith, le))
  pieces_drop (suc n) start (end ∷ ends) items le =
      pieces_drop n end ends items (omega (arith, le)) ∙ ap (λ s. pieces_to s (drop n ends) items) (start_next end ends n)

  drop_twice : (n k : ℕ) (items : List A) → drop n (drop k items) ≡ drop (k + n) items
  drop_twice n zero [] = ap (λ m. drop m []) (omega arith)
  drop_twice n zero (x ∷ xs) = ap (λ m. drop m (x ∷ xs)) (omega arith)
  drop_twice n (suc k) [] = drop-nil n ∙ sym (drop-nil (suc k + n))
  drop_twice n (suc k) (x ∷ xs) = let e : suc k + n ≡ suc (k + n) = omega arith in drop_twice n k xs ∙ sym (ap (λ m. drop m (x ∷ xs)) e)

  -- a piece, of a part that begins before it and ends behind it
  part_piece : (first count start end : ℕ) (items : List A) → first ≤ start → start ≤ end → end ≤ first + count → between (start - first) (end - first) (take count (drop first items)) ≡ between start end items
  part_piece first count start end items low rising high =
      let back : first + (start - first) ≡ start = omega (arith, low) in
      let size : (end - first) - (start - first) ≡ end - start = omega (arith, low, rising) in
      let room : (start - first) + (count - (start - first)) ≡ count = omega (arith, low, rising, high) in
      let fits : end - start ≤ count - (start - first) = omega (arith, low, rising, high) in
      ap (λ n. take n (drop (start - first) (take count (drop first items)))) size
      ∙ ap (λ n. take (end - start) (drop (start - first) (take n (drop first items)))) (sym room)
      ∙ ap (take (end - start)) (drop-take (start - first) (count - (start - first)) (drop first items))
      ∙ ap (λ xs. take (end - start) (take (count - (start - first)) xs)) (drop_twice (start - first) first items ∙ ap (λ n. drop n items) back)
      ∙ take_less (end - start) (count - (start - first)) (drop start items) fits
    where
      take_less : (n m : ℕ) (xs : List A) → n ≤ m → take n (take m xs) ≡ take n xs
      take_less zero zero [] le = refl
      take_less zero zero (x ∷ xs) le = refl
      take_less zero (suc m) [] le = refl
      take_less zero (suc m) (x ∷ xs) le = refl
      take_less (suc n) zero xs le = absurd (omega (arith, le))
      take_less (suc n) (suc m) [] le = refl
      take_less (suc n) (suc m) (x ∷ xs) le = ap (λ ys. x ∷ ys) (take_less n m xs (omega (arith, le)))

  part_pieces : (first count start : ℕ) (ends : List ℕ) (last : ℕ) (items : List A) → first ≤ start → Rises start ends last → last ≤ first + count →
      pieces_to (start - first) (map (λ end. end - first) ends) (take count (drop first items)) ≡ pieces_to start ends items
  part_pieces first count start [] last items low rises high = refl
  part_pieces first count start (end ∷ ends) last items low rises high =
      let end_high : end ≤ first + count = omega (arith, rises_first end ends last rises.1, high) in
      ap (λ piece. piece ∷ pieces_to (end - first) (map (λ e. e - first) ends) (take count (drop first items))) (part_piece first count start end items low rises.0 end_high)
      ∙ ap (λ pieces. between start end items ∷ pieces) (part_pieces first count end ends last items (omega (arith, low, rises.0)) rises.1 high)

pub rises_take : (n start : ℕ) (ends : List ℕ) (last : ℕ) → Rises start ends last → n ≤ length ends → Rises start (take n ends) (start_of start ends n)
rises_take zero start [] last h le = refl
rises_take zero start (end ∷ ends) last h le = refl
rises_take (suc n) start [] last h le = absurd (omega (arith, le))
rises_take (suc n) start (end ∷ ends) last h le =
    (h.0, subst (λ (m : ℕ). Rises end (take n ends) m) (start_next end ends n) (rises_take n end ends last h.1 (omega (arith, le))))

rises_drop : (n start : ℕ) (ends : List ℕ) (last : ℕ) → Rises start ends last → n ≤ length ends → Rises (start_of start ends n) (drop n ends) last
rises_drop zero start [] last h le = h
rises_drop zero start (end ∷ ends) last h le = h
rises_drop (suc n) start [] last h le = absurd (omega (arith, le))
rises_drop (suc n) start (end ∷ ends) last h le =
    subst (λ (m : ℕ). Rises m (drop n ends) last) (start_next end ends n) (rises_drop n end ends last h.1 (omega (arith, le)))

rises_back : (first start : ℕ) (ends : List ℕ) (last : ℕ) → first ≤ start → Rises start ends last → Rises (start - first) (map (λ end. end - first) ends) (last - first)
rises_back first start [] last low h = ap (λ n. n - first) h
rises_back first start (end ∷ ends) last low h = (omega (arith, low, h.0), rises_back first end ends last (omega (arith, low, h.0)) h.1)

-- where a part of the rows begins and ends among the items
module _ (ends : List ℕ) (last from to : ℕ) (rises : Rises 0 ends last) (rising : from ≤ to) (inside : to ≤ length ends) where
  abbrev part : List ℕ
  part = take (to - from) (drop from ends)

  start_moved : (from n start : ℕ) (ends : List ℕ) → from + n ≤ length ends → start_of (start_of start ends from) (drop from ends) n ≡ start_of start ends (from + n)
  start_moved zero n start [] le = let e : n ≡ 0 = omega (arith, le) in rw e refl
  start_moved zero n start (end ∷ ends) le = ap (start_of start (end ∷ ends)) (sym (zero_plus n))
    where
      zero_plus : (n : ℕ) → 0 + n ≡ n
      zero_plus n = omega arith
  start_moved (suc k) n start [] le = absurd (omega (arith, le))
  start_moved (suc k) n start (end ∷ ends) le =
      let e : suc k + n ≡ suc (k + n) = omega arith in
      ap (λ s. start_of s (drop k ends) n) (sym (start_next end ends k)) ∙ start_moved k n end ends (omega (arith, le)) ∙ start_next end ends (k + n)
      ∙ sym (ap (start_of start (end ∷ ends)) e)

  pub part_rises : Rises (start_of 0 ends from) part (start_of 0 ends to)
  part_rises =
      let here = rises_drop from 0 ends last rises (omega (arith, rising, inside)) in
      let some : to - from ≤ length (drop from ends) = omega (arith, rising, inside, length-drop from ends) in
      let back : from + (to - from) ≡ to = omega (arith, rising) in
      subst (λ (m : ℕ). Rises (start_of 0 ends from) part m) (start_moved from (to - from) 0 ends (omega (arith, rising, inside)) ∙ ap (start_of 0 ends) back)
      (rises_take (to - from) (start_of 0 ends from) (drop from ends) last here some)

  pub part_low : start_of 0 ends from ≤ start_of 0 ends to
  part_low = rises_first (start_of 0 ends from) part (start_of 0 ends to) part_rises

  pub part_high : start_of 0 ends to ≤ last
  part_high = rises_first (start_of 0 ends to) (drop to ends) last (rises_drop to 0 ends last rises inside)

  pub part_back : Rises 0 (map (λ end. end - start_of 0 ends from) part) (start_of 0 ends to - start_of 0 ends from)
  part_back =
      let first = start_of 0 ends from in
      let none : first - first ≡ 0 = omega arith in
      subst (λ (s : ℕ). Rises s (map (λ end. end - first) part) (start_of 0 ends to - first)) none (rises_back first first part (start_of 0 ends to) (omega arith) part_rises)

  pub part_is : {A : Type 0} (items : List A) →
      pieces_to 0 (map (λ end. end - start_of 0 ends from) part) (between (start_of 0 ends from) (start_of 0 ends to) items) ≡ between from to (pieces_to 0 ends items)
  part_is items =
      let first = start_of 0 ends from in
      let count = start_of 0 ends to - first in
      let none : 0 ≡ first - first = omega arith in
      let back : start_of 0 ends to ≤ first + count = omega (arith, part_low) in
      ap (λ s. pieces_to s (map (λ end. end - first) part) (take count (drop first items))) none
      ∙ part_pieces first count first part (start_of 0 ends to) items (omega arith) part_rises back ∙ sym (pieces_take (to - from) first (drop from ends) items)
      ∙ ap (take (to - from)) (sym (pieces_drop from 0 ends items (omega (arith, rising, inside))))

-- ends that are moved further on stay small
ends_small : (by start : ℕ) (ends : List ℕ) (last limit : ℕ) → Rises start ends last → by + last < limit → AllByRecursion (λ end. by + end < limit) ends
ends_small by start [] last limit h lt = tt
ends_small by start (end ∷ ends) last limit h lt =
    (omega (arith, rises_first end ends last h.1, lt), ends_small by end ends last limit h.1 lt)

pub ends_few : (by : ℕ) (ends : List ℕ) (last limit : ℕ) → Rises 0 ends last → by + last < limit → All (λ end. by + end < limit) ends
ends_few by ends last limit h lt = All-from_recursion (λ end. by + end < limit) ends (ends_small by 0 ends last limit h lt)
