-- Rows in one buffer: where they stand, and one that is longer.
use Rattle.std.proofs.Common.{◌≡◌, ℕ, zero, suc, ◌+◌, ◌-◌, ◌<◌, ◌≤◌, List, [], ◌∷◌, ◌++◌, length, take, drop, set, get_or, map, refl, ap, arith, ◌∙◌, sym, length-append, length-take, length-drop, append_assoc, subst, zero-add}
use Rattle.std.proofs.lemmas.List.{append-nil, drop_all, get_or_read, take-append-le, take-take, drop-append-le, drop-drop, drop-take}
use Rattle.std.proofs.lemmas.Slice.{drop-append-drop}
use Rattle.std.proofs.Math.Seq.{take-append-add, take-append_seam}
use Rattle.gb_rows.specs.Buffer.{AreLaid, RowsWritten, empty_rows, end_behind, ends_from, rooms_from, rows_from, written}
use Rattle.gb_defs.specs.Flat.{starts_from}
use Rattle.gb_values.specs.Array.{Rises, pieces_from}

-- ---- bytes in the place of others

module _ (at : ℕ) (part bytes : List ℕ) (inside : at ≤ length bytes) where
  front_length : length (take at bytes) ≡ at
  front_length = simp length-take (omega (arith, inside))

  pub written_length : at + length part ≤ length bytes → length (written at part bytes) ≡ length bytes
  written_length h = omega (arith, h, front_length, length-append (take at bytes) (part ++ drop (at + length part) bytes), length-append part (drop (at + length part) bytes), length-drop (at + length part) bytes)

  written_front : (count : ℕ) → count ≡ at + length part → take count (written at part bytes) ≡ take at bytes ++ part
  written_front count e =
      let tail = drop (at + length part) bytes in
      ap (λ n. take n (written at part bytes)) (e ∙ ap (λ n. n + length part) (sym front_length))
      ∙ take-append-add (take at bytes) (part ++ tail) (length part)
      ∙ ap (λ t. take at bytes ++ t) (take-append_seam part tail)

  written_behind : (place : ℕ) → at + length part ≤ place → drop place (written at part bytes) ≡ drop place bytes
  written_behind place h =
      ap (drop place) (sym (append_assoc (take at bytes) part (drop (at + length part) bytes)))
      ∙ drop-append-drop (at + length part) bytes (take at bytes ++ part) place h (length-append (take at bytes) part ∙ ap (λ n. n + length part) front_length)

  written_before : (place : ℕ) → place ≤ at → take place (written at part bytes) ≡ take place bytes
  written_before place h =
      take-append-le place (take at bytes) (part ++ drop (at + length part) bytes) (omega (arith, h, front_length)) ∙ take-take place at bytes h

  written_drop : (place : ℕ) → place ≤ at → drop place (written at part bytes) ≡ written (at - place) part (drop place bytes)
  written_drop place h =
      drop-append-le place (take at bytes) (part ++ drop (at + length part) bytes) (omega (arith, h, front_length))
      ∙ ap (λ t. t ++ (part ++ drop (at + length part) bytes)) moved
      ∙ ap (λ t. take (at - place) (drop place bytes) ++ (part ++ t)) rest
    where
      moved : drop place (take at bytes) ≡ take (at - place) (drop place bytes)
      moved = ap (λ n. drop place (take n bytes)) (omega (arith, h)) ∙ drop-take place (at - place) bytes

      rest : drop (at + length part) bytes ≡ drop (at - place + length part) (drop place bytes)
      rest = ap (λ n. drop n bytes) (omega (arith, h)) ∙ sym (drop-drop (at - place + length part) place bytes)

-- a cursor and a row for each end
pub laid_counts : (start : ℕ) (ends cursors : List ℕ) (last : ℕ) → AreLaid start ends cursors last → length cursors ≡ length ends
laid_counts start [] [] last h = refl
laid_counts start [] (at ∷ cursors) last h = absurd h
laid_counts start (end ∷ ends) [] last h = absurd h
laid_counts start (end ∷ ends) (at ∷ cursors) last h = ap suc (laid_counts end ends cursors last h.1.1)

pub rows_count : (start : ℕ) (ends cursors bytes : List ℕ) → length cursors ≡ length ends → length (rows_from start ends cursors bytes) ≡ length ends
rows_count start [] cursors bytes e = refl
rows_count start (end ∷ ends) [] bytes e = cc
rows_count start (end ∷ ends) (at ∷ cursors) bytes e = ap suc (rows_count end ends cursors (drop (end - start) bytes) (omega (arith, e)))

-- the start stands before the end of all
pub laid_low : (start : ℕ) (ends cursors : List ℕ) (last : ℕ) → AreLaid start ends cursors last → start ≤ last
laid_low start [] [] last h = omega (arith, h)
laid_low start [] (at ∷ cursors) last h = absurd h
laid_low start (end ∷ ends) [] last h = absurd h
laid_low start (end ∷ ends) (at ∷ cursors) last h = omega (arith, h.0, h.1.0, laid_low end ends cursors last h.1.1)

-- where a row's cursor stands
pub record StandsIn (start : ℕ) (ends cursors : List ℕ) (last k : ℕ) : Type 0 where
  pub low : start ≤ get_or cursors k 0
  pub high : get_or cursors k 0 ≤ get_or ends k 0
  pub end : get_or ends k 0 ≤ last

pub laid_at : (start : ℕ) (ends cursors : List ℕ) (last k : ℕ) → AreLaid start ends cursors last → k < length ends → StandsIn start ends cursors last k
laid_at start [] cursors last k h lt = absurd (omega (arith, lt))
laid_at start (end ∷ ends) [] last k h lt = absurd h
laid_at start (end ∷ ends) (at ∷ cursors) last zero h lt = record { low = h.0; high = h.1.0; end = laid_low end ends cursors last h.1.1 }
laid_at start (end ∷ ends) (at ∷ cursors) last (suc k) h lt =
    let t = laid_at end ends cursors last k h.1.1 (omega (arith, lt)) in
    record { low = omega (arith, t.low, h.0, h.1.0); high = t.high; end = t.end }

-- a cursor moves on in its room
pub laid_set : (start : ℕ) (ends cursors : List ℕ) (last k new : ℕ) → AreLaid start ends cursors last → k < length ends
    → get_or cursors k 0 ≤ new → new ≤ get_or ends k 0 → AreLaid start ends (set cursors k new) last
laid_set start [] cursors last k new h lt low high = absurd (omega (arith, lt))
laid_set start (end ∷ ends) [] last k new h lt low high = absurd h
laid_set start (end ∷ ends) (at ∷ cursors) last zero new h lt low high = (omega (arith, h.0, low), (high, h.1.1))
laid_set start (end ∷ ends) (at ∷ cursors) last (suc k) new h lt low high = (h.0, (h.1.0, laid_set end ends cursors last k new h.1.1 (omega (arith, lt)) low high))

-- a row is longer by a part, which is written behind what is written of it
pub rows_set : (start : ℕ) (ends cursors : List ℕ) (last k : ℕ) (bytes part : List ℕ) → AreLaid start ends cursors last → last ≡ start + length bytes → k < length ends
    → get_or cursors k 0 + length part ≤ get_or ends k 0
    → rows_from start ends (set cursors k (get_or cursors k 0 + length part)) (written (get_or cursors k 0 - start) part bytes)
    ≡ set (rows_from start ends cursors bytes) k (get_or (rows_from start ends cursors bytes) k [] ++ part)
rows_set start [] cursors last k bytes part h e lt fits = absurd (omega (arith, lt))
rows_set start (end ∷ ends) [] last k bytes part h e lt fits = absurd h
rows_set start (end ∷ ends) (at ∷ cursors) last zero bytes part h e lt fits =
    let low = laid_low end ends cursors last h.1.1 in
    let inside : at - start ≤ length bytes = omega (arith, h.0, h.1.0, low, e) in
    let front = written_front (at - start) part bytes inside (at + length part - start) (omega (arith, h.0)) in
    let behind = written_behind (at - start) part bytes inside (end - start) (omega (arith, h.0, fits)) in
    ap (λ r. r ∷ rows_from end ends cursors (drop (end - start) (written (at - start) part bytes))) front
    ∙ ap (λ b. (take (at - start) bytes ++ part) ∷ rows_from end ends cursors b) behind
rows_set start (end ∷ ends) (at ∷ cursors) last (suc k) bytes part h e lt fits =
    let low = laid_low end ends cursors last h.1.1 in
    let stands = laid_at end ends cursors last k h.1.1 (omega (arith, lt)) in
    let here = get_or cursors k 0 in
    let inside : here - start ≤ length bytes = omega (arith, e, stands.high, stands.end) in
    let before = written_before (here - start) part bytes inside (at - start) (omega (arith, h.1.0, stands.low)) in
    let rest = written_drop (here - start) part bytes inside (end - start) (omega (arith, stands.low)) in
    let moved : here - start - (end - start) ≡ here - end = omega (arith, h.0, h.1.0, stands.low) in
    let later = rows_set end ends cursors last k (drop (end - start) bytes) part h.1.1 (omega (arith, e, low, h.0, h.1.0, length-drop (end - start) bytes)) (omega (arith, lt)) fits in
    ap (λ r. r ∷ rows_from end ends (set cursors k (here + length part)) (drop (end - start) (written (here - start) part bytes))) before
    ∙ ap (λ b. take (at - start) bytes ∷ rows_from end ends (set cursors k (here + length part)) b) (rest ∙ ap (λ n. written n part (drop (end - start) bytes)) moved)
    ∙ ap (λ rs. take (at - start) bytes ∷ rs) later

-- ---- the next row

module _ (ends cursors bytes : List ℕ) (k : ℕ) (laid : AreLaid 0 ends cursors (length bytes)) (next : k < length (rows_from 0 ends cursors bytes)) where
  pub next_cursor : k < length cursors
  next_cursor =
      let counts = laid_counts 0 ends cursors (length bytes) laid in
      omega (arith, next, counts, rows_count 0 ends cursors bytes counts)

  pub next_end : k < length ends
  next_end = omega (arith, next_cursor, laid_counts 0 ends cursors (length bytes) laid)

  module _ (at end : ℕ) (cursor : at ≡ get_or cursors k at) (ends_at : end ≡ get_or ends k end) where
    here : at ≡ get_or cursors k 0
    here = get_or_read cursors k at next_cursor cursor 0

    last : end ≡ get_or ends k 0
    last = get_or_read ends k end next_end ends_at 0

    pub next_high : at ≤ end
    next_high = omega (arith, here, last, (laid_at 0 ends cursors (length bytes) k laid next_end).high)

    pub next_inside : end ≤ length bytes
    next_inside = omega (arith, last, (laid_at 0 ends cursors (length bytes) k laid next_end).end)

    module _ (part : List ℕ) (fits : length part ≤ end - at) where
      pub next_laid : AreLaid 0 ends (set cursors k (at + length part)) (length (written at part bytes))
      next_laid =
          subst (λ n. AreLaid 0 ends (set cursors k (at + length part)) n) (sym (written_length at part bytes (omega (arith, next_high, next_inside)) (omega (arith, fits, next_high, next_inside))))
          (laid_set 0 ends cursors (length bytes) k (at + length part) laid next_end (omega (arith, here)) (omega (arith, fits, last, next_high)))

      pub next_rows : rows_from 0 ends (set cursors k (at + length part)) (written at part bytes) ≡ set (rows_from 0 ends cursors bytes) k (get_or (rows_from 0 ends cursors bytes) k [] ++ part)
      next_rows =
          let rows = rows_from 0 ends cursors bytes in
          let P : ℕ → ℕ → Type 0 = λ n m. rows_from 0 ends (set cursors k (n + length part)) (written m part bytes) ≡ set rows k (get_or rows k [] ++ part) in
          let first = get_or cursors k 0 in
          let whole = rows_set 0 ends cursors (length bytes) k bytes part laid (sym (zero-add (length bytes))) next_end (omega (arith, fits, here, last, next_high)) in
          let placed = subst (λ n. P first n) (omega arith) whole in
          subst (λ n. P n n) (sym here) placed

      -- a vector of so many bytes that these were written over
      pub next_kept : (count : ℕ) (lent new : List ℕ) → count ≡ length bytes → lent ≡ bytes → new ≡ written at part lent → take count (new ++ drop (length new) bytes) ≡ written at part bytes
      next_kept count lent new e same ws =
          let all : new ≡ written at part bytes = ws ∙ ap (written at part) same in
          let long : length new ≡ count = ap length all ∙ written_length at part bytes (omega (arith, next_high, next_inside)) (omega (arith, fits, next_high, next_inside)) ∙ sym e in
          ap (λ n. take n (new ++ drop (length new) bytes)) (sym long) ∙ take-append_seam new (drop (length new) bytes) ∙ all

-- ---- rows of no bytes

pub laid_empty : (start : ℕ) (counts : List ℕ) → AreLaid start (ends_from start counts) (starts_from start counts) (end_behind start counts)
laid_empty start [] = refl
laid_empty start (count ∷ counts) = (omega arith, (omega arith, laid_empty (start + count) counts))

pub rooms_empty : (start : ℕ) (counts : List ℕ) → rooms_from start (ends_from start counts) ≡ counts
rooms_empty start [] = refl
rooms_empty start (count ∷ counts) =
    ap (λ n. n ∷ rooms_from (start + count) (ends_from (start + count) counts)) (omega arith) ∙ ap (λ ns. count ∷ ns) (rooms_empty (start + count) counts)

pub rows_empty : (start : ℕ) (counts bytes : List ℕ) → rows_from start (ends_from start counts) (starts_from start counts) bytes ≡ map (λ _. []) counts
rows_empty start [] bytes = refl
rows_empty start (count ∷ counts) bytes =
    let later = rows_from (start + count) (ends_from (start + count) counts) (starts_from (start + count) counts) (drop (start + count - start) bytes) in
    let none : start - start ≡ 0 = omega arith in
    ap (λ n. take n bytes ∷ later) none ∙ ap (λ rows. [] ∷ rows) (rows_empty (start + count) counts (drop (start + count - start) bytes))

-- a loop over all lengths is done
module _ (counts ends cursors : List ℕ) (end index : ℕ) (done : length counts ≤ index) where
  none_left : drop index counts ≡ []
  none_left = search (drop_all, arith)

  pub all_ends : ends ++ ends_from end (drop index counts) ≡ ends_from 0 counts → ends ≡ ends_from 0 counts
  all_ends e = sym (append-nil ends) ∙ ap (λ l. ends ++ ends_from end l) (sym none_left) ∙ e

  pub all_cursors : cursors ++ starts_from end (drop index counts) ≡ starts_from 0 counts → cursors ≡ starts_from 0 counts
  all_cursors e = sym (append-nil cursors) ∙ ap (λ l. cursors ++ starts_from end l) (sym none_left) ∙ e

  pub all_last : end_behind end (drop index counts) ≡ end_behind 0 counts → end ≡ end_behind 0 counts
  all_last e = ap (end_behind end) (sym none_left) ∙ e

-- what is laid as rows of no bytes of these lengths are
module _ (counts ends cursors bytes : List ℕ) (ends_are : ends ≡ ends_from 0 counts) (cursors_are : cursors ≡ starts_from 0 counts) where
  pub empty_laid : length bytes ≡ end_behind 0 counts → AreLaid 0 ends cursors (length bytes)
  empty_laid e = rw (ends_are, cursors_are, e) (laid_empty 0 counts)

  pub empty_view : ◌≡◌ {A = RowsWritten} (record { rows = rows_from 0 ends cursors bytes; room = rooms_from 0 ends; next = 0 }) (empty_rows counts)
  empty_view =
      let rows : rows_from 0 ends cursors bytes ≡ map (λ _. []) counts = rw (ends_are, cursors_are) (rows_empty 0 counts bytes) in
      let room : rooms_from 0 ends ≡ counts = rw ends_are (rooms_empty 0 counts) in
      ap (λ r. record { rows = r; room = rooms_from 0 ends; next = 0 }) rows ∙ ap (λ r. record { rows = map (λ _. []) counts; room = r; next = 0 }) room

-- ---- rows that fill their rooms

pub laid_rises : (start : ℕ) (ends cursors : List ℕ) (last : ℕ) → AreLaid start ends cursors last → Rises start ends last
laid_rises start [] [] last h = h
laid_rises start [] (at ∷ cursors) last h = absurd h
laid_rises start (end ∷ ends) [] last h = absurd h
laid_rises start (end ∷ ends) (at ∷ cursors) last h = (omega (arith, h.0, h.1.0), laid_rises end ends cursors last h.1.1)

-- the rows are the pieces of the bytes, which are those from the start on
pub full_rows : (start : ℕ) (ends cursors : List ℕ) (last : ℕ) (bytes whole : List ℕ) → AreLaid start ends cursors last → last ≡ start + length bytes → bytes ≡ drop start whole
    → map length (rows_from start ends cursors bytes) ≡ rooms_from start ends → rows_from start ends cursors bytes ≡ pieces_from start ends whole
full_rows start [] [] last bytes whole h e from full = refl
full_rows start [] (at ∷ cursors) last bytes whole h e from full = absurd h
full_rows start (end ∷ ends) [] last bytes whole h e from full = absurd h
full_rows start (end ∷ ends) (at ∷ cursors) last bytes whole h e from full =
    let low = laid_low end ends cursors last h.1.1 in
    let first : length (take (at - start) bytes) ≡ end - start = cc in
    let later : map length (rows_from end ends cursors (drop (end - start) bytes)) ≡ rooms_from end ends = cc in
    let same : at - start ≡ end - start = omega (arith, first, h.0, h.1.0, length-take (at - start) bytes) in
    let place : start + (end - start) ≡ end = omega (arith, h.0, h.1.0) in
    let behind : drop (end - start) bytes ≡ drop end whole = ap (drop (end - start)) from ∙ drop-drop (end - start) start whole ∙ ap (λ n. drop n whole) place in
    ap (λ n. take n bytes ∷ rows_from end ends cursors (drop (end - start) bytes)) same
    ∙ ap (λ bs. take (end - start) bs ∷ rows_from end ends cursors (drop (end - start) bytes)) from
    ∙ ap (λ rows. take (end - start) (drop start whole) ∷ rows)
    (full_rows end ends cursors last (drop (end - start) bytes) whole h.1.1 (omega (arith, e, low, h.0, h.1.0, length-drop (end - start) bytes)) behind later)
