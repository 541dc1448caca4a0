-- The chunks of a frame that have rows: each makes a frame in one chunk.
use Rattle.std.proofs.Common.{◌≡◌, ℕ, zero, suc, ◌+◌, ◌-◌, ◌≤◌, ◌<◌, Bool, true, false, cond, List, [], ◌∷◌, length, map, nat_lt, min, max, sum, refl, sym, ◌∙◌, ap, arith, subst}
use Rattle.std.specs.Prelude.{All, pos}
use Rattle.std.specs.List.{filter}
use Rattle.std.specs.Str.{bytes_eq}
use Rattle.std.specs.Cmp.Lexicographic.{bytes_decides}
use Rattle.std.proofs.lemmas.Bool.Decides.{nat_tests}
use Rattle.std.proofs.lemmas.List.Elements.{All-cons, All-nil}
use Rattle.std.proofs.lemmas.List.Sums.{sum_by-cons}
use Rattle.gb_defs.specs.Column.{ColumnValue, Frame, all_have_length, frame_height}
use Rattle.gb_defs.specs.Slices.{or_one, places_in, shown_chunks}
use Rattle.gb_series.specs.Frame.{HasOneChunk, IsInOneChunk, are_aligned, are_all_chunked, frame_chunks, frames_at, frames_of}
use Rattle.gb_series.specs.Series.{part_at}
use Rattle.gb_series.proofs.FrameLemmas.{both_true, long_test, sliced_long}

-- ---- lengths, of which those that are 0 are left out

sum_more : (n : ℕ) (ns : List ℕ) → sum (n ∷ ns) ≡ n + sum ns
sum_more = sum_by-cons (λ n. n)

no_rows : (n : ℕ) → nat_lt 0 n ≡ false → n ≡ 0
no_rows zero e = refl
no_rows (suc n) e = let some : nat_lt 0 (suc n) ≡ true = grind (arith, nat_tests) in let never : true ≡ false = sym some ∙ e in cc

sum_if : (b : Bool) (n : ℕ) (ns kept : List ℕ) → nat_lt 0 n ≡ b → sum kept ≡ sum ns → sum (cond b (n ∷ kept) kept) ≡ n + sum ns
sum_if true n ns kept e same = sum_more n kept ∙ ap (λ k. n + k) same
sum_if false n ns kept e same = omega (arith, no_rows n e, same)

pub sum_filled : (ns : List ℕ) → sum (filter (nat_lt 0) ns) ≡ sum ns
sum_filled [] = refl
sum_filled (n ∷ ns) = sum_if (nat_lt 0 n) n ns (filter (nat_lt 0) ns) refl (sum_filled ns) ∙ sym (sum_more n ns)

left_out : (n : ℕ) (ns : List ℕ) → n ≡ 0 → cond (nat_lt 0 n) (n ∷ ns) ns ≡ ns
left_out n ns e = let no : nat_lt 0 n ≡ false = grind (arith, nat_tests) in ap (λ b. cond b (n ∷ ns) ns) no

left_in : (n len : ℕ) (ns : List ℕ) → n ≡ len → 0 < len → cond (nat_lt 0 n) (n ∷ ns) ns ≡ len ∷ ns
left_in n len ns e some = let yes : nat_lt 0 n ≡ true = grind (arith, nat_tests) in ap (λ b. cond b (n ∷ ns) ns) yes ∙ ap (λ k. k ∷ ns) e

-- ---- what a part shows of each chunk

-- chunks from the part's end on show nothing
shows_none : (start end at : ℕ) (ns : List ℕ) → end ≤ at → filter (nat_lt 0) (places_in start end at ns) ≡ []
shows_none start end at [] le = refl
shows_none start end at (n ∷ ns) le =
    left_out (min end (at + n) - max start at) (filter (nat_lt 0) (places_in start end (at + n) ns)) (omega arith) ∙ shows_none start end (at + n) ns (omega arith)

module _ (chunks : List ℕ) where
  -- a part that begins at a place, or behind it, shows nothing but chunks of the rest, which begin there
  abbrev AreRest : ℕ → List ℕ → Type 0
  AreRest at rest = (start end : ℕ) → at ≤ start → filter (nat_lt 0) (places_in start end 0 chunks) ≡ filter (nat_lt 0) (places_in start end at rest)

  rest_later : (at n : ℕ) (rest : List ℕ) → AreRest at (n ∷ rest) → AreRest (at + n) rest
  rest_later at n rest are start end le =
      are start end (omega arith) ∙ left_out (min end (at + n) - max start at) (filter (nat_lt 0) (places_in start end (at + n) rest)) (omega arith)

  shows_one : (at n : ℕ) (rest : List ℕ) → AreRest at (n ∷ rest) → 0 < n → filter (nat_lt 0) (places_in at (at + n) 0 chunks) ≡ n ∷ []
  shows_one at n rest are some =
      are at (at + n) (omega arith) ∙ left_in (min (at + n) (at + n) - max at at) n (filter (nat_lt 0) (places_in at (at + n) (at + n) rest)) (omega arith) some
      ∙ ap (λ ns. n ∷ ns) (shows_none at (at + n) (at + n) rest (omega arith))

  module _ (at n : ℕ) (rest : List ℕ) (are : AreRest at (n ∷ rest)) (some : 0 < n) (inside : at + n ≤ sum chunks) where
    shown_one : shown_chunks chunks (pos at) n ≡ n ∷ []
    shown_one =
        let from : min at (sum chunks) ≡ at = omega arith in
        let to : min (at + n) (sum chunks) ≡ at + n = omega arith in
        ap (λ k. or_one 0 (filter (nat_lt 0) (places_in k (min (at + n) (sum chunks)) 0 chunks))) from
        ∙ ap (λ k. or_one 0 (filter (nat_lt 0) (places_in at k 0 chunks))) to
        ∙ ap (or_one 0) (shows_one at n rest are some)

    part_whole : (c : ColumnValue) → c.chunks ≡ chunks → length c.slots ≡ sum chunks → HasOneChunk (part_at at n c)
    part_whole c chunked long =
        let rows : length (part_at at n c).slots ≡ n = omega (arith, sliced_long (pos at) n c, long) in
        ap (λ ns. shown_chunks ns (pos at) n) chunked ∙ shown_one ∙ ap (λ k. k ∷ []) (sym rows)

    parts_whole : (frame : Frame) → are_all_chunked chunks frame ≡ true → all_have_length (sum chunks) frame ≡ true → IsInOneChunk (map (part_at at n) frame)
    parts_whole [] chunked long = All-nil _
    parts_whole (c ∷ cs) chunked long =
        let alike = both_true (bytes_eq c.chunks chunks) (are_all_chunked chunks cs) chunked in
        let lengths = long_test (sum chunks) c cs long in
        All-cons HasOneChunk (part_at at n c) (map (part_at at n) cs) (part_whole c ((bytes_decides c.chunks chunks).0 alike.0) lengths.0) (parts_whole cs alike.1 lengths.1)

  -- ---- the frames of all chunks

  module _ (frame : Frame) (chunked : are_all_chunked chunks frame ≡ true) (long : all_have_length (sum chunks) frame ≡ true) where
    frames_if : (b : Bool) (at n : ℕ) (kept : List ℕ) → nat_lt 0 n ≡ b → (0 < n → IsInOneChunk (map (part_at at n) frame)) → All IsInOneChunk (frames_at frame (at + n) kept) → All IsInOneChunk (frames_at frame at (cond b (n ∷ kept) kept))
    frames_if true at n kept e here later = All-cons IsInOneChunk (map (part_at at n) frame) (frames_at frame (at + n) kept) (here (grind (arith, nat_tests))) later
    frames_if false at n kept e here later =
        let same : at + n ≡ at = omega (arith, no_rows n e) in
        subst (λ (k : ℕ). All IsInOneChunk (frames_at frame k kept)) same later

    frames_whole : (at : ℕ) (rest : List ℕ) → AreRest at rest → at + sum rest ≡ sum chunks → All IsInOneChunk (frames_at frame at (filter (nat_lt 0) rest))
    frames_whole at [] are all = All-nil _
    frames_whole at (n ∷ rest) are all =
        frames_if (nat_lt 0 n) at n (filter (nat_lt 0) rest) refl (λ some. parts_whole at n rest are some (omega (arith, all, sum_more n rest)) frame chunked long)
        (frames_whole (at + n) rest (rest_later at n rest are) (omega (arith, all, sum_more n rest)))

-- the chunks that have rows make frames in one chunk
pub all_whole : (frame : Frame) → are_aligned frame ≡ true → all_have_length (frame_height frame) frame ≡ true → sum (frame_chunks frame) ≡ frame_height frame → All IsInOneChunk (frames_of frame)
all_whole [] aligned long total = All-nil _
all_whole (c ∷ cs) aligned long total =
    let same : bytes_eq c.chunks c.chunks ≡ true = (bytes_decides c.chunks c.chunks).1 refl in
    let chunked : are_all_chunked c.chunks (c ∷ cs) ≡ true = ap (λ b. cond b (are_all_chunked c.chunks cs) false) same ∙ aligned in
    frames_whole c.chunks (c ∷ cs) chunked (ap (λ n. all_have_length n (c ∷ cs)) total ∙ long) 0 c.chunks (λ start end le. refl) (omega arith)
