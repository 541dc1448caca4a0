-- The hashes of rows that follow each other, and lists of rows that have them.
use Rattle.std.proofs.Common.{◌≡◌, ℕ, ◌+◌, ◌-◌, ◌*◌, ◌/◌, ◌%◌, ◌<◌, ◌≤◌, List, [], ◌∷◌, ◌++◌, Vec, length, get_or, map, min, drop, refl, ◌∙◌, ap, sym, arith}
use Rattle.std.specs.List.{range_with_len}
use Rattle.std.proofs.Math.Nat.{div-lt_iff_lt-mul, mod-lt}
use Rattle.std.proofs.lemmas.Nat.{div-add-mod'}
use Rattle.std.proofs.lemmas.List.{get_or-drop, get_or-map, get_or-take, get_or_default, length-drop, length-map, length-take-le, map-append}
use Rattle.std.proofs.lemmas.List.FromFn.{get_or-map-range_with_len, length-map-range_with_len, length-range_with_len, map-range_with_len_more}
use Rattle.gb_defs.specs.Classes.{rows_below}
use Rattle.gb_defs.specs.Rows.{Rows, AreHashes}
use Rattle.gb_paths.specs.Hashes.{AreChunks, chunk_at, chunks_from, hash_in, hashes_below, hashes_in, items_of}
use Rattle.gb_paths.specs.Partitions.{share_of}
use Rattle.gb_groups.proofs.NumberLemmas.{map_range_same}

pub hashes_long : (hash : ℕ → ℕ) (start n : ℕ) (hashes : List ℕ) → hashes ≡ map hash (range_with_len start n) → length hashes ≡ n
hashes_long hash start n hashes e = ap length e ∙ length-map (range_with_len start n) hash ∙ length-range_with_len start n

pub hashed_from : (rows : Rows) (start n : ℕ) (hashes : List ℕ) → start + n ≤ rows.count → hashes ≡ map rows.hash (range_with_len start n) → AreHashes rows start hashes
hashed_from rows start n hashes within e =
    let long : length hashes ≡ n = hashes_long rows.hash start n hashes e in
    record { within = omega (arith, long, within); are = e ∙ ap (λ m. map rows.hash (range_with_len start m)) (sym long) }

-- the hashes of all rows
pub all_hashed : (rows : Rows) (hashes : List ℕ) → AreHashes rows 0 hashes → length hashes ≡ rows.count → hashes ≡ map rows.hash (rows_below rows.count)
all_hashed rows hashes h long = h.are ∙ ap (λ n. map rows.hash (rows_below n)) long

pub below_long : (rows : Rows) → length (hashes_below rows) ≡ rows.count
below_long rows = hashes_long rows.hash 0 rows.count (hashes_below rows) refl

pub below_hashed : (rows : Rows) → AreHashes rows 0 (hashes_below rows)
below_hashed rows = hashed_from rows 0 rows.count (hashes_below rows) (omega arith) refl

-- what is read at a row's place is its hash
pub hash_of_row : (rows : Rows) (hashes : List ℕ) (row hash : ℕ) → AreHashes rows 0 hashes → row < length hashes → hash ≡ get_or hashes row 0 → hash ≡ rows.hash row
hash_of_row rows hashes row hash h lt read =
    read ∙ ap (λ hs. get_or hs row 0) h.are ∙ get_or-map-range_with_len rows.hash 0 (length hashes) row row 0 lt (omega arith)

-- the hash of a row that is asked for
pub asked_hash : (rows : Rows) (row hash : ℕ) → row < length (hashes_below rows) → hash ≡ rows.hash row → hash ≡ get_or (hashes_below rows) row 0
asked_hash rows row hash lt is = is ∙ sym (hash_of_row rows (hashes_below rows) row _ (below_hashed rows) lt refl)

-- ---- a share of the rows

pub share_long : (hashes : List ℕ) (share : ℕ × ℕ) → share.0 + share.1 ≤ length hashes → length (share_of hashes share) ≡ share.1
share_long hashes share inside = length-take-le share.1 (drop share.0 hashes) (omega (arith, inside, length-drop share.0 hashes))

pub share_read : (hashes : List ℕ) (share : ℕ × ℕ) (place : ℕ) → place < share.1 → get_or (share_of hashes share) place 0 ≡ get_or hashes (share.0 + place) 0
share_read hashes share place lt = get_or-take share.1 (drop share.0 hashes) place 0 lt ∙ get_or-drop share.0 hashes place 0

-- ---- chunks

-- the hashes of one chunk more
pub chunk_more : {A : Type 0} (rows : Rows) (first place long : ℕ) (chunks after : List (Vec ℕ A)) (chunk : Vec ℕ A) → after ≡ chunks ++ chunk ∷ [] →
    items_of chunks ≡ chunks_from rows (first, place) → long ≡ min 8192 (rows.count - (first + place) * 8192) → chunk.items ≡ map rows.hash (range_with_len ((first + place) * 8192) long) →
    items_of after ≡ chunks_from rows (first, place + 1)
chunk_more rows first place long chunks after chunk longer so_far is here =
    ap items_of longer ∙ map-append (λ chunk. chunk.items) chunks (chunk ∷ []) ∙ ap (λ cs. cs ++ chunk.items ∷ []) so_far
    ∙ ap (λ c. chunks_from rows (first, place) ++ c ∷ []) (here ∙ ap (λ m. map rows.hash (range_with_len ((first + place) * 8192) m)) is)
    ∙ sym (map-range_with_len_more (chunk_at rows) first place (first + place) refl)

module _ {A : Type 0} (rows : Rows) (count n : ℕ) (counted : count ≡ rows.count) (all : count ≤ n * 8192) (chunks : List (Vec ℕ A)) (are : items_of chunks ≡ chunks_from rows (0, n)) where
  chunk_below : (row : ℕ) → row < count → row / 8192 < n
  chunk_below row lt =
      let below : row < n * 8192 = omega (arith, lt, all) in
      (div-lt_iff_lt-mul (omega arith)).1 below

  chunk_is : (row : ℕ) → row < count → get_or (items_of chunks) (row / 8192) [] ≡ chunk_at rows (row / 8192)
  chunk_is row lt = ap (λ cs. get_or cs (row / 8192) []) are ∙ get_or-map-range_with_len (chunk_at rows) 0 n (row / 8192) (row / 8192) [] (chunk_below row lt) (omega arith)

  chunk_long : (row : ℕ) → length (chunk_at rows (row / 8192)) ≡ min 8192 (rows.count - row / 8192 * 8192)
  chunk_long row = length-map-range_with_len rows.hash (row / 8192 * 8192) (min 8192 (rows.count - row / 8192 * 8192))

  place_below : (row : ℕ) → row < count → row % 8192 < min 8192 (rows.count - row / 8192 * 8192)
  place_below row lt =
      let low : row % 8192 < 8192 = mod-lt row (omega arith) in
      omega (arith, lt, low, counted, div-add-mod' row 8192)

  hash_is : (row : ℕ) → row < count → hash_in chunks row ≡ rows.hash row
  hash_is row lt =
      ap (λ c. get_or c (row % 8192) 0) (chunk_is row lt)
      ∙ get_or-map-range_with_len rows.hash (row / 8192 * 8192) (min 8192 (rows.count - row / 8192 * 8192)) (row % 8192) row 0 (place_below row lt) (div-add-mod' row 8192)

  pub chunks_are : AreChunks chunks count
  chunks_are =
      let long : length chunks ≡ n = sym (length-map chunks (λ chunk. chunk.items)) ∙ ap length are ∙ length-map-range_with_len (chunk_at rows) 0 n in
      record {
        chunk = λ row lt. let below = chunk_below row lt in omega (arith, long, below);
        place = λ row lt. rw (chunk_is row lt, chunk_long row) (place_below row lt);
      }

  pub chunks_hashed : AreHashes rows 0 (hashes_in chunks count)
  chunks_hashed = hashed_from rows 0 count (hashes_in chunks count) (omega (arith, counted)) (map_range_same (hash_in chunks) rows.hash count 0 hash_is)

-- ---- what is read of chunks

module _ {A : Type 0} (chunks : List (Vec ℕ A)) (count : ℕ) (ok : AreChunks chunks count) (hashes : List ℕ) (view : hashes_in chunks count ≡ hashes) where
  pub chunks_long : count ≡ length hashes
  chunks_long = sym (length-map-range_with_len (hash_in chunks) 0 count) ∙ ap length view

  module _ (row : ℕ) (lt : row < length hashes) where
    row_inside : row < count
    row_inside = omega (arith, lt, chunks_long)

    pub chunk_inside : row / 8192 < length chunks
    chunk_inside = ok.chunk row row_inside

    module _ (chunk : Vec ℕ A) (is : chunk ≡ get_or chunks (row / 8192) chunk) where
      chunk_items : get_or (items_of chunks) (row / 8192) [] ≡ chunk.items
      chunk_items = get_or-map (λ (c : Vec ℕ A). c.items) chunks (row / 8192) chunk [] chunk_inside ∙ ap (λ (c : Vec ℕ A). c.items) (sym is)

      pub place_inside : row % 8192 < length chunk.items
      place_inside = rw chunk_items at (ok.place row row_inside)

      pub hash_read : (hash : ℕ) → hash ≡ get_or chunk.items (row % 8192) hash → hash ≡ get_or hashes row 0
      hash_read hash found =
          found ∙ sym (get_or_default chunk.items (row % 8192) 0 hash place_inside) ∙ ap (λ items. get_or items (row % 8192) 0) (sym chunk_items)
          ∙ sym (get_or-map-range_with_len (hash_in chunks) 0 count row row 0 row_inside (omega arith)) ∙ ap (λ hs. get_or hs row 0) view
