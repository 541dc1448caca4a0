-- What rows come to that take the cells of several columns, one column after another.
use Rattle.std.proofs.Common.{◌≡◌, ◌≤◌, ◌<◌, ◌+◌, ◌-◌, ℕ, zero, suc, Bool, true, false, not, ◌&&◌, All, List, [], ◌∷◌, ◌++◌, length, map, take, drop, get_or, replicate, refl, ap, arith, ◌∙◌, sym, add-one, append_assoc, length-append, zero-add}
use Rattle.std.specs.List.{AllByRecursion, list_any, range_with_len}
use Rattle.std.proofs.Math.Bool.{and-true, and_assoc}
use Rattle.std.proofs.lemmas.Bool.{or_parts}
use Rattle.std.proofs.lemmas.List.{append-nil, drop_all, length-map, take-append-drop}
use Rattle.std.proofs.lemmas.List.Elements.{recursion_from_All}
use Rattle.std.proofs.lemmas.List.FromFn.{length-map-range_with_len, length-range_with_len}
use Rattle.std.proofs.lemmas.Simd.{splat_is_map}
use Rattle.std.proofs.Math.Seq.{drop-cons}
use Rattle.gb_defs.specs.Slices.{between}
use Rattle.gb_rows.specs.Cells.{behind, is_null_cell, longer, still_full}
use Rattle.gb_rows.specs.Rows.{full_of_cells, is_full, laid, row_of_cells, rows_of_cells}
use Rattle.gb_rows.specs.Zipped.{IsZipped, zip_onto}

-- rows that took items from the first on
pub zipped_all : {A S : Type 0} (f : A → S → S) (items : List A) (a : List S) (next : ℕ) (b : List S) (then : ℕ) → next ≡ 0 → IsZipped f items a next b then → b ≡ zip_onto f items a
zipped_all f items a next b then e z =
    sym (take-append-drop then b) ∙ z.zipped [] ∙ ap (λ n. take n a ++ zip_onto f (items ++ []) (drop n a)) e ∙ ap (λ l. zip_onto f l a) (append-nil items)

map_same : {X Y : Type 0} (f g : X → Y) → ((x : X) → f x ≡ g x) → (xs : List X) → map f xs ≡ map g xs
map_same f g same [] = refl
map_same f g same (x ∷ xs) = ap (λ y. y ∷ map f xs) (same x) ∙ ap (λ ys. g x ∷ ys) (map_same f g same xs)

module _ {S : Type 0} (f : List ℕ → S → S) where
  zip_empty : (items : List (List ℕ)) → zip_onto f items [] ≡ []
  zip_empty [] = refl
  zip_empty (x ∷ xs) = refl

  -- cells onto rows by their numbers
  zip_range : (cells : List (List ℕ)) (g : ℕ → S) (start n : ℕ) → start + n ≤ length cells
      → zip_onto f (drop start cells) (map g (range_with_len start n)) ≡ map (λ r. f (get_or cells r []) (g r)) (range_with_len start n)
  zip_range cells g start zero h = zip_empty (drop start cells)
  zip_range cells g start (suc n) h =
      let rest = map g (range_with_len (start + 1) n) in
      ap (λ l. zip_onto f l (g start ∷ rest)) (drop-cons cells start [] (omega (arith, h)))
      ∙ ap (λ k. f (get_or cells start []) (g start) ∷ zip_onto f (drop k cells) rest) (sym (add-one start))
      ∙ ap (λ rows. f (get_or cells start []) (g start) ∷ rows) (zip_range cells g (start + 1) n (omega (arith, h)))

  -- what a row comes to
  abbrev folded : List (List (List ℕ)) → ℕ → S → S
  folded [] r row = row
  folded (cells ∷ columns) r row = folded columns r (f (get_or cells r []) row)

  -- of items only so many count as there are rows
  zip_take : (n : ℕ) (items : List (List ℕ)) (rows : List S) → length rows ≤ n → zip_onto f (take n items) rows ≡ zip_onto f items rows
  zip_take n items [] h = zip_empty (take n items) ∙ sym (zip_empty items)
  zip_take zero items (row ∷ rows) h = absurd (omega (arith, h))
  zip_take (suc n) [] (row ∷ rows) h = refl
  zip_take (suc n) (x ∷ items) (row ∷ rows) h = ap (λ rs. f x row ∷ rs) (zip_take n items rows (omega (arith, h)))

  laid_range : (columns : List (List (List ℕ))) (start end : ℕ) → start ≤ end → AllByRecursion (λ cells. end ≤ length cells) columns → (g : ℕ → S)
      → laid f (map (between start end) columns) (map g (range_with_len start (end - start))) ≡ map (λ r. folded columns r (g r)) (range_with_len start (end - start))
  laid_range [] start end le h g = refl
  laid_range (cells ∷ columns) start end le h g =
      let rows = map g (range_with_len start (end - start)) in
      ap (laid f (map (between start end) columns)) (
      zip_take (end - start) (drop start cells) rows (omega (arith, length-map-range_with_len g start (end - start)))
      ∙ zip_range cells g start (end - start) (omega (arith, h.0, le)))
      ∙ laid_range columns start end le h.1 (λ r. f (get_or cells r []) (g r))

  -- rows that begin alike
  laid_from : (columns : List (List (List ℕ))) (start end : ℕ) (row : S) (rows : List S) → start ≤ end → All (λ cells. end ≤ length cells) columns → rows ≡ replicate (end - start) row
      → laid f (map (between start end) columns) rows ≡ map (λ r. folded columns r row) (range_with_len start (end - start))
  laid_from columns start end row rows le h e =
      ap (laid f (map (between start end) columns)) (e ∙ splat_is_map (range_with_len start (end - start)) (end - start) row (length-range_with_len start (end - start)))
      ∙ laid_range columns start end le (recursion_from_All (λ cells. end ≤ length cells) columns h) (λ r. row)

folded_longer : (columns : List (List (List ℕ))) (r count : ℕ) → folded longer columns r count ≡ count + length (row_of_cells columns r)
folded_longer [] r count = omega arith
folded_longer (cells ∷ columns) r count =
    let cell = get_or cells r [] in
    folded_longer columns r (count + length cell) ∙ omega (arith, length-append cell (row_of_cells columns r))

folded_behind : (columns : List (List (List ℕ))) (r : ℕ) (row : List ℕ) → folded behind columns r row ≡ row ++ row_of_cells columns r
folded_behind [] r row = sym (append-nil row)
folded_behind (cells ∷ columns) r row =
    let cell = get_or cells r [] in
    folded_behind columns r (row ++ cell) ∙ append_assoc row cell (row_of_cells columns r)

-- the lengths of the rows
pub laid_lengths : (columns : List (List (List ℕ))) (start end : ℕ) (rows : List ℕ) → start ≤ end → All (λ cells. end ≤ length cells) columns → rows ≡ replicate (end - start) 0
    → laid longer (map (between start end) columns) rows ≡ map length (rows_of_cells start end columns)
laid_lengths columns start end rows le h e =
    let range = range_with_len start (end - start) in
    laid_from longer columns start end 0 rows le h e
    ∙ map_same (λ r. folded longer columns r 0) (λ r. length (row_of_cells columns r)) (λ r. folded_longer columns r 0 ∙ zero-add (length (row_of_cells columns r))) range
    ∙ map_twice (row_of_cells columns) range
  where
    map_twice : (f : ℕ → List ℕ) (xs : List ℕ) → map (λ r. length (f r)) xs ≡ map length (map f xs)
    map_twice f [] = refl
    map_twice f (x ∷ xs) = ap (λ ns. length (f x) ∷ ns) (map_twice f xs)

-- the rows
pub laid_rows : (columns : List (List (List ℕ))) (start end : ℕ) (rows : List (List ℕ)) → start ≤ end → All (λ cells. end ≤ length cells) columns → rows ≡ replicate (end - start) []
    → laid behind (map (between start end) columns) rows ≡ rows_of_cells start end columns
laid_rows columns start end rows le h e =
    laid_from behind columns start end [] rows le h e
    ∙ map_same (λ r. folded behind columns r []) (row_of_cells columns) (λ r. folded_behind columns r []) (range_with_len start (end - start))

folded_full : (columns : List (List (List ℕ))) (r : ℕ) (full : Bool) → folded still_full columns r full ≡ (full && is_full columns r)
folded_full [] r full = sym (and-true full)
folded_full (cells ∷ columns) r full =
    let value = not (is_null_cell (get_or cells r [])) in
    folded_full columns r (full && value) ∙ and_assoc full value (is_full columns r)

-- which rows have a value in every column
pub laid_full : (columns : List (List (List ℕ))) (start end : ℕ) (rows : List Bool) → start ≤ end → All (λ cells. end ≤ length cells) columns → rows ≡ replicate (end - start) true
    → laid still_full (map (between start end) columns) rows ≡ full_of_cells start end columns
laid_full columns start end rows le h e =
    laid_from still_full columns start end true rows le h e
    ∙ map_same (λ r. folded still_full columns r true) (is_full columns) (λ r. folded_full columns r true) (range_with_len start (end - start))

-- ---- cells of which none is a null's

any_rest : (n : ℕ) (cells : List (List ℕ)) → list_any is_null_cell cells ≡ false → list_any is_null_cell (drop n cells) ≡ false
any_rest zero cells e = e
any_rest (suc n) [] e = refl
any_rest (suc n) (cell ∷ cells) e = any_rest n cells (or_parts (is_null_cell cell) (list_any is_null_cell cells) e).1

any_first : (n : ℕ) (cells : List (List ℕ)) → list_any is_null_cell cells ≡ false → list_any is_null_cell (take n cells) ≡ false
any_first zero cells e = refl
any_first (suc n) [] e = refl
any_first (suc n) (cell ∷ cells) e =
    let both = or_parts (is_null_cell cell) (list_any is_null_cell cells) e in
    rw both.0 (any_first n cells both.1)

zip_full : (cells : List (List ℕ)) (rows : List Bool) → list_any is_null_cell cells ≡ false → zip_onto still_full cells rows ≡ rows
zip_full [] rows e = refl
zip_full (cell ∷ cells) [] e = refl
zip_full (cell ∷ cells) (full ∷ rows) e =
    let both = or_parts (is_null_cell cell) (list_any is_null_cell cells) e in
    ap (λ null. (full && not null) ∷ zip_onto still_full cells rows) both.0 ∙ ap (λ f. f ∷ zip_onto still_full cells rows) (and-true full) ∙ ap (λ rs. full ∷ rs) (zip_full cells rows both.1)

-- they change nothing
pub none_null : (start end : ℕ) (cells : List (List ℕ)) (rows : List Bool) → list_any is_null_cell cells ≡ false → rows ≡ zip_onto still_full (between start end cells) rows
none_null start end cells rows e = sym (zip_full (between start end cells) rows (any_first (end - start) (drop start cells) (any_rest start cells e)))

-- rows of no bytes
pub no_bytes : (counts : List ℕ) → map {B = List ℕ} (λ _. []) counts ≡ replicate (length counts) []
no_bytes [] = refl
no_bytes (count ∷ counts) = ap (λ rows. [] ∷ rows) (no_bytes counts)

-- ---- a loop over columns

module _ {X S : Type 0} (f : List ℕ → S → S) (cells : X → List (List ℕ)) (start end : ℕ) (columns : List X) (i : ℕ) where
  abbrev cut : List X → List (List (List ℕ))
  cut xs = map (between start end) (map cells xs)

  -- one column more
  pub laid_more : (x : X) (rows new : List S) → i < length columns → x ≡ get_or columns i x → new ≡ zip_onto f (between start end (cells x)) rows
      → laid f (map (between start end) (map cells (drop (i + 1) columns))) new ≡ laid f (map (between start end) (map cells (drop i columns))) rows
  laid_more x rows new lt item e =
      ap (λ n. laid f (cut (drop n columns)) new) (add-one i)
      ∙ ap (laid f (cut (drop (suc i) columns))) (e ∙ ap (λ y. zip_onto f (between start end (cells y)) rows) item)
      ∙ ap (λ l. laid f (cut l) rows) (sym (drop-cons columns i x lt))

  -- all columns
  pub laid_done : (rows all : List S) → length columns ≤ i → laid f (map (between start end) (map cells (drop i columns))) rows ≡ all → rows ≡ all
  laid_done rows all done e = ap (λ l. laid f (cut l) rows) (sym (drop_all i columns done)) ∙ e

-- as many lengths as rows
pub count_of_lengths : (columns : List (List (List ℕ))) (start end : ℕ) (lengths : List ℕ) → lengths ≡ map length (rows_of_cells start end columns) → length lengths ≡ end - start
count_of_lengths columns start end lengths e =
    ap length e ∙ length-map (rows_of_cells start end columns) length ∙ length-map-range_with_len (row_of_cells columns) start (end - start)
