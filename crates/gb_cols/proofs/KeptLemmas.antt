-- The first chunks of a column kept.
use Rattle.std.proofs.Common.{◌≡◌, ℕ, zero, suc, ◌<◌, ◌≤◌, List, [], ◌∷◌, ◌++◌, map, length, take, drop, refl, sym, ◌∙◌, ap, arith, false, length-append, length-take}
use Rattle.std.specs.List.{flat_map, sum, take-map}
use Rattle.std.proofs.Math.Seq.{take-append_seam}
use Rattle.std.proofs.lemmas.List.{length-map, take-append-drop, take-append-le, take-replicate}
use Rattle.std.proofs.lemmas.List.Concat.{length-flat_map}
use Rattle.std.proofs.lemmas.List.Sums.{sum-map, sum_by-take-le}
use Rattle.std.proofs.lemmas.Grind.{flat_map-append}
use Rattle.gb_defs.specs.Slices.{or_one}
use Rattle.gb_defs.specs.Slot.{Slot, Nil}
use Rattle.gb_defs.specs.ColumnType as column
use Rattle.gb_defs.specs.ColumnType.{ColumnType}
use Rattle.gb_defs.specs.Column.{SortedFlag, NotSorted}
use Rattle.gb_cols.specs.Column.{IsSmallColumn, column_of, first_chunks}
use Rattle.gb_cols.specs.Null.{null_column}

-- with one chunk kept at least there is a last one
pub some_kept : {A : Type 0} (x : A) (xs : List A) (count : ℕ) → 0 < count → count ≤ length xs → or_one x (take count xs) ≡ take count xs
some_kept x [] zero some within = absurd (omega (arith, some))
some_kept x [] (suc n) some within = absurd (omega (arith, within))
some_kept x (y ∷ ys) zero some within = absurd (omega (arith, some))
some_kept x (y ∷ ys) (suc n) some within = refl

-- the first chunks, of which the last stands apart
pub front_kept : {A : Type 0} (x last : A) (xs : List A) (count : ℕ) → 0 < count → count ≤ length xs → or_one x (take count xs) ≡ take count (xs ++ last ∷ [])
front_kept x last xs count some within = some_kept x xs count some within ∙ sym (take-append-le count xs (last ∷ []) within)

abbrev pub slots_of : List (List Slot) → List Slot
slots_of chunks = flat_map (λ chunk. chunk) chunks

lengths_kept : (count : ℕ) (chunks : List (List Slot)) → sum (take count (map length chunks)) ≡ length (slots_of (take count chunks))
lengths_kept count chunks = ap sum (take-map length count chunks) ∙ sum-map length (take count chunks) ∙ sym (length-flat_map (λ chunk. chunk) (take count chunks))

slots_kept : (count : ℕ) (chunks : List (List Slot)) → take (sum (take count (map length chunks))) (slots_of chunks) ≡ slots_of (take count chunks)
slots_kept count chunks =
    let front = take count chunks in let back = drop count chunks in
    let parts : slots_of chunks ≡ slots_of front ++ slots_of back = ap slots_of (sym (take-append-drop count chunks)) ∙ flat_map-append (λ chunk. chunk) front back in
    ap (λ n. take n (slots_of chunks)) (lengths_kept count chunks) ∙ ap (take (length (slots_of front))) parts ∙ take-append_seam (slots_of front) (slots_of back)

pub column_kept : (t : ColumnType) (name : List ℕ) (flag : SortedFlag) (count : ℕ) (chunks made : List (List Slot)) → made ≡ take count chunks →
    column_of t name NotSorted made ≡ first_chunks count (column_of t name flag chunks)
column_kept t name flag count chunks made e =
    ap (column_of t name NotSorted) e
    ∙ ap (λ ss. record { name = name; dtype = t; slots = ss; chunks = map length (take count chunks); sorted = NotSorted; all_used = false }) (sym (slots_kept count chunks))
    ∙ ap (λ ns. record { name = name; dtype = t; slots = take (sum (take count (map length chunks))) (slots_of chunks); chunks = ns; sorted = NotSorted; all_used = false }) (sym (take-map length count chunks))

pub nulls_kept : (name : List ℕ) (count : ℕ) (chunks made : List ℕ) → made ≡ take count chunks → null_column name made ≡ first_chunks count (null_column name chunks)
nulls_kept name count chunks made e =
    ap (null_column name) e
    ∙ ap (λ ss. record { name = name; dtype = column.Flat column.Null; slots = ss; chunks = take count chunks; sorted = NotSorted; all_used = false })
    (sym (take-replicate (sum (take count chunks)) (sum chunks) Nil (sum_by-take-le (λ n. n) chunks count)))

-- what is kept is no more than what was there
pub sum_kept : (count : ℕ) (chunks : List ℕ) → sum (take count chunks) ≤ sum chunks
sum_kept count chunks = sum_by-take-le (λ n. n) chunks count

few_kept : (count : ℕ) (chunks : List (List Slot)) → length (slots_of (take count chunks)) ≤ length (slots_of chunks)
few_kept count chunks =
    let front = take count chunks in let back = drop count chunks in
    let parts : slots_of chunks ≡ slots_of front ++ slots_of back = ap slots_of (sym (take-append-drop count chunks)) ∙ flat_map-append (λ chunk. chunk) front back in
    omega (arith, ap length parts, length-append (slots_of front) (slots_of back))

pub small_kept : (t : ColumnType) (name : List ℕ) (flag : SortedFlag) (count : ℕ) (chunks made : List (List Slot)) → made ≡ take count chunks →
    IsSmallColumn (column_of t name flag chunks) → IsSmallColumn (column_of t name NotSorted made)
small_kept t name flag count chunks made e small =
    rw e (record {
      flag_true = tt;
      small = omega (arith, few_kept count chunks, small.small);
      few = omega (arith, length-map (take count chunks) (length {A = Slot}), length-map chunks (length {A = Slot}), length-take count chunks, small.few);
    })
