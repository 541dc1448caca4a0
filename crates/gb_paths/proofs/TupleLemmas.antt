-- Groups in the order of their first rows, whatever the path.
use Rattle.std.proofs.Common.{◌≡◌, ℕ, pos, Bool, true, false, List, [], ◌∷◌, filter, length, refl, sym, ◌∙◌, ap}
use Rattle.std.specs.List.{flat_map, range_with_len}
use Rattle.gb_defs.specs.Column.{ColumnValue}
use Rattle.gb_defs.specs.ColumnType.{ColumnType, ArrayOf, Flat, ListOf, StructOf}
use Rattle.gb_defs.specs.Classes.{firsts, groups, rows_below, same_slot}
use Rattle.gb_defs.specs.Groups.{idx_groups}
use Rattle.gb_defs.specs.Hash.{hash_of, hash_width, seed_mix}
use Rattle.gb_defs.specs.Slot.{Slot, Num, slot_at, slot_eq}
use Rattle.gb_defs.specs.Rows.{Rows, StandsFor, same_slot_at}
use Rattle.gb_defs.specs.Path.{Path, Nulls, Sorted, Perfect, Table, Threaded, code_count, path_groups, perfect_pairs}
use Rattle.gb_defs.proofs.PathLemmas.{path_groups_alike}
use Rattle.gb_base.specs.Pool.{partitions_of, seed_of}
use Rattle.gb_base.specs.declared.pool.Pool.{Pool}
use Rattle.gb_runs.specs.Codes.{rows_in}
use Rattle.gb_runs.specs.Runs.{AreTogether, StandTogether}
use Rattle.gb_paths.specs.Keys.{AreCodesOf, StandFor, hashed_slot, key_rows, rows_of_keys}
use Rattle.gb_paths.specs.Tuples.{column_path, key_path_value, ordered, tuples_of, tuples_on}
use Rattle.gb_paths.specs.declared.keys.Keys.{Keys}
use Rattle.gb_paths.specs.declared.path.KeyOrder.{KeyOrder}
use Rattle.gb_paths.specs.declared.path.KeyPath.{KeyPath}
use Rattle.gb_paths.specs.declared.path.KeyPath.TheVariants as keyed

pub sorted_path : (path : Path) (rows : Rows) (codes n : ℕ) → (path_groups path rows codes n true).pairs ≡ groups (same_slot_at rows.slot) (rows_below rows.count)
sorted_path Nulls rows codes n = refl
sorted_path Sorted rows codes n = refl
sorted_path Perfect rows codes n = refl
sorted_path Table rows codes n = refl
sorted_path Threaded rows codes n = refl

pub sorted_tuples : (column : ColumnValue) (multithreaded : Bool) (pool : Pool) → (tuples_of column multithreaded true pool).pairs ≡ groups (same_slot column.slots) (rows_below (length column.slots))
sorted_tuples column multithreaded pool = sorted_path (column_path column multithreaded pool) (key_rows (seed_of pool) column) (code_count column.dtype) (partitions_of pool)

-- rows that stand for others have their groups by their keys, however many codes there are
stood_groups : (path : KeyPath) (own rows : Rows) → StandsFor own rows → (codes n : ℕ) (sorted : Bool) →
    path_groups (key_path_value path) rows 0 n sorted ≡ path_groups (key_path_value path) own codes n sorted
stood_groups keyed.Table own rows stand codes n sorted = sym (path_groups_alike own rows stand codes n Table sorted tt)
stood_groups keyed.Threaded own rows stand codes n sorted = sym (path_groups_alike own rows stand codes n Threaded sorted tt)

pub keys_grouped : (column : ColumnValue) (keys : Keys) (path : KeyPath) (sorted : Bool) (pool : Pool) → StandFor column keys →
    path_groups (key_path_value path) (rows_of_keys (seed_of pool) keys) 0 (partitions_of pool) sorted ≡ tuples_on (key_path_value path) column sorted pool
keys_grouped column keys path sorted pool stand =
    stood_groups path (key_rows (seed_of pool) column) (rows_of_keys (seed_of pool) keys) (stand.rows (seed_of pool)) (code_count column.dtype) (partitions_of pool) sorted

-- rows of slots that stand together stand together
pub slots_together : (slots : List Slot) → AreTogether slots → StandTogether (rows_in slots)
slots_together slots together = record { between = together.between }

-- ---- codes

none_coded : (slot : ℕ → Slot) (codes : List ℕ) → flat_map (λ code. filter (λ i. slot_eq (slot i) (Num (pos code))) []) codes ≡ []
none_coded slot [] = refl
none_coded slot (code ∷ codes) = none_coded slot codes

none_perfect : (rows : Rows) (codes : ℕ) (sorted : Bool) → rows.count ≡ 0 → perfect_pairs rows codes sorted ≡ []
unfolding groups firsts
none_perfect rows codes true none = rw none refl
none_perfect rows codes false none = rw (none, none_coded rows.slot (range_with_len 0 codes)) refl

-- no rows have no groups, which are in order
pub no_tuples : (column : ColumnValue) (sorted : Bool) (pool : Pool) → length column.slots ≡ 0 → idx_groups [] true ≡ tuples_on Perfect column sorted pool
no_tuples column sorted pool none =
    let pairs = none_perfect (key_rows (seed_of pool) column) (code_count column.dtype) sorted none in
    rw pairs refl

-- the groups of codes are those of the column that they are of
pub code_tuples : (column codes : ColumnValue) (count : ℕ) (sorted : Bool) (pool : Pool) → AreCodesOf column codes count →
    path_groups Perfect (rows_in codes.slots) count 0 sorted ≡ tuples_on Perfect column sorted pool
code_tuples column codes count sorted pool are =
    ap (λ slots. path_groups Perfect (rows_in slots) count 0 sorted) are.slots ∙ ap (λ n. path_groups Perfect (rows_in column.slots) n 0 sorted) (sym are.texts)

-- ---- what is known of a column's order

hashed_alike : (t : ColumnType) (order : KeyOrder) (column : ColumnValue) (row : ℕ) → hashed_slot t (ordered order column) row ≡ hashed_slot t column row
hashed_alike (Flat t) order column row = refl
hashed_alike (ListOf t) order column row = refl
hashed_alike (ArrayOf t n) order column row = refl
hashed_alike (StructOf parts) order column row = refl

-- it changes no key
pub ordered_rows : (seed : ℕ) (order : KeyOrder) (column : ColumnValue) → key_rows seed column ≡ key_rows seed (ordered order column)
ordered_rows seed order column k = record {
  count = length column.slots;
  slot = slot_at column.slots;
  hash = λ row. hash_of (hash_width column.dtype) seed seed_mix (sym (hashed_alike column.dtype order column row) k);
}
