use Rattle.std.proofs.Common.{arith, ◌≡◌, ◌∙◌, ℕ, ◌*◌, ◌<◌, ◌≤◌, List, Vec, ap, get_or, length}
use Rattle.std.proofs.lemmas.Grind.{div_ceil_times}
use Rattle.std.proofs.lemmas.List.FromFn.{length-map-range_with_len}
use Rattle.gb_defs.specs.Flat.{range_at}
use Rattle.gb_defs.specs.Rows.{Rows}
use Rattle.gb_defs.proofs.PartitionLemmas.{map_flat_map}
use Rattle.gb_flat.specs.Buffers.{joined}
use Rattle.gb_flat.proofs.RangeLemmas.{ranges_joined}
use Rattle.gb_paths.specs.Hashes.{chunk_at, chunks_from, hash_in, items_of}
use Rattle.gb_paths.proofs.HashLemmas.{chunks_are, chunks_hashed}
use Rattle.gb_paths.proofs.row_hashes.hash_rows_par.Goals as goal

-- the chunks that each worker made are all chunks
all_chunks : {A B : Type 0} (rows : Rows) (n m : ℕ) (made : List (Vec (Vec ℕ A) B)) (chunks : List (Vec ℕ A)) → 1 ≤ m → length made ≡ m → chunks ≡ joined made →
    ((k : ℕ) (d : Vec (Vec ℕ A) B) → k < m → items_of (get_or made k d).items ≡ chunks_from rows (range_at n m k)) → items_of chunks ≡ chunks_from rows (0, n)
all_chunks rows n m made chunks some long is each =
    ap items_of is ∙ map_flat_map (λ chunk. chunk.items) (λ share. share.items) made ∙ ranges_joined (λ share. items_of share.items) (chunk_at rows) n m made some long each

pub invariant_of-result : goal.invariant_of-result
invariant_of-result g c =
    let rows = g.R.KeyRows.rows c.args.rows.now in
    let count = c.len-count.result in
    let n = c.div_ceil-n_chunks.result in
    let all : count ≤ n * 8192 = rw c.div_ceil-n_chunks.ensures (div_ceil_times count 8192 (omega arith)).0 in
    chunks_are rows count n c.len-count.ensures all _
    (all_chunks rows n c.max-workers.result c.in_ok-made.made.items _ (omega arith) c.in_ok-made.ensures.len c.in_ok-chunks.ensures (λ k d lt. (c.in_ok-made.ensures.each k d lt).1.0))

pub returns-clause-hashes : goal.returns-clause-hashes
returns-clause-hashes g c =
    let rows = g.R.KeyRows.rows c.args.rows.now in
    let count = c.len-count.result in
    let n = c.div_ceil-n_chunks.result in
    let all : count ≤ n * 8192 = rw c.div_ceil-n_chunks.ensures (div_ceil_times count 8192 (omega arith)).0 in
    chunks_hashed rows count n c.len-count.ensures all _
    (all_chunks rows n c.max-workers.result c.in_ok-made.made.items _ (omega arith) c.in_ok-made.ensures.len c.in_ok-chunks.ensures (λ k d lt. (c.in_ok-made.ensures.each k d lt).1.0))

pub returns-clause-all : goal.returns-clause-all
returns-clause-all g c = length-map-range_with_len (hash_in c.in_ok-chunks.chunks.items) 0 c.len-count.result ∙ c.len-count.ensures
