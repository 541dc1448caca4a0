use Rattle.std.proofs.Common.{◌≡◌, ◌∙◌, length, arith, sym}
use Rattle.gb_row_hash.proofs.ColumnLemmas.{null_hashes}
use Rattle.gb_row_hash.proofs.column_hash.NullChunkedVecHash.vec_hash.Goals as goal

pub returns-clause-ok : goal.returns-clause-ok
returns-clause-ok g c =
    let column = c.args.self.now in
    let mixer = c.args.random_state in
    let all : length column.slots ≡ c.loop-row._row = omega (arith, c.len-count.ensures.value, c.loop-row-test.false, c.loop-row.auto._row-end) in
    c.loop-row.invariant.more
    ∙ sym (null_hashes column.dtype (g.M.Mixer.seed_of mixer) (g.M.Mixer.mix_of mixer) column.slots c.loop-row._row c.hash_null-null.result c.allocator.ensures.nulls all c.hash_null-null.ensures)
