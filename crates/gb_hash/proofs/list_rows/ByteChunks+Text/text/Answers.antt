use Rattle.std.proofs.Common.{◌<◌, ◌-◌, Bor, List, ℕ, ◌∙◌, [], ap, arith, get_or, length, subst, sym}
use Rattle.gb_values.specs.Array.{start_of}
use Rattle.gb_hash.proofs.ChunkLemmas.{chunk_of, end_behind, ends_rise}
use Rattle.gb_hash.proofs.list_rows.ByteChunks+Text.text.Goals as goal

pub chunk_at-at-requires-clause-rising : goal.chunk_at-at-requires-clause-rising
chunk_at-at-requires-clause-rising c = rw c.deref.ensures.value (ends_rise c.self.inside.chunks.items c.self.inside.ends.items c.self.invariant)

pub chunk_at-at-requires-clause-inside : goal.chunk_at-at-requires-clause-inside
chunk_at-at-requires-clause-inside c =
    rw c.deref.ensures.value (end_behind c.self.inside.chunks.items c.self.inside.ends.items c.args.self.now c.args.i c.self.invariant c.self.view_is c.requires)

pub index-requires : goal.index-requires
index-requires c =
    let here = rw c.deref.ensures.value at c.chunk_at-at.ensures in
    let found = chunk_of c.self.inside.chunks.items c.self.inside.ends.items c.args.self.now c.args.i c.chunk_at-at.result c.self.invariant c.self.view_is here in
    omega (arith, found.within)

pub overflow_sub-i : goal.overflow_sub-i
overflow_sub-i c =
    let here = rw c.deref.ensures.value at c.chunk_at-at.ensures in
    rw (c.chunk_start.ensures, c.deref-3.ensures.value) here.from

pub get-requires : goal.get-requires
get-requires c =
    let ends = c.self.inside.ends.items in
    let at = c.chunk_at-at.result in
    let here = rw c.deref.ensures.value at c.chunk_at-at.ensures in
    let found = chunk_of c.self.inside.chunks.items ends c.args.self.now c.args.i at c.self.invariant c.self.view_is here in
    rw (c.chunk_start.ensures, c.deref-3.ensures.value)
    (subst (λ (chunk : Bor (List (List ℕ))). c.args.i - start_of 0 ends at < length chunk.now) (sym c.index.ensures) (found.inside c.index.result.now))

pub returns : goal.returns
returns c =
    let ends = c.self.inside.ends.items in
    let at = c.chunk_at-at.result in
    let here = rw c.deref.ensures.value at c.chunk_at-at.ensures in
    let found = chunk_of c.self.inside.chunks.items ends c.args.self.now c.args.i at c.self.invariant c.self.view_is here in
    let start = c.chunk_start.ensures ∙ ap (λ (es : List ℕ). start_of 0 es at) c.deref-3.ensures.value in
    c.get.ensures ∙ ap (λ (n : ℕ). get_or c.index.result.now.now (c.args.i - n) []) start
    ∙ ap (λ (chunk : Bor (List (List ℕ))). get_or chunk.now (c.args.i - start_of 0 ends at) []) c.index.ensures
    ∙ found.same c.index.result.now
