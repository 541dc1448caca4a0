use Rattle.std.proofs.Common.{◌≡◌, ◌∙◌, ◌++◌, ◌∷◌, [], ap, arith, length-append, sym, take}
use Rattle.std.proofs.lemmas.List.{take_all}
use Rattle.gb_base.specs.PlSmallStr.{name_of}
use Rattle.gb_base.specs.Sorted.{flag_of}
use Rattle.gb_cols.specs.Column.{first_chunks}
use Rattle.gb_cols.proofs.KeptLemmas.{column_kept, front_kept, small_kept}
use Rattle.gb_cols.proofs.chunked.ChunkedArrayUndoAppend.keep_chunks.Goals as goal

pub invariant_of-self : goal.invariant_of-self
invariant_of-self g c =
    let own = c.self.inside.earlier.items in
    let last = c.self.inside.last in
    let kept : c.pop_chunk.new.chunks.items ++ c.pop_chunk.result ∷ [] ≡ take c.args.count (own ++ last ∷ []) = c.pop_chunk.ensures ∙ (rw c.truncate.ensures.items (front_kept [] last own c.args.count c.requires.some (omega (arith, c.if-count-len.true)))) in
    small_kept g.V.Values.dtype (name_of c.self.inside.name) (flag_of c.self.inside.sorted) c.args.count (own ++ last ∷ []) (c.pop_chunk.new.chunks.items ++ c.pop_chunk.result ∷ []) kept c.self.invariant

pub returns-then-count-len : goal.returns-then-count-len
returns-then-count-len g c =
    let own = c.self.inside.earlier.items in
    let last = c.self.inside.last in
    let kept : c.pop_chunk.new.chunks.items ++ c.pop_chunk.result ∷ [] ≡ take c.args.count (own ++ last ∷ []) = c.pop_chunk.ensures ∙ (rw c.truncate.ensures.items (front_kept [] last own c.args.count c.requires.some (omega (arith, c.if-count-len.true)))) in
    column_kept g.V.Values.dtype (name_of c.self.inside.name) (flag_of c.self.inside.sorted) c.args.count (own ++ last ∷ []) (c.pop_chunk.new.chunks.items ++ c.pop_chunk.result ∷ []) kept
    ∙ ap (first_chunks c.args.count) c.self.view_is

pub returns-else-count-len : goal.returns-else-count-len
returns-else-count-len g c =
    let own = c.self.inside.earlier.items in
    let last = c.self.inside.last in
    let all = own ++ last ∷ [] in
    let kept : all ≡ take c.args.count all = sym (take_all c.args.count all (omega (arith, c.if-count-len.false, length-append own (last ∷ [])))) in
    column_kept g.V.Values.dtype (name_of c.self.inside.name) (flag_of c.self.inside.sorted) c.args.count all all kept
    ∙ ap (first_chunks c.args.count) c.self.view_is
