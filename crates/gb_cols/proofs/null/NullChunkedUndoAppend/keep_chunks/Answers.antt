use Rattle.std.proofs.Common.{◌≡◌, ◌∙◌, ◌++◌, ◌∷◌, [], ap, arith, length-append, sym, take}
use Rattle.std.proofs.lemmas.List.{take_all}
use Rattle.gb_base.specs.PlSmallStr.{name_of}
use Rattle.gb_cols.specs.Column.{first_chunks}
use Rattle.gb_cols.proofs.KeptLemmas.{front_kept, nulls_kept, sum_kept}
use Rattle.gb_cols.proofs.null.NullChunkedUndoAppend.keep_chunks.Goals as goal

pub invariant_of-self : goal.invariant_of-self
invariant_of-self c =
    let own = c.self.inside.earlier.items in
    let last = c.self.inside.last in
    let kept : c.pop_count-self-inside.new.counts.items ++ c.pop_count-self-inside.result ∷ [] ≡ take c.args.count (own ++ last ∷ []) = c.pop_count-self-inside.ensures ∙ (rw c.truncate.ensures.items (front_kept 0 last own c.args.count c.requires.some (omega (arith, c.if-count-len.true)))) in
    rw kept (omega (arith, sum_kept c.args.count (own ++ last ∷ []), c.self.invariant))

pub returns-then-count-len : goal.returns-then-count-len
returns-then-count-len c =
    let own = c.self.inside.earlier.items in
    let last = c.self.inside.last in
    let kept : c.pop_count-self-inside.new.counts.items ++ c.pop_count-self-inside.result ∷ [] ≡ take c.args.count (own ++ last ∷ []) = c.pop_count-self-inside.ensures ∙ (rw c.truncate.ensures.items (front_kept 0 last own c.args.count c.requires.some (omega (arith, c.if-count-len.true)))) in
    nulls_kept (name_of c.self.inside.name) c.args.count (own ++ last ∷ []) (c.pop_count-self-inside.new.counts.items ++ c.pop_count-self-inside.result ∷ []) kept
    ∙ ap (first_chunks c.args.count) c.self.view_is

pub returns-else-count-len : goal.returns-else-count-len
returns-else-count-len c =
    let own = c.self.inside.earlier.items in
    let last = c.self.inside.last in
    let all = own ++ last ∷ [] in
    let kept : all ≡ take c.args.count all = sym (take_all c.args.count all (omega (arith, c.if-count-len.false, length-append own (last ∷ [])))) in
    sym c.self.view_is ∙ nulls_kept (name_of c.self.inside.name) c.args.count all all kept
    ∙ ap (first_chunks c.args.count) c.self.view_is
