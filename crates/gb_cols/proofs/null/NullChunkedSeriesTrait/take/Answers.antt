use Rattle.std.proofs.Common.{◌∙◌, ap, sym, subst, length, ◌<◌, ◌++◌, ◌∷◌, []}
use Rattle.std.specs.List.{All}
use Rattle.gb_defs.specs.Column.{ColumnValue, taken}
use Rattle.gb_cols.specs.Null.{null_column}
use Rattle.gb_base.specs.PlSmallStr.{name_of}
use Rattle.gb_cols.proofs.NullLemmas.{null_column_taken}
use Rattle.gb_cols.proofs.null.NullChunkedSeriesTrait.take.Goals as goal

pub returns-clause-ok : goal.returns-clause-ok
returns-clause-ok c =
    let rows = c.args.rows.now in
    let name = name_of c.self.inside.name in
    let chunks = c.self.inside.earlier.items ++ c.self.inside.last ∷ [] in
    let few = subst (λ (v : ColumnValue). All (λ row. row < length v.slots) rows) (sym c.self.view_is) c.requires in
    c.new.ensures ∙ ap (λ n. null_column n (length rows ∷ [])) c.in_ok-try_clone.ensures.ok ∙ null_column_taken name chunks rows few ∙ ap (taken rows) c.self.view_is
