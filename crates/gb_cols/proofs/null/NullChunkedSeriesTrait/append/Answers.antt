use Rattle.std.proofs.Common.{◌≡◌, ◌∙◌, ap, arith, ◌++◌, ◌∷◌, []}
use Rattle.std.proofs.lemmas.Grind.{common_steps}
use Rattle.std.proofs.lemmas.List.{append_assoc}
use Rattle.gb_cols.specs.Column.{appended}
use Rattle.gb_cols.specs.Null.{null_column}
use Rattle.gb_base.specs.PlSmallStr.{name_of}
use Rattle.gb_cols.proofs.NullLemmas.{null_appended}
use Rattle.gb_cols.proofs.null.NullChunkedSeriesTrait.append.Goals as goal

pub returns-clause-ok : goal.returns-clause-ok
returns-clause-ok c =
    let name = name_of c.self.inside.name in
    let own = c.self.inside.earlier.items ++ c.self.inside.last ∷ [] in
    let more = c.other.inside.earlier.items ++ c.other.inside.last ∷ [] in
    let both : c.append.new.self.items ++ c.replace.new.dest ∷ [] ≡ own ++ more = grind (arith, common_steps, append_assoc) in
    ap (null_column name) both ∙ null_appended name (name_of c.other.inside.name) own more
    ∙ ap (appended (null_column name own)) c.other.view_is ∙ ap (λ v. appended v c.args.other) c.self.view_is
