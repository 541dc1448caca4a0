use Rattle.std.proofs.Common.{◌∙◌, ap}
use Rattle.gb_cols.proofs.ChunkedLemmas.{fresh_alike}
use Rattle.gb_cols.proofs.chunked.ChunkedArraySeriesTrait.new_from_index.Goals as goal

pub returns-clause-ok : goal.returns-clause-ok
returns-clause-ok g c =
    let names = c.in_ok-name.ensures.ok ∙ ap (λ v. v.name) c.self.view_is in
    let types = ap (λ v. v.dtype) c.self.view_is in
    c.from_chunk.ensures ∙ fresh_alike names types c.in_ok-repeated.ensures
