use Rattle.std.proofs.Common.{◌∙◌, ◌++◌, ◌-◌, ap, length, replicate, take}
use Rattle.gb_defs.specs.Column.{taken}
use Rattle.gb_series.proofs.ListLemmas.{resized, taken_repeated}
use Rattle.gb_series.proofs.nested.list.ListChunkedSeriesTrait.new_from_index.Goals as goal

pub returns-clause-ok : goal.returns-clause-ok
returns-clause-ok c =
    let len = c.args.len in
    let rows = c.deref.ensures.value ∙ c.in_ok-resize.ensures.items ∙ ap (λ n. take len c.new-rows.result.items ++ replicate (len - n) c.in-Ok.row) c.new-rows.result.ok.0
    ∙ ap (λ xs. take len xs ++ replicate (len - length xs) c.in-Ok.row) c.new-rows.ensures.items
    ∙ resized len c.in-Ok.row ∙ ap (replicate len) c.in-Ok.ensures.1 in
    c.in_ok-repeated.ensures.ok ∙ ap (λ rs. taken rs c.args.self.now) rows ∙ taken_repeated c.args.i len c.args.self.now
