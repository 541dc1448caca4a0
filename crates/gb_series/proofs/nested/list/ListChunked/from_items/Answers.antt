use Rattle.std.proofs.Common.{◌∷◌, ◌∙◌, [], ap}
use Rattle.gb_base.specs.PlSmallStr.{name_of}
use Rattle.gb_cols.specs.Null.{null_column}
use Rattle.gb_series.specs.Series.{value_of}
use Rattle.gb_series.proofs.ListLemmas.{all_present, from_listed, from_view}
use Rattle.gb_series.proofs.nested.list.ListChunked.from_items.Goals as goal

pub invariant_of-result : goal.invariant_of-result
invariant_of-result c =
    let name = name_of c.args.name in
    let flags = all_present _ _ _ _ _ c.new-present.ensures.items c.new-present.ensures.len (c.len-count.ensures ∙ c.args.ends.ok.0) c.in_ok-resize.ensures.items in
    let rows = c.new.ensures ∙ ap (λ n. null_column name (n ∷ [])) (c.len-count.ensures ∙ c.args.ends.ok.0) in
    from_listed name c.args.ends.items (value_of c.args.items) c.requires c.new.result c.resize.new.self.items flags rows

pub returns-clause-ok : goal.returns-clause-ok
returns-clause-ok c =
    let name = name_of c.args.name in
    let flags = all_present _ _ _ _ _ c.new-present.ensures.items c.new-present.ensures.len (c.len-count.ensures ∙ c.args.ends.ok.0) c.in_ok-resize.ensures.items in
    let rows = c.new.ensures ∙ ap (λ n. null_column name (n ∷ [])) (c.len-count.ensures ∙ c.args.ends.ok.0) in
    from_view name c.args.ends.items (value_of c.args.items) c.requires c.new.result c.resize.new.self.items flags rows
