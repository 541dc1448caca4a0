use Rattle.std.proofs.Common.{◌∙◌, ap, take}
use Rattle.gb_cols.specs.Column.{first_chunks}
use Rattle.gb_series.specs.Series.{value_of}
use Rattle.gb_series.proofs.ListLemmas.{undone_listed, undone_view}
use Rattle.gb_series.proofs.nested.list.ListChunkedUndoAppend.keep_chunks.Goals as goal

pub invariant_of-self : goal.invariant_of-self
invariant_of-self c =
    let own = c.self.inside in
    undone_listed own.rows own.present.items own.ends.items (value_of own.items) c.self.invariant c.args.count _ _ _ c.len-kept.result c.keep_chunks.ensures c.len-kept.ensures.chunks c.len-kept.ensures.value c.truncate.ensures.items c.truncate-2.ensures.items

pub returns : goal.returns
returns c =
    let own = c.self.inside in
    undone_view own.rows own.present.items own.ends.items (value_of own.items) c.self.invariant c.args.count _ _ _ c.len-kept.result c.keep_chunks.ensures c.len-kept.ensures.chunks c.len-kept.ensures.value c.truncate.ensures.items c.truncate-2.ensures.items
    ∙ ap (first_chunks c.args.count) c.self.view_is
