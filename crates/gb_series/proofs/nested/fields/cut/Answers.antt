use Rattle.gb_series.specs.Series.{value_of}
use Rattle.gb_series.proofs.FieldLemmas.{cut_count, cut_kept}
use Rattle.gb_series.proofs.nested.fields.cut.Goals as goal

pub returns-clause-ok : goal.returns-clause-ok
returns-clause-ok c =
    cut_count (value_of c.args.field.now) _ c.args.count c.requires.long c.in_ok-field.ensures.ok

pub returns-clause-kept : goal.returns-clause-kept
returns-clause-kept c =
    cut_kept (value_of c.args.field.now) _ c.args.count c.requires.long c.in_ok-field.ensures.ok
