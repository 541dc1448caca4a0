use Rattle.std.proofs.Common.{◌∙◌, ap}
use Rattle.gb_defs.specs.Slot.{Nil}
use Rattle.gb_cols.specs.Column.{pushed}
use Rattle.gb_base.specs.PlSmallStr.{name_of}
use Rattle.gb_cols.proofs.NullLemmas.{null_pushed}
use Rattle.gb_cols.proofs.null.NullChunked.put_null.Goals as goal

pub returns : goal.returns
returns c = null_pushed (name_of c.self.inside.name) c.self.inside.earlier.items c.self.inside.last ∙ ap (λ v. pushed v Nil) c.self.view_is
