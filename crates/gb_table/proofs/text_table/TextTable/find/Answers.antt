use Rattle.std.proofs.Common.{ap, sym, ◌∙◌, position}
use Rattle.std.specs.Str.{bytes_eq}
use Rattle.gb_table.proofs.TextLemmas.{found_at, missed}
use Rattle.gb_table.proofs.text_table.TextTable.find.Goals as goal

pub returns-in-Known : goal.returns-in-Known
returns-in-Known c =
    sym (found_at c.self.inside.texts c.args.text.now c.in-Known.number c.self.invariant.differ c.in-Known.ensures.0 c.in-Known.ensures.1)
    ∙ ap (position (bytes_eq c.args.text.now)) c.self.view_is

pub returns-in-Free : goal.returns-in-Free
returns-in-Free c = sym (missed (bytes_eq c.args.text.now) c.self.inside.texts c.in-Free.ensures.1) ∙ ap (position (bytes_eq c.args.text.now)) c.self.view_is
