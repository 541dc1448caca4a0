use Rattle.std.proofs.Common.{◌∙◌}
use Rattle.gb_text.proofs.TextLemmas.{begun_none}
use Rattle.gb_text.proofs.text.fresh_writer.Goals as goal

pub returns : goal.returns
returns c =
    let from = c.from_writer.ensures in
    begun_none c.from_writer.result (from.cfg ∙ c.new.ensures) (rw from.wtr c.in_ok-room.ensures.items) from.empty from.fields from.wrote
