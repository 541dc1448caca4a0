use Rattle.std.proofs.Common.{◌∙◌, ap, sym}
use Rattle.std.specs.Str.{bytes_eq}
use Rattle.gb_frame.proofs.GroupByLemmas.{key_named, key_other}
use Rattle.gb_frame.proofs.selection.is_key.Goals as goal

pub returns-then-eq : goal.returns-then-eq
returns-then-eq c =
    key_named c.args.name.now c.args.keys.now c.loop-key.key-index c.key-item.result c.loop-key-test.true c.key-item.is
    (ap (bytes_eq c.args.name.now) (sym (c.as_str.ensures ∙ c.name.ensures)) ∙ sym c.if-eq.ensures)

pub loop-key-preserved : goal.loop-key-preserved
loop-key-preserved c =
    key_other c.args.name.now c.args.keys.now c.loop-key.key-index c.key-item.result c.loop-key-test.true c.key-item.is c.loop-key.invariant
    (ap (bytes_eq c.args.name.now) (sym (c.as_str.ensures ∙ c.name.ensures)) ∙ sym c.if-eq.ensures)
