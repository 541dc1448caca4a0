use Rattle.std.proofs.Common.{◌∙◌, ap, subst, sym}
use Rattle.std.proofs.lemmas.List.{get_or-map, length-map}
use Rattle.gb_series.specs.Series.{value_of}
use Rattle.gb_frame.specs.Grouping.{HasRows}
use Rattle.gb_frame.proofs.columns.keys_at.Goals as goal

pub key_at-requires-clause-rows : goal.key_at-requires-clause-rows
key_at-requires-clause-rows c =
    let keys = c.args.keys.now in
    let i = c.loop-key.key-index in
    let key = c.key-item.result in
    let lt = c.loop-key-test.true in
    subst (HasRows c.args.rows.now)
    (get_or-map (λ lent. value_of lent.now) keys i key (value_of key.now) lt ∙ ap (λ lent. value_of lent.now) (sym c.key-item.is))
    (c.requires i (value_of key.now) (rw (length-map keys (λ lent. value_of lent.now)) lt))
