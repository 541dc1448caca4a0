use Rattle.std.proofs.Common.{◌≡◌, ◌∙◌, ◌+◌, ◌-◌, All, ap, arith, drop, map, subst, take}
use Rattle.std.specs.Borrow.{Bor}
use Rattle.std.proofs.lemmas.List.{get_or-map, length-map}
use Rattle.std.proofs.lemmas.List.Elements.{All-drop, All-map, All-take}
use Rattle.std.proofs.lemmas.Result.{IfOk-weaker}
use Rattle.std.proofs.lemmas.Simd.{map-map}
use Rattle.gb_defs.specs.Column.{ColumnValue, content, taken}
use Rattle.gb_series.specs.Series.{value_of}
use Rattle.gb_series.specs.declared.series.Series.{Series}
use Rattle.gb_frame.specs.Grouping.{HasRows, taken_at}
use Rattle.gb_frame.proofs.columns.keys_of_range.Goals as goal

pub keys_at-requires : goal.keys_at-requires
keys_at-requires c =
    let keys = c.args.keys.now in
    let rows = c.args.rows.now in
    let value : Bor Series → ColumnValue = λ lent. value_of lent.now in
    let all : All (λ (lent : Bor Series). HasRows rows (value lent)) keys = λ k d lt.
    subst (HasRows rows) (get_or-map value keys k d (value d) lt) (c.requires.rows k (value d) (rw (length-map keys value) lt)) in
    let n = c.args.range.0 + c.args.range.1 - c.args.range.0 in
    All-map (HasRows rows) value (take n (drop c.args.range.0 keys))
    (All-take (λ (lent : Bor Series). HasRows rows (value lent)) n (drop c.args.range.0 keys) (All-drop (λ (lent : Bor Series). HasRows rows (value lent)) c.args.range.0 keys all))

pub returns-clause-ok : goal.returns-clause-ok
returns-clause-ok c =
    let keys = c.args.keys.now in
    let rows = c.args.rows.now in
    let n = c.args.range.0 + c.args.range.1 - c.args.range.0 in
    let count : n ≡ c.args.range.1 = omega arith in
    IfOk-weaker c.keys_at.result _ _ (λ columns h. h
    ∙ map-map (λ (key : ColumnValue). content (taken rows key)) (λ (lent : Bor Series). value_of lent.now) (take n (drop c.args.range.0 keys))
    ∙ ap (λ m. map (taken_at rows) (take m (drop c.args.range.0 keys))) count) c.keys_at.ensures.ok
