use Rattle.std.proofs.Common.{◌≤◌, ◌∙◌, ap, arith}
use Rattle.std.proofs.lemmas.Result.{IfOk-weaker}
use Rattle.gb_defs.specs.Column.{content}
use Rattle.gb_defs.specs.Groups.{Grouping, lists_in}
use Rattle.gb_series.specs.Series.{value_of}
use Rattle.gb_agg.specs.Folds.{folded}
use Rattle.gb_agg.specs.Method.{method_of}
use Rattle.gb_agg.proofs.GroupPartLemmas.{none_few, parts_alike, parts_few, parts_joined}
use Rattle.gb_agg.proofs.by_workers.aggregate_whole.Goals as goal

pub returns-then-workers-lt2-clause-ok : goal.returns-then-workers-lt2-clause-ok
returns-then-workers-lt2-clause-ok g c = IfOk-weaker c.aggregate.result _ _ (λ s e. ap content e) c.aggregate.ensures.ok

pub append_all-requires-clause-typed : goal.append_all-requires-clause-typed
append_all-requires-clause-typed g c =
    let column = value_of c.args.column.now in
    let aggregate_of = λ (p : Grouping). content (folded (method_of c.args.method) column (lists_in p)) in
    parts_alike c.args.method column c.args.groups.now c.min-workers.result c.in_ok-made.made.items (omega (arith, c.if-workers-lt2.false)) c.in_ok-made.ensures.len
    c.len-count.result c.len-count.ensures (λ k d lt. (c.in_ok-made.ensures.each k d lt).1.0) c.in_ok-none.none (ap content c.in_ok-none.ensures.ok ∙ ap aggregate_of c.part.ensures)

pub append_all-requires-clause-few : goal.append_all-requires-clause-few
append_all-requires-clause-few g c =
    let column = value_of c.args.column.now in
    let aggregate_of = λ (p : Grouping). content (folded (method_of c.args.method) column (lists_in p)) in
    let some : 1 ≤ c.min-workers.result = omega (arith, c.if-workers-lt2.false) in
    let none = none_few c.args.method column c.args.groups.now c.min-workers.result c.in_ok-made.made.items some c.in_ok-made.ensures.len
    c.len-count.result c.len-count.ensures (λ k d lt. (c.in_ok-made.ensures.each k d lt).1.0) c.in_ok-none.none (ap content c.in_ok-none.ensures.ok ∙ ap aggregate_of c.part.ensures) in
    let parts = parts_few c.args.method column c.args.groups.now c.min-workers.result c.in_ok-made.made.items some c.in_ok-made.ensures.len
    c.len-count.result c.len-count.ensures (λ k d lt. (c.in_ok-made.ensures.each k d lt).1.0) in
    omega (arith, none, parts, c.requires.groups.few)

pub returns-clause-ok : goal.returns-clause-ok
returns-clause-ok g c =
    let column = value_of c.args.column.now in
    let aggregate_of = λ (p : Grouping). content (folded (method_of c.args.method) column (lists_in p)) in
    let joined = parts_joined c.args.method column c.args.groups.now c.min-workers.result c.in_ok-made.made.items (omega (arith, c.if-workers-lt2.false)) c.in_ok-made.ensures.len
    c.len-count.result c.len-count.ensures (λ k d lt. (c.in_ok-made.ensures.each k d lt).1.0) c.in_ok-none.none (ap content c.in_ok-none.ensures.ok ∙ ap aggregate_of c.part.ensures) in
    IfOk-weaker c.append_all.result _ _ (λ s e. e ∙ joined) c.append_all.ensures.ok
