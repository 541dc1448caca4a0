use Rattle.std.proofs.Common.{◌+◌, ◌<◌, ◌∙◌, Bool, Some, map, drop, cond, length, ap, arith}
use Rattle.gb_defs.specs.Fault.{SchemaMismatch}
use Rattle.gb_series.specs.Append.{type_fault}
use Rattle.gb_series.specs.Series.{value_of}
use Rattle.gb_series.proofs.AppendLemmas.{types_at}
use Rattle.gb_series.proofs.TypeLemmas.{type_test}
use Rattle.gb_series.proofs.append.first_unlike.Goals as goal

pub returns-then-not-same_type-clause-some : goal.returns-then-not-same_type-clause-some
returns-then-not-same_type-clause-some c =
    let columns = c.args.columns.now in
    let others = c.args.others.now in
    let at = c.loop-place.place in
    let column = c.index-columns-place.result in
    let other = c.index-others-place.result in
    let there : at < length others = omega (arith, c.loop-place-test.true, c.requires) in
    let test = type_test c.same_type.result (value_of column).dtype (value_of other).dtype c.same_type.ensures ∙ c.if-not-same_type.true in
    c.loop-place.invariant ∙ types_at value_of columns others at column other c.loop-place-test.true there c.index-columns-place.is c.index-others-place.is
    ∙ ap (λ (b : Bool). cond b (type_fault (map value_of (drop (at + 1) columns)) (map value_of (drop (at + 1) others))) (Some (SchemaMismatch (value_of column).name))) test

pub loop-place-preserved : goal.loop-place-preserved
loop-place-preserved c =
    let columns = c.args.columns.now in
    let others = c.args.others.now in
    let at = c.loop-place.place in
    let column = c.index-columns-place.result in
    let other = c.index-others-place.result in
    let there : at < length others = omega (arith, c.loop-place-test.true, c.requires) in
    let test = type_test c.same_type.result (value_of column).dtype (value_of other).dtype c.same_type.ensures ∙ c.if-not-same_type.false in
    c.loop-place.invariant ∙ types_at value_of columns others at column other c.loop-place-test.true there c.index-columns-place.is c.index-others-place.is
    ∙ ap (λ (b : Bool). cond b (type_fault (map value_of (drop (at + 1) columns)) (map value_of (drop (at + 1) others))) (Some (SchemaMismatch (value_of column).name))) test
