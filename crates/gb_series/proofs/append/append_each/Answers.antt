use Rattle.std.proofs.Common.{◌<◌, ◌∙◌, ℕ, map, length, sym, ap, subst, arith}
use Rattle.std.proofs.lemmas.List.{length-map, take_all}
use Rattle.gb_series.specs.Append.{appended_from}
use Rattle.gb_series.specs.Series.{value_of}
use Rattle.gb_series.proofs.AppendLemmas.{column_in, from_end, rest_front, turn_back, turn_few, turn_fits, turn_made, turn_typed}
use Rattle.gb_series.proofs.append.append_each.Goals as goal

pub loop-other-init : goal.loop-other-init
loop-other-init c =
    let columns = c.args.columns.now.items in
    let others = c.args.others.items in
    record {
      columns = sym (ap (λ (n : ℕ). appended_from n (map value_of columns) (map value_of others)) (sym (length-map others value_of)) ∙ from_end (map value_of columns) (map value_of others) c.requires.fit);
      left = sym (take_all (length others) others (omega arith));
    }

pub index_mut-requires : goal.index_mut-requires
index_mut-requires c =
    let within : c.len-place.result < length c.loop-other.columns.items = column_in value_of (map value_of c.args.columns.now.items) c.args.others.items c.loop-other.others.items c.pop.new.self.items c.loop-other.columns.items c.in-Some.other c.len-place.result (c.len-place.ensures ∙ c.pop.new.self.ok.0) c.requires.fit c.loop-other.invariant.columns c.loop-other.invariant.left c.in-Some.ensures.items in
    subst (λ n. c.len-place.result < n) (sym c.loop-other.columns.ok.0) within

pub append-requires-clause-typed : goal.append-requires-clause-typed
append-requires-clause-typed c = turn_typed value_of (map value_of c.args.columns.now.items) c.args.others.items c.loop-other.others.items c.pop.new.self.items c.loop-other.columns.items c.in-Some.other c.len-place.result (c.len-place.ensures ∙ c.pop.new.self.ok.0) c.requires.fit c.loop-other.invariant.columns c.loop-other.invariant.left c.in-Some.ensures.items c.index_mut.result.now c.index_mut.ensures.value

pub append-requires-clause-few : goal.append-requires-clause-few
append-requires-clause-few c = turn_few value_of (map value_of c.args.columns.now.items) c.args.others.items c.loop-other.others.items c.pop.new.self.items c.loop-other.columns.items c.in-Some.other c.len-place.result (c.len-place.ensures ∙ c.pop.new.self.ok.0) c.requires.fit c.loop-other.invariant.columns c.loop-other.invariant.left c.in-Some.ensures.items c.index_mut.result.now c.index_mut.ensures.value

pub undo_from-requires : goal.undo_from-requires
undo_from-requires c = turn_fits value_of (map value_of c.args.columns.now.items) c.args.others.items c.loop-other.others.items c.pop.new.self.items c.loop-other.columns.items c.in-Some.other c.len-place.result (c.len-place.ensures ∙ c.pop.new.self.ok.0) c.requires.fit c.loop-other.invariant.columns c.loop-other.invariant.left c.in-Some.ensures.items c.index_mut.result.now c.index_mut.ensures.value c.append.new.self c.args.marks.now c.requires.marks c.in-Err.ensures.unchanged

pub returns-in-Err-clause-unchanged : goal.returns-in-Err-clause-unchanged
returns-in-Err-clause-unchanged c = c.undo_from.ensures ∙ turn_back value_of (map value_of c.args.columns.now.items) c.args.others.items c.loop-other.others.items c.pop.new.self.items c.loop-other.columns.items c.in-Some.other c.len-place.result (c.len-place.ensures ∙ c.pop.new.self.ok.0) c.requires.fit c.loop-other.invariant.columns c.loop-other.invariant.left c.in-Some.ensures.items c.index_mut.result.now c.index_mut.ensures.value c.append.new.self c.args.marks.now c.requires.marks c.in-Err.ensures.unchanged

pub loop-other-preserved : goal.loop-other-preserved
loop-other-preserved c = record {
  columns = turn_made value_of (map value_of c.args.columns.now.items) c.args.others.items c.loop-other.others.items c.pop.new.self.items c.loop-other.columns.items c.in-Some.other c.len-place.result (c.len-place.ensures ∙ c.pop.new.self.ok.0) c.requires.fit c.loop-other.invariant.columns c.loop-other.invariant.left c.in-Some.ensures.items c.index_mut.result.now c.index_mut.ensures.value c.append.new.self c.in_default-append.ensures.ok;
  left = rest_front value_of (map value_of c.args.columns.now.items) c.args.others.items c.loop-other.others.items c.pop.new.self.items c.loop-other.columns.items c.in-Some.other c.len-place.result (c.len-place.ensures ∙ c.pop.new.self.ok.0) c.requires.fit c.loop-other.invariant.columns c.loop-other.invariant.left c.in-Some.ensures.items;
}
