use Rattle.std.proofs.Common.{◌++◌, ◌∙◌, List, ℕ, [], None, ap, arith, length, map, subst}
use Rattle.std.specs.List.{All}
use Rattle.gb_defs.specs.Column.{ColumnValue, fresh_column}
use Rattle.gb_defs.specs.ColumnType.{Categorical, ColumnType, Fits, Flat}
use Rattle.gb_defs.specs.Slot.{Slot}
use Rattle.gb_defs.specs.Table.{coded_slot, texts_after}
use Rattle.gb_base.specs.DataType.{ordering_of}
use Rattle.gb_base.specs.PlSmallStr.{name_of}
use Rattle.gb_logical.specs.CategoricalBuilder.{decoded_slot}
use Rattle.gb_logical.proofs.BuilderLemmas.{decoded_more, so_far_more}
use Rattle.gb_logical.proofs.CodingLemmas.{after_few}
use Rattle.gb_logical.proofs.categorical.builder.CategoricalBuilder.push_texts.Goals as goal

pub code_column-requires : goal.code_column-requires
code_column-requires c =
    let slots = map (decoded_slot c.self.inside.known) c.self.inside.codes in
    omega (arith, c.requires, ap length c.replace-known.ensures.value, ap length c.self.invariant.coded.texts_are, after_few [] slots, ap (λ (v : ColumnValue). length v.slots) c.self.view_is)

pub invariant_of-self-2 : goal.invariant_of-self-2
invariant_of-self-2 c =
    let more = c.args.texts.now.slots in
    let fits = subst (λ (t : ColumnType). All (Fits t) more) c.allocator-alloc.ensures.typed c.len.ensures.fitting in
    let known = c.in_ok-code_column.ensures.known ∙ ap (λ (ts : List (List ℕ)). texts_after ts more) c.replace-known.ensures.value in
    let codes = c.in_ok-code_column.ensures.codes ∙ ap (λ (cs : List Slot). cs ++ map (coded_slot c.code_column.new.known) more) (c.reserve.ensures ∙ c.replace-codes.ensures.value) in
    so_far_more c.self.invariant more fits c.code_column.new.known c.code_column.new.codes known codes

pub returns-clause-ok : goal.returns-clause-ok
returns-clause-ok c =
    let more = c.args.texts.now.slots in
    let fits = subst (λ (t : ColumnType). All (Fits t) more) c.allocator-alloc.ensures.typed c.len.ensures.fitting in
    let known = c.in_ok-code_column.ensures.known ∙ ap (λ (ts : List (List ℕ)). texts_after ts more) c.replace-known.ensures.value in
    let codes = c.in_ok-code_column.ensures.codes ∙ ap (λ (cs : List Slot). cs ++ map (coded_slot c.code_column.new.known) more) (c.reserve.ensures ∙ c.replace-codes.ensures.value) in
    ap (fresh_column (name_of c.self.inside.name) (Flat (Categorical None (ordering_of c.self.inside.ordering))))
    (decoded_more c.self.invariant more fits c.code_column.new.known c.code_column.new.codes known codes)
    ∙ ap (λ (v : ColumnValue). fresh_column v.name v.dtype (v.slots ++ more)) c.self.view_is
