use Rattle.std.proofs.Common.{◌++◌, ◌∷◌, ◌∙◌, List, ℕ, [], None, ap, arith, length, map, sym}
use Rattle.gb_defs.specs.Column.{ColumnValue, fresh_column}
use Rattle.gb_defs.specs.ColumnType.{Categorical, Flat}
use Rattle.gb_defs.specs.Slot.{Slot}
use Rattle.gb_defs.specs.Table.{coded_slot, with_text}
use Rattle.gb_base.specs.DataType.{ordering_of}
use Rattle.gb_base.specs.PlSmallStr.{name_of}
use Rattle.gb_values.specs.Array.{text_slot}
use Rattle.gb_cols.specs.Column.{pushed}
use Rattle.gb_logical.specs.CategoricalBuilder.{decoded_slot}
use Rattle.gb_logical.proofs.BuilderLemmas.{decoded_more, fits_one, pushed_fresh, so_far_more}
use Rattle.gb_logical.proofs.CodingLemmas.{after_few}
use Rattle.gb_logical.proofs.categorical.builder.CategoricalBuilder.push_text.Goals as goal

pub code_text-requires : goal.code_text-requires
code_text-requires c =
    let slots = map (decoded_slot c.self.inside.known) c.self.inside.codes in
    omega (arith, c.requires.room, ap length c.replace-known.ensures.value, ap length c.self.invariant.coded.texts_are, after_few [] slots, ap (λ (v : ColumnValue). length v.slots) c.self.view_is)

pub invariant_of-self-2 : goal.invariant_of-self-2
invariant_of-self-2 c =
    let more = text_slot c.args.text ∷ [] in
    let known = c.in_ok-code_text.ensures.known ∙ ap (λ (ts : List (List ℕ)). with_text ts (text_slot c.args.text)) c.replace-known.ensures.value in
    let codes = c.in_ok-code_text.ensures.codes ∙ ap (λ (cs : List Slot). cs ++ map (coded_slot c.code_text.new.known) more) c.replace-codes.ensures.value in
    so_far_more c.self.invariant more (fits_one c.args.text c.requires.utf8) c.code_text.new.known c.code_text.new.codes known codes

pub returns-clause-ok : goal.returns-clause-ok
returns-clause-ok c =
    let more = text_slot c.args.text ∷ [] in
    let known = c.in_ok-code_text.ensures.known ∙ ap (λ (ts : List (List ℕ)). with_text ts (text_slot c.args.text)) c.replace-known.ensures.value in
    let codes = c.in_ok-code_text.ensures.codes ∙ ap (λ (cs : List Slot). cs ++ map (coded_slot c.code_text.new.known) more) c.replace-codes.ensures.value in
    let name = name_of c.self.inside.name in
    let dtype = Flat (Categorical None (ordering_of c.self.inside.ordering)) in
    let before = map (decoded_slot c.self.inside.known) c.self.inside.codes in
    ap (fresh_column name dtype) (decoded_more c.self.invariant more (fits_one c.args.text c.requires.utf8) c.code_text.new.known c.code_text.new.codes known codes)
    ∙ sym (pushed_fresh name dtype before (text_slot c.args.text))
    ∙ ap (λ (v : ColumnValue). pushed v (text_slot c.args.text)) c.self.view_is
