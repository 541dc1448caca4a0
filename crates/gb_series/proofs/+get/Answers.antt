use Rattle.std.proofs.Common.{◌≡◌, ◌∙◌, ◌<◌, ◌≤◌, ◌+◌, ◌++◌, [], ◌∷◌, ℕ, List, ap, arith, length, map, sym}
use Rattle.std.proofs.lemmas.List.{map-append}
use Rattle.gb_base.specs.AnyValue.{slot_of}
use Rattle.gb_defs.specs.Slices.{between}
use Rattle.gb_defs.specs.Slot.{Slot, slot_at}
use Rattle.gb_series.specs.Series.{value_of}
use Rattle.gb_series.proofs.FieldLemmas.{all_at, depth_read}
use Rattle.gb_series.proofs.TextLemmas.{between_more}
use Rattle.gb_series.proofs.+get.Goals as goal

pub value::values_across-get-requires : goal.value::values_across-get-requires
value::values_across-get-requires t c =
    let fields = c.args.fields.now in
    let at = c.loop-field.field-index in
    let field = c.field-item.result in (
      omega (arith, c.decreases, depth_read value_of fields at field c.loop-field-test.true c.field-item.is),
      all_at value_of (λ f. c.args.row < length f.slots) fields at field c.loop-field-test.true c.field-item.is c.requires,
    )

-- one item more
values_more : {V : Type 0} (slot : V → Slot) (start place : ℕ) (slots : List Slot) (before after : List V) (v : V) → start ≤ place → place < length slots → map slot before ≡ between start place slots →
    after ≡ before ++ v ∷ [] → slot v ≡ slot_at slots place → map slot after ≡ between start (place + 1) slots
values_more slot start place slots before after v low lt so_far is here =
    ap (map slot) is ∙ map-append slot before (v ∷ []) ∙ ap (λ ss. ss ++ slot v ∷ []) so_far
    ∙ ap (λ (s : Slot). between start place slots ++ s ∷ []) here ∙ sym (between_more start place slots low lt)

pub value::values_of_row-loop-place-preserved : goal.value::values_of_row-loop-place-preserved
value::values_of_row-loop-place-preserved t c =
    let slots = (value_of c.args.items.now).slots in
    let so_far = c.loop-place.invariant in
    let lt : c.loop-place.place < length slots = omega (arith, c.loop-place-test.true, c.requires.high) in
    record {
      values = values_more slot_of c.start_at-start.result c.loop-place.place slots c.loop-place.values.items c.push.new.self.items c.in_ok-get.field-0 so_far.low lt so_far.values c.in_ok-push.ensures.items c.in_ok-get.ensures.slot;
      low = omega (arith, so_far.low);
      high = omega (arith, c.loop-place-test.true);
    }
