use Rattle.std.proofs.Common.{ℤ, List, ◌+◌, ◌-◌, ◌++◌, take, drop, map, ◌∙◌, ap}
use Rattle.std.proofs.lemmas.List.{map-append}
use Rattle.gb_defs.specs.ColumnType.{FitsNumber}
use Rattle.gb_defs.specs.Slot.{Num}
use Rattle.gb_values.proofs.NumberLemmas.{all_part}
use Rattle.gb_values.proofs.ValueLemmas.{part_mapped, values_part}
use Rattle.gb_values.proofs.primitive.NumberValuesValues.extend_from.Goals as goal

pub invariant_of-self-2 : goal.invariant_of-self-2
invariant_of-self-2 g c =
    let number = g.T.Native.Native.number in
    let start = c.args.start in
    let count = c.args.count in
    let values = c.self.inside.values.items in
    let others = c.other.inside.values.items in
    let more = c.in_ok-extend_from_slice.ensures.items ∙ ap (λ vs. values ++ take ((start + count) - start) (drop start vs)) c.as_slice.ensures.value in
    all_part (FitsNumber g.T.Native.Native.flat) number values others c.extend_from_slice.new.self.items start count more c.self.invariant c.other.invariant

pub returns-clause-ok : goal.returns-clause-ok
returns-clause-ok g c =
    let number = g.T.Native.Native.number in
    let start = c.args.start in
    let count = c.args.count in
    let values = c.self.inside.values.items in
    let others = c.other.inside.values.items in
    let more = c.in_ok-extend_from_slice.ensures.items ∙ ap (λ vs. values ++ take ((start + count) - start) (drop start vs)) c.as_slice.ensures.value in
    let part = λ (ns : List ℤ). take count (drop start ns) in
    ap (map (λ n. Num n)) (values_part number values others c.extend_from_slice.new.self.items start count more ∙ ap (λ ns. ns ++ part (map number others)) c.self.view_is
    ∙ ap (λ ns. c.args.self.now ++ part ns) c.other.view_is)
    ∙ map-append (λ n. Num n) c.args.self.now (part c.args.other.now)
    ∙ ap (λ ss. map (λ n. Num n) c.args.self.now ++ ss) (part_mapped (λ n. Num n) c.args.other.now start count)
