use Rattle.std.proofs.Common.{◌<◌, [], length, ◌∙◌, ap, arith}
use Rattle.std.proofs.lemmas.List.{length-map}
use Rattle.gb_defs.specs.ColumnType.{Flat}
use Rattle.gb_defs.specs.Slot.{Bytes}
use Rattle.gb_values.proofs.SlotOrderLemmas.{bytes_compare}
use Rattle.gb_values.proofs.ValueLemmas.{value_at}
use Rattle.gb_values.proofs.bytes.ByteValuesValues.cmp_at.Goals as goal

pub returns : goal.returns
returns g c =
    let values = c.args.self.now in
    let others = c.args.other.now in
    let lt : c.args.i < length values = omega (arith, c.requires.inside, length-map values (λ bytes. Bytes bytes)) in
    let other_lt : c.args.j < length others = omega (arith, c.requires.other_inside, length-map others (λ bytes. Bytes bytes)) in
    let first = ap (λ bytes. Bytes bytes) c.bytes_at.ensures.value ∙ value_at (λ bytes. Bytes bytes) values [] c.args.i lt in
    let second = ap (λ bytes. Bytes bytes) c.bytes_at-2.ensures.value ∙ value_at (λ bytes. Bytes bytes) others [] c.args.j other_lt in
    let compares = bytes_compare (Flat g.K.ByteKind.flat) c.bytes_at.result.now c.bytes_at-2.result.now c.cmp.result c.cmp.ensures in
    rw (first, second) at compares
