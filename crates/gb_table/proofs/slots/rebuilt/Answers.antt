use Rattle.std.proofs.Common.{arith, ◌<◌, length, map, ◌∙◌, ap, sym}
use Rattle.std.proofs.lemmas.List.{length-set, length-map, get_or-map}
use Rattle.gb_table.proofs.TableLemmas.{table_next}
use Rattle.gb_table.proofs.slots.rebuilt.Goals as goal

pub loop-number-preserved : goal.loop-number-preserved
loop-number-preserved g c =
    let entries = c.args.entries.now in
    let number = c.loop-number.number in
    let inside : number < length (map g.E.Hashed.hash_of entries) = omega (arith, length-map entries g.E.Hashed.hash_of) in
    let read = get_or-map g.E.Hashed.hash_of entries number c.index-entries-number.result 0 (omega arith) in
    let hash = read ∙ ap g.E.Hashed.hash_of (sym c.index-entries-number.is) ∙ sym c.hash.ensures in
    record {
      table = table_next _ _ _ _ _ c.loop-number.invariant.table inside hash (rw c.deref.ensures.value at c.free_spot-at.ensures);
      len = length-set _ _ _ ∙ c.loop-number.invariant.len;
    }
