use Rattle.std.proofs.Common.{◌++◌, ◌∷◌, [], List, map, subst, sym}
use Rattle.std.proofs.lemmas.List.{map-append}
use Rattle.gb_defs.specs.Fold.{picked}
use Rattle.gb_defs.specs.Slot.{Slot, slot_at}
use Rattle.gb_agg.specs.Numbered.{HoldsCount}
use Rattle.gb_agg.proofs.numbered_counts.ValidRowsRowFold.with_row.Goals as goal

pub returns : goal.returns
returns g c = λ rows holds.
    let slots = (g.C.SeriesTrait.value c.args.self.now.column.now).slots in
    subst (λ (ss : List Slot). HoldsCount ss c.with_validity.result) (sym (map-append (slot_at slots) rows (c.args.row ∷ [])))
    (c.with_validity.ensures (picked slots rows) (slot_at slots c.args.row) c.is_valid.ensures holds)
