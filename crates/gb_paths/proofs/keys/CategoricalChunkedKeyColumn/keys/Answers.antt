use Rattle.std.proofs.Common.{ap}
use Rattle.std.specs.Int.{w32}
use Rattle.gb_defs.specs.ColumnType.{Unsigned}
use Rattle.gb_paths.specs.PlainWords.{ArePlain}
use Rattle.gb_paths.proofs.KeyFormLemmas.{plain_codes_stand_for}
use Rattle.gb_paths.proofs.keys.CategoricalChunkedKeyColumn.keys.Goals as goal

pub returns-in-Some-clause-ok : goal.returns-in-Some-clause-ok
returns-in-Some-clause-ok c =
    let column = c.args.self.now in
    let physical = c.physical-physical.result.now in
    let codes = c.in-Some.codes in
    let plain : ArePlain (Unsigned w32) physical.slots codes.items = rw c.in-Some.is at c.in_ok-codes.ensures in
    plain_codes_stand_for column physical _ codes c.get_rev_map.ensures (ap (λ v. v.slots) c.physical-physical.ensures.column) plain
